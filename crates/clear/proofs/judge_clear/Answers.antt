use Rattle.clear.proofs.StageLaws.{clear-early, clear-twice, clear-0}
use Rattle.clear.proofs.judge_clear.Goals as goal

pub returns-then-not-s : goal.returns-then-not-s
returns-then-not-s c = clear-early c.args.s.now c.if-not-s.true

pub returns-then-s : goal.returns-then-s
returns-then-s c = clear-twice c.args.s.now c.if-s.true

pub returns : goal.returns
returns c = clear-0 c.args.s.now c.if-not-s.false c.if-s.false

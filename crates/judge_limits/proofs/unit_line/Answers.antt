use Rattle.judge_limits.specs.Limits.{line_at}
use Rattle.judge_limits.proofs.RightsLaws.{line-marked, line-bare, line-none, line-less}
use Rattle.judge_limits.proofs.unit_line.Goals as goal
use Rattle.judge_limits.proofs.unit_line.Goals.{then-unit-via-then-unit, then-unit-via-else-unit+then-not-rights}

pub returns-then-unit : goal.returns-then-unit
unfolding line_at
returns-then-unit c h = let line = rw c.unit_loss-loss.ensures at (c.border_limit.ensures h) in elim c.then-unit.branch [
  | then-unit-via-then-unit w ↦ line-marked _ _ h _ _ line w.if-unit.true
  | then-unit-via-else-unit+then-not-rights w ↦ line-bare _ _ h _ _ line w.if-unit.false w.if-not-rights.true
]

pub returns-in_default : goal.returns-in_default
unfolding line_at
returns-in_default c h = line-none _ _ h _ _ (rw c.unit_loss-loss.ensures at (c.border_limit-2.ensures h)) c.in_default.is

pub returns : goal.returns
unfolding line_at
returns c h =
    let l = c.less.ensures.long in
    line-less _ _ h _ _ (rw c.unit_loss-loss.ensures at (c.border_limit-2.ensures h)) c.if-unit.false c.if-not-rights.false _ _ c.in-Some.is l.0 l.1 l.2 c.less.ensures.left

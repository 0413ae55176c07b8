use Rattle.close.proofs.CloseLaws.{close-0, close-2}
use Rattle.close.proofs.GateClosingCall.judge.Goals as goal

pub returns-then-s-clause-judges : goal.returns-then-s-clause-judges
returns-then-s-clause-judges c = close-2 c.args.s.now c.if-s.true

pub returns-clause-judges : goal.returns-clause-judges
returns-clause-judges c = close-0 c.args.s.now c.if-s.false

use Rattle.std.proofs.Common.{arith}
use borrow.Author.Tests.{eq-eqb, ne_eqb}
use Rattle.hour_borders.proofs.LimitLaws.{across-even, across-odd}
use Rattle.hour_borders.proofs.across.Goals as goal

pub returns-then-d-eq0-clause-index : goal.returns-then-d-eq0-clause-index
returns-then-d-eq0-clause-index c = omega (arith, across-even c.args.d (eq-eqb _ _ c.if-d-eq0.true))

pub returns-else-d-eq0-clause-index : goal.returns-else-d-eq0-clause-index
returns-else-d-eq0-clause-index c = omega (arith, across-odd c.args.d (ne_eqb _ _ c.if-d-eq0.false))

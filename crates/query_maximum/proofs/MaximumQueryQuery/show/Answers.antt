use mathlib.Core.Bool.{not}
use native.Mathlib.Omega.{arith}
use Rattle.hour_borders.proofs.DirectionLaws.{direction-small}
use Rattle.query_maximum.proofs.ShownLaws.{maximum-shown, maximum-absent}
use Rattle.query_maximum.proofs.MaximumQueryQuery.show.Goals as goal

pub figure-requires-clause-direction : goal.figure-requires-clause-direction
figure-requires-clause-direction c = let f = c.requires in rw f.direction (direction-small c.args.self.border c.args.self.export (omega (arith, f.borders.high)))

pub figure-requires-clause-other : goal.figure-requires-clause-other
figure-requires-clause-other c = let f = c.requires in rw f.other (direction-small c.args.self.border (not c.args.self.export) (omega (arith, f.borders.high)))

pub returns-in-Some : goal.returns-in-Some
returns-in-Some c = rw c.figure.ensures (λ b sound e. maximum-shown _ _ _ _ _ c.requires b sound e _ c.in-Some.is c.args.self.maximum)

pub returns-in-None : goal.returns-in-None
returns-in-None c = rw c.absent.ensures (λ b sound e. maximum-absent _ _ _ _ _ c.requires b sound e c.in-None.is c.args.self.maximum)

use Rattle.std.proofs.Common.{get_or, None}
use Rattle.hour_borders.specs.Limits.{maximum_in}
use Rattle.hour_borders.proofs.LimitLaws.{Filled}
use Rattle.hour_borders.proofs.maxima.Given as goal

abbrev pub invariant-loop-d : goal.invariant-loop-d
invariant-loop-d l = Filled None (λ v. maximum_in (get_or l.capacities v None) l.executions l.market (get_or l.legacy v 0) v) l.d l.maxima

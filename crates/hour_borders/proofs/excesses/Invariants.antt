use Rattle.hour_borders.specs.Limits.{excess_in}
use Rattle.hour_borders.proofs.LimitLaws.{Filled}
use Rattle.hour_borders.proofs.excesses.Given as goal

abbrev pub invariant-loop-d : goal.invariant-loop-d
invariant-loop-d l = Filled 0 (excess_in l.maxima l.market) l.d l.over

use Rattle.std.proofs.Common.{◌≡◌, ◌+◌, length}
use Rattle.hour_offers.specs.View.{executions_in}
use Rattle.hour.specs.Units.{last_ones, same_unit}
use Rattle.hour.proofs.units.count_units.Given as goal

abbrev pub invariant-loop-x : goal.invariant-loop-x
invariant-loop-x l =
    l.count + length (last_ones same_unit (executions_in l.left)) ≡ length (last_ones same_unit (executions_in l.lodgements))

abbrev pub decreases-loop-x : goal.decreases-loop-x
decreases-loop-x l = length l.left

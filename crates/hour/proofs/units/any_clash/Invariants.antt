use Rattle.std.proofs.Common.{◌≡◌, length}
use Rattle.hour_offers.specs.View.{executions_in}
use Rattle.hour.specs.Units.{any_pair, clash}
use Rattle.hour.proofs.units.any_clash.Given as goal

abbrev pub invariant-loop-x : goal.invariant-loop-x
invariant-loop-x l = any_pair clash (executions_in l.left) ≡ any_pair clash (executions_in l.lodgements)

abbrev pub decreases-loop-x : goal.decreases-loop-x
decreases-loop-x l = length l.left

use Rattle.std.proofs.Common.{◌≤◌, map, true, false}
use Rattle.listed.specs.View.{Lists}
use Rattle.clear_gather.specs.Built.{chosen, offer_on, execution_on}
use Rattle.clear_gather.proofs.gather.Given as goal

abbrev pub invariant-loop-i : goal.invariant-loop-i
invariant-loop-i l =
    Lists l.hour.offers (map (offer_on l.s l.holders l.k) (chosen l.s l.i false l.k)) × Lists l.hour.executions (map (execution_on l.s l.holders l.k) (chosen l.s l.i true l.k))
    × (l.hour.offers.count ≤ l.i) × (l.hour.executions.count ≤ l.i)

use Rattle.std.proofs.Common.{◌≡◌, ◌++◌, take, drop}
use Rattle.rules.specs.Executions.{less_each}
use Rattle.hour_offers.specs.View.{executions_in}
use Rattle.hour_cut.proofs.reduce.Given as goal

abbrev pub invariant-loop-i : goal.invariant-loop-i
invariant-loop-i l =
    executions_in (take l.i l.executions) ++ less_each (drop l.i l.lost) (executions_in (drop l.i l.executions)) ≡ less_each l.lost (executions_in l.fn.executions)

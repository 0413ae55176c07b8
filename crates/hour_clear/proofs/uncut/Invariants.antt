use Rattle.std.proofs.Common.{◌≡◌, take}
use Rattle.listed.specs.View.{listed}
use Rattle.hour_clear.proofs.uncut.Given as goal

abbrev pub invariant-loop-execution : goal.invariant-loop-execution
invariant-loop-execution l = (listed l.uncut ≡ take l.execution-index l.executions) × (l.uncut.count ≡ l.execution-index)

use Rattle.std.proofs.Common.{◌≡◌, ◌++◌, take}
use Rattle.hour.proofs.units.add.Given as goal

abbrev pub invariant-loop-execution : goal.invariant-loop-execution
invariant-loop-execution l = l.lodgements.items ≡ l.fn.lodgements.items ++ take l.execution-index l.executions

use Rattle.rules.specs.Lists.{from}
use mathlib.Core.Path.{◌≡◌}
use Prim.Native.Nat.{◌≤◌}
use Rattle.listed.specs.View.{listed}
use Rattle.judge_loads.specs.Loads.{marked}
use Rattle.lodge_keys.specs.Beside.{beside_marks}
use Rattle.lodge_keys.proofs.beside.beside_of.Given as goal

abbrev pub invariant-loop-i : goal.invariant-loop-i
invariant-loop-i l = (l.counted.count ≤ l.i) × (listed l.counted ≡ marked (beside_marks l.lodgements l.key) (from 0 l.i))

use Prim.Native.Nat.{suc}
use mathlib.Core.Path.{◌≡◌}
use Rattle.std.specs.Prelude.{None}
use lib.ListN.{length}
use Rattle.rules.specs.Lodging.{passed_at}
use Rattle.judge_loads.specs.Loads.{load_by, laid}
use Rattle.judge_loads.proofs.LoadLaws.{NoneTo, Left}
use Rattle.judge_loads.proofs.lowest_hour.Given as goal

abbrev pub invariant-loop-load : goal.invariant-loop-load
invariant-loop-load l =
    (l.passed ≡ l.initial.passed) × Left l.energies (suc l.h) (load_by l.own l.energies l.others (suc l.h)) l.left l.load

abbrev pub decreases-loop-load : goal.decreases-loop-load
decreases-loop-load l = length l.left

abbrev pub invariant-hours : goal.invariant-hours
invariant-hours l = (l.passed ≡ None) × NoneTo (passed_at l.own (load_by l.own l.energies l.others) (laid l.limit)) l.h

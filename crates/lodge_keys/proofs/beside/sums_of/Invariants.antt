use lib.ListN.{take}
use Rattle.lodge_keys.specs.Sums.{Below, SumsAt}
use Rattle.lodge_keys.proofs.beside.sums_of.Given as goal

abbrev pub invariant-loop-i : goal.invariant-loop-i
invariant-loop-i l = Below l.i-index l.sums × SumsAt l.energies (take l.i-index l.counted) l.sums

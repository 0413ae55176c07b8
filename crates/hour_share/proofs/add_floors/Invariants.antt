use Rattle.std.proofs.Common.{◌≡◌, ℕ, ◌≤◌, ◌+◌, ◌*◌, ◌++◌, take, drop, get_or, map}
use Rattle.rules.specs.Lists.{add_each, sum}
use Rattle.rules.specs.Units.{max_energy}
use Rattle.rules.specs.Share.{pro_rata}
use Rattle.hour_share.proofs.add_floors.Given as goal

abbrev pub invariant-loop-i : goal.invariant-loop-i
invariant-loop-i l = record {
  room : (j : ℕ) → l.i ≤ j → get_or l.deductions j 0 ≤ 8 * max_energy;
  small : l.floored ≤ max_energy * l.i;
  counted : l.floored + sum (map (pro_rata l.r l.g) (drop l.i l.amounts)) ≡ sum (map (pro_rata l.r l.g) l.amounts);
  -- what is passed, with the deductions of what is left
  whole : take l.i l.deductions ++ add_each (drop l.i l.deductions) (map (pro_rata l.r l.g) (drop l.i l.amounts)) ≡ add_each l.fn.deductions (map (pro_rata l.r l.g) l.amounts);
}

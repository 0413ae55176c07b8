use Rattle.std.proofs.Common.{ℕ, ◌≡◌, ◌<◌, ◌+◌, ◌%◌, get_or}
use Rattle.session.specs.Image.{no_unit}
use Rattle.clear_store.specs.UnitSlots.{row_of, slot_of, Rows}
use Rattle.clear_store.proofs.unit_slots.UnitSlots.of.Given as goal

abbrev pub invariant-loop-i : goal.invariant-loop-i
invariant-loop-i l = record {
  rows : Rows l.i l.table.rows;
  found : (j : ℕ) → j < l.i → 0 < row_of l.table.rows (get_or l.units j no_unit).number;
  slots : (j : ℕ) → j < l.i → ((m : ℕ) → j < m → m < l.i → (get_or l.units m no_unit).number % 65536 ≡ (get_or l.units j no_unit).number % 65536 → ⊥)
      → slot_of l.table.rows l.table.slots (get_or l.units j no_unit).number ≡ j + 1;
}

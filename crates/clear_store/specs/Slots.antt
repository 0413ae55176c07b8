-- What units have in all, at slots: a unit's energies stand at its slot, or beside where another unit's are there.
use Rattle.std.specs.Prelude.{ℕ, ◌+◌, ◌*◌, ◌≤◌, cond, List, eqb, get_or, length}
use Rattle.std.specs.List.{sum_by}
use Rattle.rules.specs.Units.{max_energy}
use Rattle.clear_store.specs.declared.portions.Portion.{Portion}
use Rattle.clear_store.specs.declared.portions.Slots.{Slots}
use Rattle.clear_store.specs.UnitSlots.{slot_of}

-- what a unit has of a portion
unfoldable pub energy_of : ℕ → Portion → ℕ
energy_of unit p = cond (eqb p.unit unit) p.energy 0

-- a slot where nothing stands
abbrev pub nothing : Portion
nothing = record { unit = 0; energy = 0 }

-- what a unit has at its slot, whatever slots there are
unfoldable pub energy_held : (ℕ → ℕ) → ℕ → List Portion → ℕ
energy_held slot unit held = energy_of unit (get_or held (slot unit) nothing)

-- and in all
unfoldable pub energy_in : ℕ → Slots → ℕ
energy_in unit s = energy_held (slot_of s.table.now.rows s.table.now.slots) unit s.held + sum_by (energy_of unit) s.others.items

-- what k portions leave: slots that can be added to, and at most as many portions beside
pub record Kept (k : ℕ) (s : Slots) : Type 0 where
  pub room : (i : ℕ) → (get_or s.held i nothing).energy ≤ max_energy * k
  pub few : length s.others.items ≤ k

-- The room under a unit's ceilings by hour, and a lodgement's energies.
use Rattle.std.specs.Prelude.{ℕ, ◌-◌, ◌≤◌, ◌<◌, ◌≡◌, Bool, true, false, List, length, get_or}

-- whether it holds them
pub data Fits (row own : List ℕ) : Bool → Type 0 where
  holds : ((h : ℕ) → h < length own → get_or own h 0 ≤ get_or row h 0) → Fits row own true
  lacks : (h : ℕ) → h < length own → get_or row h 0 < get_or own h 0 → Fits row own false

-- the room less the energies; in the hours after theirs it is as it was
pub record Left (own before after : List ℕ) : Type 0 where
  pub named : (h : ℕ) → h < length own → get_or after h 0 ≡ get_or before h 0 - get_or own h 0
  pub behind : (h : ℕ) → length own ≤ h → get_or after h 0 ≡ get_or before h 0

-- what is admitted takes of the room
pub data Admitted (own before after : List ℕ) : Bool → Type 0 where
  taken : Fits before own true → Left own before after → Admitted own before after true
  left : Fits before own false → after ≡ before → Admitted own before after false

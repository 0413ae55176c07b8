-- A lodgement's energy in an hour, with that of others that are counted.
use Rattle.std.specs.Prelude.{ℕ, ◌+◌, ◌≤◌, ◌<◌, Bool, cond, List, [], ◌∷◌, eqb, length, get_or, Some, None}
use Rattle.std.specs.declared.option.Option as O
use Rattle.std.proofs.Math.Option.{some}
use Rattle.rules.specs.Lists.{sum_of, hourly}
use Rattle.rules.specs.Units.{Limit}
use Rattle.session.specs.Bare.{bare_energies}
use Rattle.session.specs.declared.Energies.{Energies}

-- those at whose index the mark is true
unfoldable pub marked : {A : Type 0} → List Bool → List A → List A
marked [] xs = []
marked (b ∷ bs) [] = []
marked (b ∷ bs) (x ∷ xs) = cond b (x ∷ marked bs xs) (marked bs xs)

abbrev pub energy_in : ℕ → Energies → ℕ
energy_in h e = hourly e.energies h

-- a lodgement's own energy in an hour plus that of the others that are marked
unfoldable pub load_in : List ℕ → List Bool → List Energies → ℕ → ℕ
load_in own counted es h = hourly own h + sum_of (energy_in h) (marked counted es)

-- The load by indices

-- each is the index of one of the energies
pub record IndicesIn (es : List Energies) (indices : List ℕ) : Type 0 where
  pub few : length indices ≤ 128
  pub below : (l : ℕ) → l < length indices → get_or indices l 0 < length es

-- the energy in an hour at an index
abbrev pub energy_at_index : List Energies → ℕ → ℕ → ℕ
energy_at_index es h i = energy_in h (get_or es i bare_energies)

-- a lodgement's own energy in an hour plus that at the indices of others
unfoldable pub load_by : List ℕ → List Energies → List ℕ → ℕ → ℕ
load_by own es indices h = hourly own h + sum_of (energy_at_index es h) indices

-- an hour that is found: 0 is none
abbrev pub hour_at : ℕ → O.Option ℕ
hour_at h = cond (eqb h 0) None (Some h)

-- a limit by hour, as an array has it (its number is not looked at here)
abbrev pub laid : List ℕ → Limit
laid limit = record { number = 0; at = λ h. some (hourly limit h) }

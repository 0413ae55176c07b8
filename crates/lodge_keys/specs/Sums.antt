-- Energies by hour, added up, the hours counted from 0.
use Rattle.std.specs.Prelude.{ℕ, ◌+◌, ◌*◌, ◌≤◌, ◌<◌, ◌≡◌, List, get_or}
use Rattle.rules.specs.Lists.{sum_of, hourly}
use Rattle.session.specs.Bare.{bare_energies}
use Rattle.session.specs.declared.Energies.{Energies}

-- each is at most a sum of so many numbers
unfoldable pub Below : ℕ → List ℕ → Type 0
Below i sums = (h : ℕ) → h < 25 → get_or sums h 0 ≤ i * 4294967295

-- a row is added
unfoldable pub Added : List ℕ → List ℕ → List ℕ → Type 0
Added before row after = (h : ℕ) → h < 25 → get_or after h 0 ≡ get_or before h 0 + get_or row h 0

-- the energy in an hour of the lodgement at an index
abbrev pub energy_of : List Energies → ℕ → ℕ → ℕ
energy_of es h l = get_or (get_or es l bare_energies).energies h 0

-- the energies of the lodgements at some indices, added up
unfoldable pub SumsAt : List Energies → List ℕ → List ℕ → Type 0
SumsAt es ls sums = (h : ℕ) → h < 25 → get_or sums h 0 ≡ sum_of (energy_of es h) ls

-- a lodgement's own energy in an hour plus such a sum, hours counted from 1
unfoldable pub load_on : List ℕ → List ℕ → ℕ → ℕ
load_on own sums h = hourly own h + hourly sums h

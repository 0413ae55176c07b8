-- The hours of a map, one after the other.
use Rattle.std.specs.Prelude.{ℕ, ◌+◌, ◌-◌, ◌^◌, ◌<◌, ◌≡◌}

-- the first hour of a map, counted from 0, is its highest bit; `rest` is the map without it
pub record FirstHour (map hour rest : ℕ) : Type 0 where
  pub within : hour < 25
  pub first : map ≡ 2 ^ (24 - hour) + rest
  pub after : rest < 2 ^ (24 - hour)

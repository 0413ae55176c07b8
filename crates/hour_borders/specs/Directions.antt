-- Directions as indices of an array of eight (`direction` of the rules): export and import of border 1, of border 2, of 3, of 4. Border 0,
-- the domestic one, has none.
use Rattle.std.specs.Prelude.{ℕ, ◌+◌, ◌/◌, ◌%◌, Bool, ◌&&◌, cond, List, map, ltb, eqb, get_or, Option, None, Some, is_some}
use Rattle.std.specs.Option.{unwrap_or}
use Rattle.rules.specs.Lists.{keep, from}
use Rattle.rules.specs.Units.{direction}
use Rattle.rules.specs.Borders.{Directed}

-- the direction in which a holder's energy runs: that of its border and side, at one of the four borders
unfoldable pub own_direction : ℕ → Bool → Option ℕ
own_direction border purchase = cond (ltb 0 border && ltb border 5) (Some (direction border purchase)) None

-- the direction at an index, with its energy
unfoldable pub directed : List ℕ → ℕ → Directed
directed a d = record { border = d / 2 + 1; export = eqb (d % 2) 0; energy = get_or a d 0 }

-- 0 where there is none
unfoldable pub energies_of : List (Option ℕ) → List ℕ
energies_of a = map (λ o. unwrap_or o 0) a

-- "Absent means no maximum": the published directions of the four borders, in the order of the rules
unfoldable pub published_in : List (Option ℕ) → List Directed
published_in a = map (directed (energies_of a)) (keep (λ d. is_some (get_or a d None)) (from 0 8))

-- the directions with an energy above 0: of an array of excesses, those whose maximum is passed
unfoldable pub over_in : List ℕ → List Directed
over_in a = map (directed a) (keep (λ d. ltb 0 (get_or a d 0)) (from 0 8))

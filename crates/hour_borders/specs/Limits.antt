-- Maxima and excesses by direction, from arrays of eight.
use Rattle.std.specs.Prelude.{ℕ, ◌+◌, ◌-◌, ◌/◌, ◌%◌, Bool, true, false, not, List, [], ◌∷◌, eqb, get_or, Option, None, Some}
use Rattle.std.specs.Option.{option_map}
use Rattle.std.proofs.Math.IntN.{sub_ℕ}
use Rattle.rules.specs.Units.{direction}
use Rattle.rules.specs.Split.{market_maximum}

-- the other direction of the same border
unfoldable pub across_of : ℕ → ℕ
across_of d = direction (d / 2 + 1) (not (eqb (d % 2) 0))

-- the market maximum of a direction, of its capacity, executions' flows, market flows and its legacy flow
unfoldable pub maximum_in : Option ℕ → List ℕ → List ℕ → ℕ → ℕ → Option ℕ
maximum_in capacity executions market legacy d =
    option_map (λ c. market_maximum c
    (sub_ℕ (get_or executions d 0) (get_or executions (across_of d) 0)) (sub_ℕ (get_or market d 0) (get_or market (across_of d) 0)) legacy) capacity

-- how far a flow, less that against it, passes a maximum; 0 where there is none
abbrev pub excess_over : Option ℕ → ℕ → ℕ → ℕ
excess_over None along against = 0
excess_over (Some m) along against = along - against - m

unfoldable pub excess_in : List (Option ℕ) → List ℕ → ℕ → ℕ
excess_in maxima market d = excess_over (get_or maxima d None) (get_or market d 0) (get_or market (across_of d) 0)

-- a list has an element
unfoldable pub non_empty : {A : Type 0} → List A → Bool
non_empty [] = false
non_empty (x ∷ xs) = true

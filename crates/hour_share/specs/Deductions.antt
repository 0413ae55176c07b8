-- What each holder of energy loses in the directions in which holders give way.
use Rattle.std.specs.Prelude.{ℕ, ◌-◌, ◌≤◌, min, cond, Some, List, [], ◌∷◌, map, ltb, eqb, get_or}
use Rattle.std.specs.Option.{option_eq}
use Rattle.rules.specs.Lists.{from, sum, add_each}
use Rattle.rules.specs.Units.{max_energy}
use Rattle.rules.specs.Share.{share}
use Rattle.hour_share.specs.declared.Amount.{Amount}

-- "Energy is in tenths of MWh, 0 to 99,999."
abbrev pub Ranged : List ℕ → Type 0
Ranged energies = (i : ℕ) → get_or energies i 0 ≤ max_energy

abbrev pub AmountInRange : Amount → Type 0
AmountInRange a = a.energy ≤ max_energy

-- what an amount counts for in direction d, 0 where it runs in another or in none
unfoldable pub energy_in : ℕ → Amount → ℕ
energy_in d a = cond (option_eq eqb a.direction (Some d)) a.energy 0

-- "the lesser of the excess and the matched [..] energy [..] is taken by Share"
unfoldable pub deductions_in : List Amount → ℕ → ℕ → List ℕ
deductions_in amounts excess d =
    let energies = map (energy_in d) amounts in
    share (min excess (sum energies)) energies

-- what each loses in the directions passed among some
unfoldable pub deductions_over : List ℕ → List Amount → List ℕ → List ℕ
deductions_over over amounts [] = map (λ a. 0) amounts
deductions_over over amounts (d ∷ ds) =
    cond (ltb 0 (get_or over d 0)) (add_each (deductions_in amounts (get_or over d 0) d) (deductions_over over amounts ds)) (deductions_over over amounts ds)

-- in those from direction d on
unfoldable pub deductions_from : List ℕ → List Amount → ℕ → List ℕ
deductions_from over amounts d = deductions_over over amounts (from d (8 - d))

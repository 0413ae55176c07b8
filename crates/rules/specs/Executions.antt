-- "Executions": the bilateral maximum, and the cut. K2: maxima, balances, excesses and what Share takes are in border figures; an execution has energy.
use Rattle.std.specs.Prelude.{ℕ, cond, List, [], ◌∷◌, map, ℤ, pos, ◌-ℤ◌}
use Rattle.rules.specs.Lists.{add_each}
use Rattle.rules.specs.Share.{share}
use Rattle.rules.specs.Match.{Offer}
use Rattle.rules.specs.Borders.{Directed, Execution, runs, at_border, keeps, market_balance, execution_balance, toward, positive}

-- "The bilateral maximum is E less the final market balance, which may be below zero"; "Import mirrors it."
unfoldable pub bilateral_maximum : List Offer → Directed → ℤ
bilateral_maximum os c = pos c.energy -ℤ toward c.export (market_balance c.border os)

-- how far the executions' balance passes it
unfoldable pub bilateral_excess : List Offer → List Execution → Directed → ℕ
bilateral_excess os xs c = positive (toward c.export (execution_balance c.border xs) -ℤ bilateral_maximum os c)

-- "An excess is taken by Share from executions in that direction." K2: "Share of an excess among exports" is of border figures.
unfoldable pub cuts : List Offer → List Execution → Directed → List ℕ
cuts os xs c =
    share (bilateral_excess os xs c) (map (λ x. cond (runs c.border c.export x.holder) (at_border x.holder x.energy) 0) xs)

unfoldable pub all_cuts : List Offer → List Execution → List Directed → List ℕ
all_cuts os xs [] = map (λ x. 0) xs
all_cuts os xs (c ∷ cs) = add_each (cuts os xs c) (all_cuts os xs cs)

-- what is left of each. K2: "After a cut the lodgement keeps the largest energy, no more than was [..] executed, that has the border figure left to it."
unfoldable pub less_each : List ℕ → List Execution → List Execution
less_each ks [] = []
less_each [] (x ∷ xs) = x ∷ xs
less_each (k ∷ ks) (x ∷ xs) = record { holder = x.holder; energy = keeps x.holder x.energy k } ∷ less_each ks xs

-- the executions after cuts, of the final match os and the published capacities
unfoldable pub cut_all : List Offer → List Directed → List Execution → List Execution
cut_all os cs xs = less_each (all_cuts os xs cs) xs

unfoldable pub unfold_executions : Unit {0}
unfolding bilateral_maximum bilateral_excess cuts all_cuts less_each cut_all
unfold_executions = tt

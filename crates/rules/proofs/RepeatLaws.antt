-- One turn of the repetition of withdrawal steps, and its end.
use Prim.Native.Nat.{ℕ, zero, suc, ◌+◌, ◌-◌, ◌<◌}
use mathlib.Core.Path.{◌≡◌, refl}
use mathlib.Core.List.{List, [], ◌∷◌}
use native.Mathlib.Omega.{arith}
use Rattle.rules.specs.Match.{Offer}
use Rattle.rules.specs.Borders.{Directed}
use Rattle.rules.specs.Withdrawal.{overruns, step, repeat}

-- with no balance over its maximum it ends, whatever the bound
pub repeat-ended : (bound : ℕ) (ms : List Directed) (os : List Offer) (made : ℕ) → overruns ms os ≡ [] → repeat bound ms os made ≡ record { offers = os; steps = made }
unfolding repeat
repeat-ended zero ms os made e = refl
repeat-ended (suc bound) ms os made e = rw (e, repeat) refl

-- with a balance over its maximum it makes a step
pub repeat-step : (bound : ℕ) (ms : List Directed) (os : List Offer) (made : ℕ) (d : Directed) (ds : List Directed) → 0 < bound → overruns ms os ≡ d ∷ ds
    → repeat bound ms os made ≡ repeat (bound - 1) ms (step (d ∷ ds) os) (made + 1)
unfolding repeat
repeat-step zero ms os made d ds h e = absurd (omega arith)
repeat-step (suc bound) ms os made d ds h e =
    let z : suc bound - 1 ≡ bound = omega arith in
    let y : made + 1 ≡ suc made = omega arith in
    rw (z, y, e, repeat) refl

-- with no step left it ends
pub repeat-out : (bound : ℕ) (ms : List Directed) (os : List Offer) (made : ℕ) → bound ≡ 0 → repeat bound ms os made ≡ record { offers = os; steps = made }
unfolding repeat
repeat-out bound ms os made z = rw z

-- The figure and the energy kept as the code finds them.
use Prim.Native.Nat.{ℕ, ◌+◌, ◌*◌, ◌-◌, ◌/◌, ◌≤◌, min}
use mathlib.Core.Path.{◌≡◌, refl, sym, ◌∙◌}
use native.Mathlib.Omega.{arith}
use native.Mathlib.Nat.{div-mul-le_self, mul-le-mul_right}
use Rattle.rules.specs.Lists.{round_up}
use Rattle.rules.specs.Borders.{border_figure, kept_energy}
use Rattle.rules.proofs.CrossingLaws.{figure-plain, kept-plain}

-- without a loss
pub figure-none : (l e : ℕ) → l ≡ 0 → e ≡ border_figure l e
figure-none l e z = rw z (sym (figure-plain e))

pub kept-none : (l e k : ℕ) {r : ℕ} → l ≡ 0 → r ≡ e - k → r ≡ kept_energy l e k
kept-none l e k z q = rw z (q ∙ sym (kept-plain e k))

-- with one
pub figure-said : (l e : ℕ) → round_up (e * 10000) (10000 + l) ≡ border_figure l e
unfolding border_figure
figure-said l e = refl

-- what is left of a figure, times the divisor
pub left_le : (l e k : ℕ) → (border_figure l e - k) * (10000 + l) ≤ e * 10000 + (10000 + l)
unfolding border_figure round_up
left_le l e k =
    let f = (e * 10000 + (10000 + l - 1)) / (10000 + l) in
    let q : (f - k) * (10000 + l) ≤ f * (10000 + l) = mul-le-mul_right (10000 + l) (omega arith) in
    omega (arith, div-mul-le_self (e * 10000 + (10000 + l - 1)) (10000 + l))

pub kept-said : (l e k : ℕ) → min e ((border_figure l e - k) * (10000 + l) / 10000) ≡ kept_energy l e k
unfolding kept_energy
kept-said l e k = refl

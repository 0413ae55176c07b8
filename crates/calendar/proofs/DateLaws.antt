-- What the functions on dates need of the rules' definitions.
use Prim.Native.Nat.{ℕ, suc, zero, ◌+◌, ◌-◌, ◌≤◌, ◌%◌}
use mathlib.Core.Path.{◌≡◌}
use mathlib.Core.Bool.{true, false, or-true, or-false, and-true, and-false}
use native.Mathlib.Omega.{arith}
use lib.Dec.{eqb}
use borrow.Author.Tests.{eq-eqb, ne_eqb}
use Rattle.rules.specs.Hours.{leap, days_of_month, days_before}

-- one month more
pub month-more : (y m : ℕ) → 1 ≤ m → days_before y (m + 1 - 1) ≡ days_before y (m - 1) + days_of_month y m
unfolding days_before
month-more y zero h = absurd (omega arith)
month-more y (suc m) h = let a : suc m + 1 - 1 ≡ suc m = omega arith in let b : suc m - 1 ≡ m = omega arith in rw (a, b)

-- each way out of the test of a leap year
module _ (y : ℕ) where
  pub leap-fourth : y % 400 ≡ 0 → true ≡ leap y
  unfolding leap
  leap-fourth a = rw (eq-eqb (y % 400) 0 a, or-true)

  pub leap-century : (y % 400 ≡ 0 → ⊥) → y % 100 ≡ 0 → false ≡ leap y
  unfolding leap
  leap-century a b = rw (ne_eqb (y % 400) 0 a, eq-eqb (y % 100) 0 b, and-false)

  pub leap-other : (y % 400 ≡ 0 → ⊥) → (y % 100 ≡ 0 → ⊥) → eqb (y % 4) 0 ≡ leap y
  unfolding leap
  leap-other a b = rw (ne_eqb (y % 400) 0 a, ne_eqb (y % 100) 0 b, and-true, or-false)

pub ruleset leap_laws = (leap-fourth, leap-century, leap-other)

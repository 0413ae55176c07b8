-- What the judging functions find, as the rules' definitions have it.
use Prim.Native.Nat.{ℕ, zero, suc, ◌+◌, ◌-◌, ◌/◌, ◌%◌, ◌^◌, ◌≤◌}
use mathlib.Core.Bool.{Bool, ◌||◌}
use mathlib.Core.Path.{◌≡◌, refl, ap}
use Rattle.std.specs.List.{list_any, range_with_len}
use native.Mathlib.Omega.{arith}
use native.Mathlib.Numerals.{add-one}
use lib.Dec.{eqb}
use lib.ListN.{get_or}
use Rattle.rules.specs.Lists.{any, from, hourly}
use Rattle.rules.specs.Message.{bits, hour_bits, names}

-- a bit by its index: j bits stand before it, k after
bit_at : (w n j k : ℕ) → j + suc k ≡ w → get_or (bits w n) j 0 ≡ n / 2 ^ k % 2
unfolding bits
bit_at zero n j k e = absurd (omega arith)
bit_at (suc w) n zero k e = let q : k ≡ w = omega arith in rw q
bit_at (suc w) n (suc j) k e = bit_at w n j k (omega arith)

pub named-is : (map h : ℕ) → 1 ≤ h → h ≤ 25 → eqb (map / 2 ^ (25 - h) % 2) 1 ≡ names map h
unfolding names hour_bits hourly
named-is map h p q = rw (bit_at 25 map (h - 1) (25 - h) (omega arith))

-- the library's test of a range is the rules'
pub any_list : (p : ℕ → Bool) (i n : ℕ) → list_any p (range_with_len i n) ≡ any p (from i n)
unfolding any from
any_list p i zero = refl
any_list p i (suc n) = rw (add-one i) (ap (λ b. p i || b) (any_list p (suc i) n))

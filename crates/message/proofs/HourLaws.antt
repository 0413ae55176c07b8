-- The first hour of a map.
use Prim.Native.Nat.{ℕ, ◌*◌, ◌-◌, ◌%◌, ◌^◌, ◌≤◌, ◌<◌}
use mathlib.Core.Path.{◌≡◌, ◌∙◌}
use native.Mathlib.Omega.{arith}
use native.Mathlib.Nat.{one-mul, pow-suc, lt_of_lt_of_le, lt_of_not-le, lt_irrefl, le_trans}
use lib.Count.{count_leading_zeros, leading_top}
use lib.Pow.{pow_pos, pow_mono, shl_exact}
use Rattle.message.specs.Hours.{FirstHour}

-- the index of the highest bit that is set, by the zeros before it
pub leading : (map : ℕ) → 0 < map → map < 2 ^ 25
    → (7 ≤ count_leading_zeros 32 map) × (count_leading_zeros 32 map ≤ 31) × (2 ^ (31 - count_leading_zeros 32 map) ≤ map) × (map < 2 ^ (31 - count_leading_zeros 32 map) * 2)
leading map p h =
    let t = leading_top 32 map p (omega arith) in
    let j = t.0 in
    let e : 31 - count_leading_zeros 32 map ≡ j = omega (arith, t.1) in
    let k : j < 25 = lt_of_not-le (λ (g : 25 ≤ j). lt_irrefl map (lt_of_lt_of_le h (le_trans (pow_mono {i = 25} {j = j} g) t.2))) in
    (omega (arith, t.1), omega (arith, t.1), rw e t.2, rw e (omega (arith, t.3, pow-suc 2 j)))

pub one_shifted : (k : ℕ) → k ≤ 31 → 1 * 2 ^ k % 2 ^ 32 ≡ 2 ^ k
one_shifted k h = shl_exact {a = 1} 1 k 32 (omega arith) (omega arith) ∙ one-mul (2 ^ k)

pub first-hour : (map z b : ℕ) → 7 ≤ z → z ≤ 31 → 2 ^ (31 - z) ≤ map → map < 2 ^ (31 - z) * 2 → b ≡ 2 ^ (31 - z) → FirstHour map (z - 7) (map - b)
first-hour map z b h k l u e =
    let q : 24 - (z - 7) ≡ 31 - z = omega arith in
    record { within = omega arith; first = rw (q, e) (omega arith); after = rw (q, e) (omega arith) }

-- a map has fewer hours after its first
pub first-less : (map i rest : ℕ) → FirstHour map i rest → rest < map
first-less map i rest t = omega (arith, t.first, pow_pos (24 - i))

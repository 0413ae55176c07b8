-- Split as the code computes it, on flows in a direction and against it, is the rules' Split.
use Rattle.std.proofs.Common.{◌≡◌, ℕ, ◌+◌, ◌*◌, ◌-◌, ◌/◌, ◌%◌, ◌≤◌, ◌<◌, min, refl, sym, ◌∙◌, arith, pos, ℤ}
use native.Mathlib.Nat.{le_trans, min-le_left, div-eq_of_lt-le}
use Rattle.std.proofs.lemmas.Grind.{div_ceil_times}
use lib.IntN.{sub_ℕ}
use Rattle.rules.specs.Lists.{round_up}
use Rattle.rules.specs.Borders.{positive}
use Rattle.rules.specs.Split.{net_capacity, claims, bilateral_part, market_maximum}
use Rattle.rules.proofs.SplitLaws.{positive-sub, positive-neg, part_none, part-some, part-le}

positive-pos : (b : ℕ) → positive (pos b) ≡ b
unfolding positive
positive-pos b = refl

-- "0 when B ≤ 0"
pub part-at-0 : (b s d : ℕ) → b ≡ 0 → 0 ≡ bilateral_part (pos b) s d
part-at-0 b s d z = sym (part_none (pos b) s d (positive-pos b ∙ z))

-- t is within s
pub part-within : (b s d : ℕ) → b ≤ d → bilateral_part (pos b) s d ≤ s
part-within b s d h = le_trans (part-le (pos b) s d (rw (positive-pos b) h)) (min-le_left s d)

-- of B the part t takes max(B, 0) only
part_of : (B : ℤ) (b s d : ℕ) → positive B ≡ b → bilateral_part (pos b) s d ≡ bilateral_part B s d
unfolding bilateral_part
part_of B b s d e = rw (positive-pos b, e)

-- a quotient rounded up, as the library says it and as the rules do
pub rounds-up : (n d : ℕ) → 0 < d → n / d + min 1 (n % d) ≡ round_up n d
unfolding round_up
rounds-up n d h =
    let t = div_ceil_times n d h in
    sym (div-eq_of_lt-le d (omega arith) (omega arith))

-- "t = B × min(s, d) / d rounded up"
pub part-said : (b s d : ℕ) {t : ℕ} → 0 < b → t ≡ round_up (b * min s d) d → t ≡ bilateral_part (pos b) s d
unfolding round_up
part-said b s d h t = rw (part-some (pos b) s d (rw (positive-pos b) h), positive-pos b, t)

-- "a − t"
pub maximum-said : (E bx bi mx mi L : ℕ) {b f s n d t : ℕ} → b ≡ bx - bi → f ≡ bi - bx → s ≡ E + f - L → n ≡ mx - mi → d ≡ n - L
    → t ≡ bilateral_part (pos b) s (d + b) → E + f - t ≡ market_maximum E (sub_ℕ bx bi) (sub_ℕ mx mi) L
unfolding market_maximum net_capacity claims
maximum-said E bx bi mx mi L b f s n d t =
    rw (t, part_of (sub_ℕ bx bi) _ _ _ (positive-sub bx bi ∙ sym b), d, n, s, f, b, positive-neg bx bi, positive-sub bx bi, positive-sub mx mi)

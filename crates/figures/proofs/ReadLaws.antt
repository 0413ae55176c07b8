-- A number read, byte by byte.
use mathlib.Core.Bool.{true, false, true≢false, false≢true}
use native.Mathlib.Omega.{arith}
use mathlib.Core.Path.{◌≡◌, refl, ◌∙◌, ap}
use Rattle.std.specs.Prelude.{ℕ, cond, List, [], ◌∷◌, length, Option, Some, None, is_some}
use Rattle.std.specs.Option.{unwrap_or}
use Rattle.rules.proofs.BoolLaws.{by_bool}
use Rattle.figures.specs.Numbers.{counts, is_digit, longer, reads}

-- what a byte counts, if it is a digit
abbrev pub digit_of : ℕ → ℕ → Option ℕ
digit_of base b = cond (is_digit base b) (Some (counts b)) None

digit-some : (base b d : ℕ) → Some d ≡ digit_of base b → (is_digit base b ≡ true) × (d ≡ counts b)
digit-some base b d h =
    by_bool (is_digit base b) (λ e. let k : Some d ≡ Some (counts b) = h ∙ rw e refl in (e, ap (λ o. unwrap_or o d) k))
    (λ e. let k : Some d ≡ None = h ∙ rw e refl in absurd (true≢false (ap is_some k)))

digit-none : (base b : ℕ) → None ≡ digit_of base b → is_digit base b ≡ false
digit-none base b h = by_bool (is_digit base b) (λ e. let k : None ≡ Some (counts b) = h ∙ rw e refl in absurd (false≢true (ap is_some k))) (λ e. e)

pub reads-digit : (base : ℕ) (n : Option ℕ) (b d : ℕ) (rest : List ℕ) → Some d ≡ digit_of base b → reads base n (b ∷ rest) ≡ reads base (Some (longer base (unwrap_or n 0) d)) rest
unfolding reads
reads-digit base n b d rest h = let q = digit-some base b d h in rw (q.0, q.1) refl

-- the byte behind a number ends it
pub reads-end : (base : ℕ) (n : Option ℕ) (b : ℕ) (rest : List ℕ) → None ≡ digit_of base b → is_some n ≡ true → reads base n (b ∷ rest) ≡ (n, rest)
unfolding reads
reads-end base n b rest h k = rw (digit-none base b h, k) refl

-- one before a number is passed over
pub reads-on : (base : ℕ) (n : Option ℕ) (b : ℕ) (rest : List ℕ) → None ≡ digit_of base b → is_some n ≡ false → reads base n (b ∷ rest) ≡ reads base n rest
unfolding reads
reads-on base n b rest h k = rw (digit-none base b h, k) refl

pub reads-none : (base : ℕ) (n : Option ℕ) (text : List ℕ) → length text ≡ 0 → reads base n text ≡ (n, text)
unfolding reads
reads-none base n [] h = refl
reads-none base n (b ∷ rest) h = absurd (omega (arith, h))

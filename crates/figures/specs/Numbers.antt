-- The numbers of a text to a base, 10 or 16.
use Rattle.std.specs.Prelude.{ℕ, ◌+◌, ◌*◌, ◌-◌, Bool, ◌&&◌, ◌||◌, cond, eqb, leb, ltb, List, [], ◌∷◌, Option, Some, is_some, if◌then◌else◌}
use Rattle.std.specs.Option.{unwrap_or}

abbrev pub is_decimal : ℕ → Bool
is_decimal b = leb 48 b && leb b 57

abbrev pub is_digit : ℕ → ℕ → Bool
is_digit base b = is_decimal b || (eqb base 16 && (leb 65 b && leb b 70))

-- what a digit counts
abbrev pub counts : ℕ → ℕ
counts b = cond (is_decimal b) (b - 48) (b - 65 + 10)

-- a number with a digit more; one above 268,435,454 becomes the last of 32 bits
abbrev pub longer : ℕ → ℕ → ℕ → ℕ
longer base n d = cond (ltb 268435454 n) 4294967295 (n * base + d)

-- the next number, n being what is read of it, and the text behind the byte that ends it
unfoldable pub reads : ℕ → Option ℕ → List ℕ → Option ℕ × List ℕ
reads base n [] = (n, [])
reads base n (b ∷ rest) =
    if is_digit base b
    then reads base (Some (longer base (unwrap_or n 0) (counts b))) rest
    else if is_some n then (n, rest) else reads base n rest

-- Blanks behind a list, one more at a time.
use Rattle.std.proofs.Common.{ℕ, ◌≡◌, ◌++◌, ◌+◌, ◌-◌, ◌≤◌, ◌<◌, ◌∷◌, [], List, length, take, replicate, set, arith}
use mathlib.Core.Path.{ap, ◌∙◌}
use mathlib.Core.List.{append_assoc}
use Rattle.std.proofs.lemmas.List.{take_more_set, replicate-append-replicate}

pub blank-next : {A : Type 0} (xs ys : List A) (c i : ℕ) (b : A) → c ≤ i → i < length xs → take i xs ≡ ys ++ replicate (i - c) b → take (i + 1) (set xs i b) ≡ ys ++ replicate (i + 1 - c) b
blank-next xs ys c i b h l e =
    let n : i - c + 1 ≡ i + 1 - c = omega (arith, h) in
    take_more_set xs i b l
    ∙ (ap (λ zs. zs ++ b ∷ []) e
    ∙ (append_assoc ys (replicate (i - c) b) (b ∷ [])
    ∙ ap (λ zs. ys ++ zs) (replicate-append-replicate (i - c) 1 b ∙ ap (λ k. replicate k b) n)))

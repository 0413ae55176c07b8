-- Elements moved forward.
use Prim.Native.Nat.{ℕ, zero, suc, ◌+◌, ◌≤◌, ◌<◌}
use mathlib.Core.Path.{◌≡◌, refl, ap}
use mathlib.Core.List.{List, [], ◌∷◌}
use native.Mathlib.Omega.{arith}
use native.Mathlib.Numerals.{add-one}
use lib.ListN.{length, get_or, set}
use Rattle.session_changes.specs.Changes.{moved}

module _ {A : Type 0} where
  pub moved_none : (i : ℕ) (l : List A) → moved i i l ≡ l
  unfolding moved
  moved_none zero l = refl
  moved_none (suc i) [] = refl
  moved_none (suc i) (x ∷ l) = ap (λ (t : List A). x ∷ t) (moved_none i l)

  one_more : (d : A) (f i : ℕ) (l : List A) → f ≤ i → suc i < length l → set (moved f i l) i (get_or (moved f i l) (suc i) d) ≡ moved f (suc i) l
  unfolding moved
  one_more d f i [] h k = absurd (omega arith)
  one_more d f i (x ∷ []) h k = absurd (omega arith)
  one_more d zero zero (x ∷ y ∷ l) h k = refl
  one_more d zero (suc i) (x ∷ y ∷ l) h k = ap (λ (t : List A). y ∷ t) (one_more d zero i (y ∷ l) (omega arith) (omega arith))
  one_more d (suc f) zero (x ∷ y ∷ l) h k = absurd (omega arith)
  one_more d (suc f) (suc i) (x ∷ y ∷ l) h k = ap (λ (t : List A). x ∷ t) (one_more d f i (y ∷ l) (omega arith) (omega arith))

  pub moved_more : (d : A) (f i : ℕ) (l a : List A) → f ≤ i → i + 1 < length l → a ≡ moved f i l → set a i (get_or a (i + 1) d) ≡ moved f (i + 1) l
  moved_more d f i l a h k e = rw (e, add-one) (one_more d f i l h (omega arith))

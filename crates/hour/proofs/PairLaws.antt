-- Pairs of a list's elements: what the tests of them stand for.
use Prim.Native.Nat.{ℕ, suc, ◌≤◌}
use mathlib.Core.Path.{◌≡◌, refl, ap, ◌∙◌}
use mathlib.Core.Bool.{Bool, true, false}
use mathlib.Core.List.{List, [], ◌∷◌, map}
use native.Mathlib.Omega.{arith}
use lib.ListN.{length, length-map}
use Rattle.rules.specs.Lists.{All, none, more, Pairwise, empty, ahead, any}
use Rattle.rules.proofs.BoolLaws.{by_bool, neither, of-neither}
use Rattle.rules.proofs.ListLaws.{all-cond, any-list, any_false, of-any-false}
use Rattle.rules.proofs.ElementLaws.{all_both}
use Rattle.std.specs.List.{list_any}
use Rattle.session.proofs.LaidLaws.{any-map}
use Rattle.hour.specs.Units.{any_pair, last_ones}

module _ {A : Type 0} (p : A → A → Bool) where
  pub pair-none : (xs : List A) → any_pair p xs ≡ false → Pairwise (λ x y. p x y ≡ false) xs
  unfolding any_pair
  pair-none [] h = empty
  pair-none (x ∷ xs) h = let k = neither (any (p x) xs) (any_pair p xs) h in ahead (any_false (p x) xs k.0) (pair-none xs k.1)

  pub of-pair-none : {xs : List A} → Pairwise (λ x y. p x y ≡ false) xs → any_pair p xs ≡ false
  unfolding any_pair
  of-pair-none empty = refl
  of-pair-none (ahead {x} h t) = of-neither (of-any-false (p x) h) (of-pair-none t)

  -- The last ones

  -- what holds of all holds of them
  pub all-last-ones : {P : A → Type 0} {xs : List A} → All P xs → All P (last_ones p xs)
  unfolding last_ones
  all-last-ones none = none
  all-last-ones (more {x} {xs} h t) = all-cond (any (p x) xs) (all-last-ones t) (more h (all-last-ones t))

  -- no two of them
  pub last_apart : (xs : List A) → Pairwise (λ x y. p x y ≡ false) (last_ones p xs)
  unfolding last_ones
  last_apart [] = empty
  last_apart (x ∷ xs) =
      by_bool (any (p x) xs) (λ t. rw t (last_apart xs)) (λ t. rw t (ahead (all-last-ones (any_false (p x) xs t)) (last_apart xs)))

  no-more : (xs : List A) → length (last_ones p xs) ≤ length xs
  unfolding last_ones
  no-more [] = omega arith
  no-more (x ∷ xs) = by_bool (any (p x) xs) (λ t. rw t (omega (arith, no-more xs))) (λ t. rw t (omega (arith, no-more xs)))

  -- they are all exactly where no pair is
  pub all-last : (xs : List A) → length (last_ones p xs) ≡ length xs → Pairwise (λ x y. p x y ≡ false) xs
  unfolding last_ones
  all-last [] e = empty
  all-last (x ∷ xs) e =
      by_bool (any (p x) xs) (λ t. absurd (omega (arith, no-more xs, rw t at e)))
      (λ t. ahead (any_false (p x) xs t) (all-last xs (omega (arith, rw t at e))))

  pub of-all-last : {xs : List A} → Pairwise (λ x y. p x y ≡ false) xs → length (last_ones p xs) ≡ length xs
  unfolding last_ones
  of-all-last empty = refl
  of-all-last (ahead {x} h t) = rw (of-any-false (p x) h) (ap suc (of-all-last t))

-- what holds of two, of what else holds of them
pub pairwise_both : {A : Type 0} {R S T : A → A → Type 0} → ((x y : A) → R x y → S x y → T x y) → {xs : List A} → Pairwise R xs → Pairwise S xs → Pairwise T xs
pairwise_both f empty empty = empty
pairwise_both f (ahead {x} h t) (ahead k u) = ahead (all_both (f x) h k) (pairwise_both f t u)

-- One element after the other, in the code's form
module _ {A B : Type 0} (f : A → B) (p : B → B → Bool) where
  abbrev later : A → List A → Bool
  later x ys = list_any (λ y. p (f x) (f y)) ys

  any-later : (x : A) (ys : List A) → any (p (f x)) (map f ys) ≡ later x ys
  any-later x ys = any-map f (p (f x)) ys ∙ any-list (λ y. p (f x) (f y)) ys

  pub pair-here : {xs : List A} (x : A) (ys : List A) → xs ≡ x ∷ ys → later x ys ≡ true → any_pair p (map f xs) ≡ true
  unfolding any_pair
  pair-here x ys e h = rw (e, any-later x ys, h)

  pub pair-next : {xs : List A} (x : A) (ys : List A) → xs ≡ x ∷ ys → later x ys ≡ false → any_pair p (map f ys) ≡ any_pair p (map f xs)
  unfolding any_pair
  pair-next x ys e h = rw (e, any-later x ys, h)

  pub pair_end : (xs : List A) → length xs ≡ 0 → any_pair p (map f xs) ≡ false
  unfolding any_pair
  pair_end [] h = refl
  pair_end (x ∷ xs) h = absurd (omega arith)

  abbrev lasting : List A → ℕ
  lasting xs = length (last_ones p (map f xs))

  pub last-later : {xs : List A} (x : A) (ys : List A) → xs ≡ x ∷ ys → later x ys ≡ true → lasting ys ≡ lasting xs
  unfolding last_ones
  last-later x ys e h = rw (e, any-later x ys, h)

  pub last-here : {xs : List A} (x : A) (ys : List A) → xs ≡ x ∷ ys → later x ys ≡ false → lasting xs ≡ suc (lasting ys)
  unfolding last_ones
  last-here x ys e h = rw (e, any-later x ys, h)

  pub last_end : (xs : List A) → length xs ≡ 0 → lasting xs ≡ 0
  unfolding last_ones
  last_end [] h = refl
  last_end (x ∷ xs) h = absurd (omega arith)

  pub few-last : (xs : List A) → lasting xs ≤ length xs
  few-last xs = omega (arith, no-more p (map f xs), length-map xs f)

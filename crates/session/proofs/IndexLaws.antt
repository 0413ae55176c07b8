-- The index of the first element that passes a test.
use Prim.Native.Nat.{ℕ, zero, suc, ◌+◌, ◌≤◌, ◌<◌}
use mathlib.Core.Path.{◌≡◌, refl, sym, ap, ◌∙◌}
use mathlib.Core.Bool.{Bool, true, false, cond, not, false≢true}
use Rattle.std.specs.Prelude.{Some, None, is_none}
use Rattle.std.specs.List.{position, position_or_len}
use Rattle.std.proofs.lemmas.Option.{cond_some}
use mathlib.Core.List.{List, [], ◌∷◌, map}
use native.Mathlib.Omega.{arith}
use native.Mathlib.Numerals.{add-one}
use lib.Dec.{ltb}
use lib.ListN.{length, get_or, take, drop, length-map, length-take, drop_of_length-le}
use lib.Seq.{get_or-take, drop-cons}
use borrow.Author.Tests.{lt-ltb, le-ltb, ltb-true}
use Rattle.rules.specs.Lists.{Pairwise, any, first}
use Rattle.rules.proofs.BoolLaws.{by_bool, not-both, of-not}
use Rattle.session.specs.Parts.{index_of}

-- at most one passes
abbrev pub Once : {A : Type 0} → (A → Bool) → List A → Type 0
Once p xs = Pairwise (λ x y. p x ≡ true → p y ≡ false) xs

module _ {A : Type 0} (p : A → Bool) where
  -- it is an index of the list exactly where one passes
  pub indexed : (xs : List A) → any p xs ≡ true → index_of p xs < length xs
  unfolding index_of any
  indexed [] h = absurd (false≢true h)
  indexed (x ∷ xs) h = by_bool (p x) (λ e. rw e (omega arith)) (λ e. rw e (omega (arith, indexed xs (rw e at h))))

  pub unindexed : (xs : List A) → any p xs ≡ false → index_of p xs ≡ length xs
  unfolding index_of any
  unindexed [] h = refl
  unindexed (x ∷ xs) h = by_bool (p x) (λ e. absurd (false≢true (sym (rw e at h)))) (λ e. rw e (ap suc (unindexed xs (rw e at h))))

  -- the element there is the first that passes
  pub index-first : (d : A) (xs : List A) → first p d xs ≡ get_or xs (index_of p xs) d
  unfolding index_of first
  index-first d [] = refl
  index-first d (x ∷ xs) = by_bool (p x) (λ e. rw e) (λ e. rw e (index-first d xs))

  -- a loop that looks for it

  unfoldable pub reach : List A → ℕ → ℕ → ℕ
  reach l n i = i + index_of p (drop i (take n l))

  pub reach-start : (l : List A) (n : ℕ) → reach l n 0 ≡ index_of p (take n l)
  unfolding reach
  reach-start l n = omega arith

  step : (d : A) (xs : List A) (i : ℕ) → i < length xs → drop i xs ≡ get_or xs i d ∷ drop (i + 1) xs
  step d xs i h = rw add-one (drop-cons xs i d h)

  pub reach_here : (d : A) (l : List A) (n i : ℕ) → i < n → n ≤ length l → p (get_or l i d) ≡ true → reach l n i ≡ i
  unfolding reach index_of
  reach_here d l n i h k e = rw (step d (take n l) i (omega (arith, length-take n l)), get_or-take n l i d h, e) (omega arith)

  pub reach-next : (d : A) (l : List A) (n i : ℕ) → i < n → n ≤ length l → p (get_or l i d) ≡ false → reach l n i ≡ reach l n (i + 1)
  unfolding reach index_of
  reach-next d l n i h k e = rw (step d (take n l) i (omega (arith, length-take n l)), get_or-take n l i d h, e) (omega arith)

  pub reach-end : (l : List A) (n i : ℕ) → i ≡ n → n ≤ length l → reach l n i ≡ n
  unfolding reach index_of
  reach-end l n i h k = rw (drop_of_length-le (take n l) {i = i} (omega (arith, length-take n l))) (omega arith)

  -- whether one passes, by the index
  pub index-any : (l : List A) (n : ℕ) → n ≤ length l → ltb (index_of p (take n l)) n ≡ any p (take n l)
  index-any l n h =
      let m = length-take n l in
      by_bool (any p (take n l)) (λ e. rw (lt-ltb (index_of p (take n l)) n (omega (arith, indexed (take n l) e)), e))
      (λ e. rw (le-ltb (index_of p (take n l)) n (omega (arith, unindexed (take n l) e)), e))

module _ {A B : Type 0} (f : A → B) where
  pub index-map : (p : B → Bool) (xs : List A) → index_of p (map f xs) ≡ index_of (λ x. p (f x)) xs
  unfolding index_of
  index-map p [] = refl
  index-map p (x ∷ xs) = rw (index-map p xs)

  pub get_or-map : (d : A) (e : B) (xs : List A) (i : ℕ) → i < length xs → get_or (map f xs) i e ≡ f (get_or xs i d)
  get_or-map d e [] i h = absurd (omega arith)
  get_or-map d e (x ∷ xs) zero h = refl
  get_or-map d e (x ∷ xs) (suc i) h = get_or-map d e xs i (omega arith)

-- The library's search: the same index, or none

module _ {A : Type 0} (p : A → Bool) where
  at-first : (xs : List A) → position_or_len p xs ≡ index_of p xs
  unfolding index_of
  at-first [] = refl
  at-first (x ∷ xs) = by_bool (p x) (λ e. rw e) (λ e. rw (e, at-first xs) (omega arith))

  pub position-as : (xs : List A) → position p xs ≡ cond (ltb (index_of p xs) (length xs)) (Some (index_of p xs)) None
  position-as xs = rw (at-first xs) refl

  -- none is found exactly where none passes
  pub position-none : (xs : List A) → is_none (position p xs) ≡ not (any p xs)
  position-none xs =
      rw (position-as xs)
      (by_bool (any p xs) (λ e. rw (lt-ltb (index_of p xs) (length xs) (indexed p xs e), e)) (λ e. rw (le-ltb (index_of p xs) (length xs) (omega (arith, unindexed p xs e)), e)))

  pub none-passes : (xs : List A) → position p xs ≡ None → any p xs ≡ false
  none-passes xs h = of-not (any p xs) (λ e. not-both (sym (position-none xs) ∙ ap is_none h) (ap not e))

  -- what is found is the index of the first that passes
  pub found-at : (xs : List A) (at : ℕ) → position p xs ≡ Some at → (index_of p xs < length xs) × (index_of p xs ≡ at)
  found-at xs at h =
      let k = cond_some (ltb (index_of p xs) (length xs)) (index_of p xs) at (sym (position-as xs) ∙ h) in
      (ltb-true (index_of p xs) (length xs) k.0, k.1)

-- a mapped list is searched as the list is
pub position-map : {A B : Type 0} (f : A → B) (p : B → Bool) (xs : List A) → position p (map f xs) ≡ position (λ x. p (f x)) xs
position-map f p xs = rw (position-as p (map f xs), position-as (λ x. p (f x)) xs, index-map f p xs, length-map xs f)

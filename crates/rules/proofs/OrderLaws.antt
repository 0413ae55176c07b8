-- The order in which some are taken: each once, by classes, and within each class the latest number first.
use Prim.Native.Nat.{ℕ, ◌<◌}
use mathlib.Core.Path.{◌≡◌, refl, ap, sym}
use mathlib.Core.Logic.{◌⊎◌, inl, inr, ⊎_elim}
use mathlib.Core.Bool.{Bool, true, false, cond, not, ◌&&◌}
use mathlib.Core.List.{List, [], ◌∷◌, reverse}
use native.Mathlib.Omega.{arith}
use lib.Dec.{ltb, eqb}
use borrow.Author.Tests.{ltb-true, lt-ltb, eqb-true, eq-eqb, ne_eqb, not-true}
use Rattle.rules.specs.Lists.{All, none, more, Pairwise, empty, ahead, keep, sum, sum_of}
use Rattle.rules.specs.Judging.{by_class, class_by, is_before}
use Rattle.rules.proofs.BoolLaws.{by_bool, not-both, of-not, either, both, of-both}
use Rattle.rules.proofs.ListLaws.{all_map, all_append, all_keep, keep-passes, keep-none, all-parts, all-unkept, all-reversed, all-unreversed}
use Rattle.rules.proofs.ElementLaws.{all_both, all-every, pairwise-keep, pairwise_append, pairwise-weaken, pairwise-reversed, pairwise-apart, pairwise-with, across}
use Rattle.rules.proofs.SumLaws.{sum_where, sum-reversed, sum-append, sum-two, sum-without}

-- Classes

module _ {A : Type 0} where
  -- what holds of all holds of all in classes
  pub all-classes : {P : A → Type 0} (ps : List (A → Bool)) {xs : List A} → All P xs → All P (by_class ps xs)
  unfolding by_class
  all-classes [] a = a
  all-classes (p ∷ ps) a = all_append (all_keep p a) (all-classes ps (all_keep (λ x. not (p x)) a))

  -- and the other way
  pub all-unclassed : {P : A → Type 0} (ps : List (A → Bool)) (xs : List A) → All P (by_class ps xs) → All P xs
  unfolding by_class
  all-unclassed [] xs a = a
  all-unclassed (p ∷ ps) xs a =
      let k = all-parts (keep p xs) a in
      all_both (λ x f g. by_bool (p x) f (λ e. g (ap not e))) (all-unkept p xs k.0)
      (all-unkept (λ x. not (p x)) xs (all-unclassed ps (keep (λ x. not (p x)) xs) k.1))

  -- what holds of each with every other does so in classes
  pub classes-pairwise : {R : A → A → Type 0} → ((x y : A) → R x y → R y x) → (ps : List (A → Bool)) {xs : List A} → Pairwise R xs → Pairwise R (by_class ps xs)
  unfolding by_class
  classes-pairwise class [] a = a
  classes-pairwise class (p ∷ ps) a =
      pairwise_append (all_map (λ x r. all-classes ps r) (pairwise-apart class p (λ x. not (p x)) (λ x e. ap not e) a)) (pairwise-keep p a)
      (classes-pairwise class ps (pairwise-keep (λ x. not (p x)) a))

  -- those that pass a test sum to the same in classes
  pub sum-classes : (f : A → ℕ) (q : A → Bool) (ps : List (A → Bool)) (xs : List A) → sum_where f q (by_class ps xs) ≡ sum_where f q xs
  unfolding by_class
  sum-classes f q [] xs = refl
  sum-classes f q (p ∷ ps) xs =
      omega (arith, sum-append f q (keep p xs) (by_class ps (keep (λ x. not (p x)) xs)), sum-classes f q ps (keep (λ x. not (p x)) xs), sum-two f q p xs)

module _ {A : Type 0} (number : A → ℕ) where
  -- what `is_before` tests
  abbrev Before : List (A → Bool) → A → A → Type 0
  Before ps x y = (class_by ps x < class_by ps y) ⊎ ((class_by ps x ≡ class_by ps y) × (number y < number x))

  before-cases : (ps : List (A → Bool)) (x y : A) → is_before ps number x y ≡ true → Before ps x y
  unfolding is_before
  before-cases ps x y h =
      ⊎_elim (λ e. inl (ltb-true _ _ e)) (λ e. let c = both (eqb (class_by ps x) (class_by ps y)) (ltb (number y) (number x)) e in inr (eqb-true _ _ c.0, ltb-true _ _ c.1))
      (either (ltb (class_by ps x) (class_by ps y)) (eqb (class_by ps x) (class_by ps y) && ltb (number y) (number x)) h)

  of-before : (ps : List (A → Bool)) (x y : A) → Before ps x y → is_before ps number x y ≡ true
  unfolding is_before
  of-before ps x y h =
      by_bool (ltb (class_by ps x) (class_by ps y)) (λ p. rw p)
      (λ p. rw p (⊎_elim (λ a. not-both (lt-ltb _ _ a) p) (λ a. of-both (eq-eqb _ _ a.0) (lt-ltb _ _ a.1)) h))

  -- of two one is taken before the other, not both
  pub before-asym : (ps : List (A → Bool)) (x y : A) → is_before ps number x y ≡ true → is_before ps number y x ≡ false
  before-asym ps x y h =
      of-not (is_before ps number y x) (λ e. ⊎_elim (λ a. ⊎_elim (λ c. omega arith) (λ c. omega arith) (before-cases ps y x e))
      (λ a. ⊎_elim (λ c. omega arith) (λ c. omega arith) (before-cases ps y x e)) (before-cases ps x y h))

  -- those that pass the first test are taken before the others, and among these nothing changes
  class-first : (p : A → Bool) (ps : List (A → Bool)) (x y : A) → p x ≡ true → p y ≡ true → number y < number x → Before (p ∷ ps) x y
  unfolding class_by
  class-first p ps x y a b h = rw (a, b) (inr (refl, h))

  class-other : (p : A → Bool) (ps : List (A → Bool)) (x y : A) → p x ≡ true → p y ≡ false → Before (p ∷ ps) x y
  unfolding class_by
  class-other p ps x y a b = rw (a, b) (inl (omega arith))

  class-later : (p : A → Bool) (ps : List (A → Bool)) (x y : A) → p x ≡ false → p y ≡ false → Before ps x y → Before (p ∷ ps) x y
  unfolding class_by
  class-later p ps x y a b h = rw (a, b) (⊎_elim (λ e. inl (omega arith)) (λ e. inr (omega (arith, e.0), e.1)) h)

  -- of some by falling numbers
  classes-before : (ps : List (A → Bool)) {xs : List A} → Pairwise (λ x y. number y < number x) xs → Pairwise (Before ps) (by_class ps xs)
  unfolding by_class class_by
  classes-before [] a = pairwise-weaken (λ x y h. inr (refl, h)) a
  classes-before (p ∷ ps) {xs} a =
      let rest = all-classes ps (all_map (λ x e. not-true (p x) e) (keep-passes (λ x. not (p x)) xs)) in
      pairwise_append (across (λ x y e k. class-other p ps x y e k) (keep-passes p xs) rest)
      (pairwise-with (λ x y e k h. class-first p ps x y e k h) (keep-passes p xs) (pairwise-keep p a))
      (pairwise-with (λ x y e k h. class-later p ps x y e k h) rest (classes-before ps (pairwise-keep (λ x. not (p x)) a)))

-- Those that are shown, the latest first

module _ {A : Type 0} (number : A → ℕ) (classes : List (A → Bool)) (shown : A → Bool) where
  abbrev pub order_of : List A → List A
  order_of ls = by_class classes (reverse (keep shown ls))

  -- no two have one number
  abbrev pub Distinct : List A → Type 0
  Distinct ls = Pairwise (λ k l. number k ≡ number l → ⊥) ls

  -- numbers that differ, differ
  other : (k l : A) → (number k ≡ number l → ⊥) → number l ≡ number k → ⊥
  other k l f e = f (sym e)

  -- what holds of all in the order holds of those shown
  pub all-unordered : {P : A → Type 0} (ls : List A) → All P (order_of ls) → All (λ l. shown l ≡ true → P l) ls
  all-unordered ls h = all-unkept shown ls (all-unreversed (keep shown ls) (all-unclassed classes (reverse (keep shown ls)) h)).0

  -- and what holds of all holds of all in the order
  pub all-ordered : {P : A → Type 0} {ls : List A} → All P ls → All P (order_of ls)
  all-ordered a = all-classes classes (all-reversed (all_keep shown a) none)

  -- no two in the order have one number
  pub ordered-distinct : {ls : List A} → Distinct ls → Distinct (order_of ls)
  ordered-distinct {ls} d = classes-pairwise other classes (pairwise-reversed other (pairwise-keep shown d) empty (all-every (λ l. none) (keep shown ls)))

  -- one that is not shown has the number of none of them
  pub hidden-apart : (ls : List A) → Distinct ls → All (λ l. shown l ≡ false → All (λ k. number k ≡ number l → ⊥) (order_of ls)) ls
  hidden-apart ls d =
      all_map (λ l f e. f (ap not e)) (all-unkept (λ l. not (shown l)) ls
      (all_map (λ l f. all-classes classes (all-reversed (all_map (λ k g. other l k g) f) none)) (pairwise-apart other (λ l. not (shown l)) shown (λ l e. not-true (shown l) e) d)))

  -- those that pass a test sum to the same in the order as in the list, if all of them are shown
  pub sum-ordered : (f : A → ℕ) (p : A → Bool) {ls : List A} → All (λ l. shown l ≡ false → p l ≡ false) ls → sum_where f p (order_of ls) ≡ sum_where f p ls
  unfolding keep sum_of sum
  sum-ordered f p {ls} a = omega (arith, sum-classes f p classes (reverse (keep shown ls)), sum-reversed f p (keep shown ls) [], sum-without f p shown a)

  -- the order is that of the classes, latest first
  pub order-taken : {ls : List A} → Pairwise (λ k l. number k < number l) ls → Pairwise (λ k l. is_before classes number k l ≡ true) (order_of ls)
  order-taken {ls} n =
      pairwise-weaken (of-before number classes) (classes-before number classes (pairwise-reversed (λ x y h. h) (pairwise-keep shown n) empty (all-every (λ l. none) (keep shown ls))))

-- Those before one

module _ {A : Type 0} (number : A → ℕ) where
  -- those of a list that stand before the one of number n
  unfoldable pub ahead_of : ℕ → List A → List A
  ahead_of n [] = []
  ahead_of n (l ∷ ls) = cond (eqb (number l) n) [] (l ∷ ahead_of n ls)

  -- those that stand before one are among all
  pub all-ahead : {P : A → Type 0} (n : ℕ) {ls : List A} → All P ls → All P (ahead_of n ls)
  unfolding ahead_of
  all-ahead n none = none
  all-ahead n (more {x} h t) = by_bool (eqb (number x) n) (λ e. rw e none) (λ e. rw e (more h (all-ahead n t)))

  module _ (ps : List (A → Bool)) where
    -- nothing is taken before the first
    first-ahead : (x : A) (xs : List A) → All (λ l. is_before ps number x l ≡ true) xs → keep (λ k. is_before ps number k x) (x ∷ xs) ≡ ahead_of (number x) (x ∷ xs)
    unfolding ahead_of keep
    first-ahead x xs a =
        rw (eq-eqb (number x) (number x) refl, of-not (is_before ps number x x) (λ e. not-both e (before-asym number ps x x e)))
        (keep-none (λ k. is_before ps number k x) (all_map (λ l e. before-asym number ps x l e) a))

    -- the first is taken before each other
    other-ahead : (x l : A) (xs : List A) → is_before ps number x l ≡ true → (number x ≡ number l → ⊥) → keep (λ k. is_before ps number k l) xs ≡ ahead_of (number l) xs
        → keep (λ k. is_before ps number k l) (x ∷ xs) ≡ ahead_of (number l) (x ∷ xs)
    unfolding ahead_of keep
    other-ahead x l xs p d e = rw (p, ne_eqb (number x) (number l) d) (ap {B = List A} (λ ls. x ∷ ls) e)

    -- of a list in this order those that stand before one are those taken before it
    pub ahead-taken : {ls : List A} → Pairwise (λ k l. is_before ps number k l ≡ true) ls → Pairwise (λ k l. number k ≡ number l → ⊥) ls
        → All (λ l. keep (λ k. is_before ps number k l) ls ≡ ahead_of (number l) ls) ls
    ahead-taken empty empty = none
    ahead-taken (ahead {x} {xs} a t) (ahead d u) =
        more (first-ahead x xs a)
        (all_both {P = λ l. (is_before ps number x l ≡ true) × (number x ≡ number l → ⊥)} (λ l p e. other-ahead x l xs p.0 p.1 e) (all_both (λ l p q. (p, q)) a d) (ahead-taken t u))

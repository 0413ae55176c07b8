-- Laws of lists: `All`, and what the definitions of specs/Lists.antt do.
use Prim.Native.Nat.{ℕ, zero, suc, ◌+◌, ◌-◌, ◌≤◌, ◌<◌}
use mathlib.Core.Path.{◌≡◌, refl, ap, ap₂, subst, ◌∙◌}
use mathlib.Core.Logic.{⊎_elim}
use mathlib.Core.Bool.{Bool, true, false, cond, not, ◌&&◌, false≢true}
use mathlib.Core.List.{List, [], ◌∷◌, ◌++◌, map, reverse_aux}
use native.Mathlib.Omega.{arith}
use native.Mathlib.Nat.{not-suc-le-zero, le_of_suc-le-suc, eq-or-lt_of_le}
use lib.Dec.{eqb}
use lib.ListN.{length, take, drop, get_or, replicate, get_or-eq_default}
use borrow.Author.Tests.{eqb-true, not-false}
use Rattle.std.specs.List.{list_any, filter}
use Rattle.rules.specs.Lists.{All, none, more, keep, any, first, from, hourly}
use Rattle.rules.proofs.BoolLaws.{by_bool, not-both, neither, of-neither}

-- every number of the list is below n: `Under 2` is a list of bits, `Under 256` a list of bytes
abbrev pub Under : ℕ → List ℕ → Type 0
Under n xs = All (λ x. x < n) xs

module _ {A : Type 0} {P : A → Type 0} where
  -- what follows from what holds of each
  pub all_map : {Q : A → Type 0} {xs : List A} → ((x : A) → P x → Q x) → All P xs → All Q xs
  all_map f none = none
  all_map f (more {x} h t) = more (f x h) (all_map f t)

  -- what holds of both parts holds of the whole
  pub all_append : {xs ys : List A} → All P xs → All P ys → All P (xs ++ ys)
  all_append none k = k
  all_append (more h t) k = more h (all_append t k)

  -- what holds of all holds of the first n
  pub all_take : (n : ℕ) {xs : List A} → All P xs → All P (take n xs)
  all_take zero h = none
  all_take (suc n) none = none
  all_take (suc n) (more h t) = more h (all_take n t)

  -- of those after the first n
  pub all_drop : (n : ℕ) {xs : List A} → All P xs → All P (drop n xs)
  all_drop zero h = h
  all_drop (suc n) none = none
  all_drop (suc n) (more h t) = all_drop n t

  -- of the first
  pub all_head : {x : A} {xs : List A} → All P (x ∷ xs) → P x
  all_head (more h t) = h

  -- of the others
  pub all_tail : {x : A} {xs : List A} → All P (x ∷ xs) → All P xs
  all_tail (more h t) = t

  -- of n times an element of which it holds
  pub all_replicate : (n : ℕ) (x : A) → P x → All P (replicate n x)
  all_replicate zero x h = none
  all_replicate (suc n) x h = more h (all_replicate n x h)

  -- of the element at a place
  pub all-at : {xs : List A} (i : ℕ) (d : A) → All P xs → i < length xs → P (get_or xs i d)
  all-at i d none h = absurd (not-suc-le-zero h)
  all-at zero d (more p t) h = p
  all-at (suc i) d (more p t) h = all-at i d t (le_of_suc-le-suc h)

-- Parts and images

module _ {A : Type 0} {P : A → Type 0} where
  -- what holds of both cases
  pub all-cond : (b : Bool) {xs ys : List A} → All P xs → All P ys → All P (cond b xs ys)
  all-cond true h k = h
  all-cond false h k = k

  -- a fact about all is one about those that pass a test
  pub all_keep : (p : A → Bool) {xs : List A} → All P xs → All P (keep p xs)
  unfolding keep
  all_keep p none = none
  all_keep p (more {x} h t) = all-cond (p x) (more h (all_keep p t)) (all_keep p t)

module _ {A B : Type 0} (f : A → B) where
  -- what holds of each image
  pub all-mapped : {P : B → Type 0} {xs : List A} → All (λ x. P (f x)) xs → All P (map f xs)
  all-mapped none = none
  all-mapped (more h t) = more h (all-mapped t)

  -- those of a mapped list that pass a test
  pub keep-map : (p : B → Bool) (xs : List A) → keep p (map f xs) ≡ map f (keep (λ x. p (f x)) xs)
  unfolding keep
  keep-map p [] = refl
  keep-map p (x ∷ xs) =
      by_bool (p (f x)) (λ t. rw t (ap (λ (l : List B). f x ∷ l) (keep-map p xs))) (λ t. rw t (keep-map p xs))

-- what holds of the element at each place holds of all
pub all_of : {A : Type 0} {P : A → Type 0} (d : A) (xs : List A) → ((i : ℕ) → i < length xs → P (get_or xs i d)) → All P xs
all_of d [] h = none
all_of d (x ∷ xs) h = more (h 0 (omega arith)) (all_of d xs (λ i k. h (suc i) (omega arith)))

-- zeros beyond the end change no element
pub get_or-pad : (xs : List ℕ) (n i : ℕ) → get_or (xs ++ replicate n 0) i 0 ≡ get_or xs i 0
get_or-pad [] zero i = refl
get_or-pad [] (suc n) zero = refl
get_or-pad [] (suc n) (suc i) = get_or-pad [] n i
get_or-pad (x ∷ xs) n zero = refl
get_or-pad (x ∷ xs) n (suc i) = get_or-pad xs n i

-- the first k of n equal elements
pub take-replicate : {A : Type 0} (k n : ℕ) (x : A) → k ≤ n → take k (replicate n x) ≡ replicate k x
take-replicate zero n x h = refl
take-replicate (suc k) zero x h = absurd (not-suc-le-zero h)
take-replicate (suc k) (suc n) x h = ap {B = List _} (λ l. x ∷ l) (take-replicate k n x (le_of_suc-le-suc h))

-- Tests

module _ {A : Type 0} (p : A → Bool) where
  -- none passes: each fails
  pub any_false : (xs : List A) → any p xs ≡ false → All (λ x. p x ≡ false) xs
  unfolding any
  any_false [] h = none
  any_false (x ∷ xs) h = let k = neither (p x) (any p xs) h in more k.0 (any_false xs k.1)

  -- and the other way
  pub of-any-false : {xs : List A} → All (λ x. p x ≡ false) xs → any p xs ≡ false
  unfolding any
  of-any-false none = refl
  of-any-false (more h t) = of-neither h (of-any-false t)

  -- where one passes, the first does
  pub first_passes : (d : A) (xs : List A) → any p xs ≡ true → p (first p d xs) ≡ true
  unfolding any first
  first_passes d [] h = absurd (false≢true h)
  first_passes d (x ∷ xs) h = by_bool (p x) (λ e. rw (e, first) e) (λ e. rw e (first_passes d xs (rw e at h)))

  -- where none passes, it is the default
  pub first-none : (d : A) (xs : List A) → any p xs ≡ false → first p d xs ≡ d
  unfolding any first
  first-none d [] h = refl
  first-none d (x ∷ xs) h = let k = neither (p x) (any p xs) h in rw k.0 (first-none d xs k.1)

-- numbers of which none differs from 0 are zeros
pub all-zero : (xs : List ℕ) → any (λ x. not (eqb x 0)) xs ≡ false → xs ≡ replicate (length xs) 0
unfolding any
all-zero [] h = refl
all-zero (x ∷ xs) h =
    let k = neither _ _ h in
    ap₂ (λ y l. y ∷ l) (eqb-true x 0 (not-false _ k.0)) (all-zero xs k.1)

-- and the other way
pub of-all-zero : (n : ℕ) → any (λ x. not (eqb x 0)) (replicate n 0) ≡ false
unfolding any
of-all-zero zero = refl
of-all-zero (suc n) = of-all-zero n

module _ {A : Type 0} where
  -- those that pass a test do pass it
  pub keep-passes : (p : A → Bool) (xs : List A) → All (λ x. p x ≡ true) (keep p xs)
  unfolding keep
  keep-passes p [] = none
  keep-passes p (x ∷ xs) = by_bool (p x) (λ e. rw e (more e (keep-passes p xs))) (λ e. rw e (keep-passes p xs))

  -- none does
  pub keep-none : (p : A → Bool) {xs : List A} → All (λ x. p x ≡ false) xs → keep p xs ≡ []
  unfolding keep
  keep-none p none = refl
  keep-none p (more h t) = rw h (keep-none p t)

  -- they are no more than all
  pub length-keep : (p : A → Bool) (xs : List A) → length (keep p xs) ≤ length xs
  unfolding keep
  length-keep p [] = omega arith
  length-keep p (x ∷ xs) = by_bool (p x) (λ e. rw e (omega (arith, length-keep p xs))) (λ e. rw e (omega (arith, length-keep p xs)))

  -- and fewer without one that is there
  pub length-drop-one : (p : A → Bool) (xs : List A) → any p xs ≡ true → length (keep (λ x. not (p x)) xs) < length xs
  unfolding keep any
  length-drop-one p [] h = absurd (false≢true h)
  length-drop-one p (x ∷ xs) h =
      by_bool (p x) (λ e. rw e (omega (arith, length-keep (λ x. not (p x)) xs)))
      (λ e. rw e (omega (arith, length-drop-one p xs (rw e at h))))

  -- those that pass two tests
  pub keep-keep : (p q : A → Bool) (xs : List A) → keep q (keep p xs) ≡ keep (λ x. p x && q x) xs
  unfolding keep
  keep-keep p q [] = refl
  keep-keep p q (x ∷ xs) =
      by_bool (p x) (λ e. rw e (by_bool (q x) (λ d. rw (d, keep-keep p q xs)) (λ d. rw (d, keep-keep p q xs)))) (λ e. rw e (keep-keep p q xs))

  -- tests that agree on each
  pub keep_same : (p q : A → Bool) {xs : List A} → All (λ x. p x ≡ q x) xs → keep p xs ≡ keep q xs
  unfolding keep
  keep_same p q none = refl
  keep_same p q (more {x} {xs} h t) = rw (h, keep_same p q t)

  -- one that passes a test is still there in a longer list
  pub any-longer : (p : A → Bool) (xs ys : List A) → any p xs ≡ true → any p (xs ++ ys) ≡ true
  unfolding any
  any-longer p [] ys h = absurd (false≢true h)
  any-longer p (x ∷ xs) ys h = by_bool (p x) (λ e. rw e) (λ e. rw e (any-longer p xs ys (rw e at h)))

  -- and the first one is the same
  pub first-longer : (p : A → Bool) (d : A) (xs ys : List A) → any p xs ≡ true → first p d (xs ++ ys) ≡ first p d xs
  unfolding any first
  first-longer p d [] ys h = absurd (false≢true h)
  first-longer p d (x ∷ xs) ys h = by_bool (p x) (λ e. rw e) (λ e. rw e (first-longer p d xs ys (rw e at h)))

module _ {A : Type 0} {P : A → Type 0} where
  -- what holds of a list turned round holds of the list
  pub all-unreversed : (xs : List A) {ys : List A} → All P (reverse_aux xs ys) → All P xs × All P ys
  all-unreversed [] h = (none, h)
  all-unreversed (x ∷ xs) {ys} h = let k = all-unreversed xs {ys = x ∷ ys} h in (more (all_head k.1) k.0, all_tail k.1)

  -- and the other way
  pub all-reversed : {xs ys : List A} → All P xs → All P ys → All P (reverse_aux xs ys)
  all-reversed none k = k
  all-reversed (more h t) k = all-reversed t (more h k)

  -- what holds of two lists one after the other holds of each
  pub all-parts : (xs : List A) {ys : List A} → All P (xs ++ ys) → All P xs × All P ys
  all-parts [] h = (none, h)
  all-parts (x ∷ xs) (more h t) = let k = all-parts xs t in (more h k.0, k.1)

  -- a fact about those that pass a test is one about each that passes
  pub all-unkept : (p : A → Bool) (xs : List A) → All P (keep p xs) → All (λ x. p x ≡ true → P x) xs
  unfolding keep
  all-unkept p [] h = none
  all-unkept p (x ∷ xs) h =
      by_bool (p x) (λ e. let k : All P (x ∷ keep p xs) = rw e at h in more (λ q. all_head k) (all-unkept p xs (all_tail k)))
      (λ e. more (λ q. not-both q e) (all-unkept p xs (rw e at h)))

-- Numbers in a row, and hours

-- what holds of n numbers from i on holds of each
pub all_from : {P : ℕ → Type 0} (i n h : ℕ) → All P (from i n) → i ≤ h → h < i + n → P h
unfolding from
all_from i zero h t l u = absurd (omega arith)
all_from {P} i (suc n) h (more p t) l u =
    ⊎_elim (λ e. subst P e p) (λ k. all_from (suc i) n h t k (omega arith)) (eq-or-lt_of_le l)

-- hour i + 1 is at place i
pub hourly-suc : (xs : List ℕ) (i : ℕ) → hourly xs (suc i) ≡ get_or xs i 0
unfolding hourly
hourly-suc xs i = let e : suc i - 1 ≡ i = omega arith in rw e

-- and hours beyond the list have 0
pub hourly-beyond : (xs : List ℕ) (i : ℕ) → length xs ≤ i → hourly xs (suc i) ≡ 0
hourly-beyond xs i h = hourly-suc xs i ∙ get_or-eq_default xs 0 h

-- The library's words for what the rules say of lists

pub any-list : {A : Type 0} (p : A → Bool) (xs : List A) → any p xs ≡ list_any p xs
unfolding any
any-list p [] = refl
any-list p (x ∷ xs) = rw (any-list p xs) refl

pub keep-list : {A : Type 0} (p : A → Bool) (xs : List A) → keep p xs ≡ filter p xs
unfolding keep
keep-list p [] = refl
keep-list p (x ∷ xs) = rw (keep-list p xs) refl

pub ruleset list_words = (any-list, keep-list)

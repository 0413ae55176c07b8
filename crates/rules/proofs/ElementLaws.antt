-- Laws of a list's elements: one that is found, each against the later ones, and two lists place by place.
use Prim.Native.Nat.{ℕ, zero, suc}
use mathlib.Core.Path.{◌≡◌}
use mathlib.Core.Bool.{Bool, true, false, cond, false≢true}
use mathlib.Core.List.{List, [], ◌∷◌, ◌++◌, map, reverse_aux}
use lib.ListN.{set}
use Rattle.rules.specs.Lists.{All, none, more, keep, any}
pub use Rattle.rules.specs.Lists.{Some, here, there, Pairwise, empty, ahead, Each, each0, each}
use Rattle.rules.proofs.BoolLaws.{by_bool}
use Rattle.rules.proofs.ListLaws.{all_map, all_append, all_keep, all-mapped}

-- two things that hold of each give a third
pub all_both : {A : Type 0} {P Q R : A → Type 0} {xs : List A} → ((x : A) → P x → Q x → R x) → All P xs → All Q xs → All R xs
all_both f none none = none
all_both f (more {x} h t) (more k u) = more (f x h k) (all_both f t u)

-- what holds of everything
pub all-every : {A : Type 0} {P : A → Type 0} → ((x : A) → P x) → (xs : List A) → All P xs
all-every f [] = none
all-every f (x ∷ xs) = more (f x) (all-every f xs)

-- what holds of all images holds of each image
pub all-unmapped : {A B : Type 0} {P : B → Type 0} (f : A → B) (xs : List A) → All P (map f xs) → All (λ x. P (f x)) xs
all-unmapped f [] none = none
all-unmapped f (x ∷ xs) (more h t) = more h (all-unmapped f xs t)

-- Some element

module _ {A : Type 0} {P : A → Type 0} where
  -- what follows from what holds of some
  pub some-map : {Q : A → Type 0} {xs : List A} → ((x : A) → P x → Q x) → Some P xs → Some Q xs
  some-map f (here {x} h) = here (f x h)
  some-map f (there s) = there (some-map f s)

  -- with what holds of all
  pub some-all : {Q R : A → Type 0} {xs : List A} → ((x : A) → P x → Q x → R x) → Some P xs → All Q xs → Some R xs
  some-all f (here {x} h) (more k t) = here (f x h k)
  some-all f (there s) (more k t) = there (some-all f s t)

-- a test that some element passes
pub any-true : {A : Type 0} (p : A → Bool) (xs : List A) → any p xs ≡ true → Some (λ x. p x ≡ true) xs
unfolding any
any-true p [] h = absurd (false≢true h)
any-true p (x ∷ xs) h = by_bool (p x) (λ e. here e) (λ e. there (any-true p xs (rw e at h)))

-- Each element against the later ones

module _ {A : Type 0} {R : A → A → Type 0} where
  -- so does either of two lists
  pairwise-cond : (b : Bool) {xs ys : List A} → Pairwise R xs → Pairwise R ys → Pairwise R (cond b xs ys)
  pairwise-cond true h k = h
  pairwise-cond false h k = k

  -- so do those of them that pass a test
  pub pairwise-keep : (p : A → Bool) {xs : List A} → Pairwise R xs → Pairwise R (keep p xs)
  unfolding keep
  pairwise-keep p empty = empty
  pairwise-keep p (ahead {x} h t) = pairwise-cond (p x) (ahead (all_keep p h) (pairwise-keep p t)) (pairwise-keep p t)

-- so do their images
pub pairwise_map : {A B : Type 0} {R : A → A → Type 0} {S : B → B → Type 0} (f : A → B) → ((x y : A) → R x y → S (f x) (f y)) → {xs : List A} → Pairwise R xs → Pairwise S (map f xs)
pairwise_map f g empty = empty
pairwise_map {S} f g (ahead {x} h t) = ahead (all-mapped f {P = S (f x)} (all_map (g x) h)) (pairwise_map f g t)

-- so do two lists one after the other, if each of the one does against all of the other
pub pairwise_append : {A : Type 0} {R : A → A → Type 0} {ys xs : List A} → All (λ x. All (R x) ys) xs → Pairwise R xs → Pairwise R ys → Pairwise R (xs ++ ys)
pairwise_append none empty k = k
pairwise_append (more a u) (ahead h t) k = ahead (all_append h a) (pairwise_append u t k)

-- one more element of which it holds
pub all-last : {A : Type 0} {P : A → Type 0} {xs : List A} {y : A} → All P xs → P y → All P (xs ++ (y ∷ []))
all-last h k = all_append h (more k none)

-- one put in the place of another
pub all-set : {A : Type 0} {P : A → Type 0} {xs : List A} (i : ℕ) {y : A} → All P xs → P y → All P (set xs i y)
all-set i none p = none
all-set zero (more k t) p = more p t
all-set (suc i) (more k t) p = more k (all-set i t p)

-- one more element that stands in R to each before
pub pairwise-last : {A : Type 0} {R : A → A → Type 0} {xs : List A} {y : A} → Pairwise R xs → All (λ x. R x y) xs → Pairwise R (xs ++ (y ∷ []))
pairwise-last h k = pairwise_append (all_map (λ x r. more r none) k) h (ahead none empty)

module _ {A : Type 0} {R : A → A → Type 0} where
  -- each with the later ones: what follows from it
  pub pairwise-weaken : {S : A → A → Type 0} {xs : List A} → ((x y : A) → R x y → S x y) → Pairwise R xs → Pairwise S xs
  pairwise-weaken f empty = empty
  pairwise-weaken f (ahead {x} h t) = ahead (all_map (f x) h) (pairwise-weaken f t)

  -- and with what holds of all
  pub pairwise-with : {P : A → Type 0} {S : A → A → Type 0} {xs : List A} → ((x y : A) → P x → P y → R x y → S x y) → All P xs → Pairwise R xs → Pairwise S xs
  pairwise-with f none empty = empty
  pairwise-with f (more {x} p a) (ahead h t) = ahead (all_both (λ y q r. f x y p q r) a h) (pairwise-with f a t)

  module _ (turn : (x y : A) → R x y → R y x) where
    -- two parts of a list that share no element
    pub pairwise-apart : (p q : A → Bool) → ((x : A) → p x ≡ true → q x ≡ false) → {xs : List A} → Pairwise R xs → All (λ x. All (R x) (keep q xs)) (keep p xs)
    unfolding keep
    pairwise-apart p q f empty = none
    pairwise-apart p q f (ahead {x} {xs} a t) =
        by_bool (p x) (λ e. rw (e, f x e) (more (all_keep q a) (pairwise-apart p q f t)))
        (λ e. rw e (by_bool (q x) (λ d. rw d (all_both (λ z r s. more (turn x z r) s) (all_keep p a) (pairwise-apart p q f t))) (λ d. rw d (pairwise-apart p q f t))))

-- a list turned round
pub pairwise-reversed : {A : Type 0} {R S : A → A → Type 0} → ((x y : A) → R x y → S y x) → {xs ys : List A} → Pairwise R xs → Pairwise S ys → All (λ x. All (S x) ys) xs → Pairwise S (reverse_aux xs ys)
pairwise-reversed turn empty k none = k
pairwise-reversed turn (ahead {x} a t) k (more h u) = pairwise-reversed turn t (ahead h k) (all_both (λ z r s. more (turn x z r) s) a u)

-- each of one list against all of another
pub across : {A : Type 0} {P Q : A → Type 0} {R : A → A → Type 0} {xs ys : List A} → ((x y : A) → P x → Q y → R x y) → All P xs → All Q ys → All (λ x. All (R x) ys) xs
across f none k = none
across f (more {x} h t) k = more (all_map (λ y. f x y h) k) (across f t k)

-- Two lists place by place

-- a list against its images
pub each_map : {A B : Type 0} {R : A → B → Type 0} (f : A → B) {xs : List A} → All (λ x. R x (f x)) xs → Each R xs (map f xs)
each_map f none = each0
each_map f (more h t) = each h (each_map f t)

-- what follows from what holds at each place
pub each_weaken : {A B : Type 0} {R S : A → B → Type 0} → ((x : A) (y : B) → R x y → S x y) → {xs : List A} {ys : List B} → Each R xs ys → Each S xs ys
each_weaken f each0 = each0
each_weaken f (each {x} {y} h t) = each (f x y h) (each_weaken f t)

module _ {A : Type 0} {R : A → A → Type 0} where
  -- a list against itself
  pub each-refl : ((x : A) → R x x) → (xs : List A) → Each R xs xs
  each-refl f [] = each0
  each-refl f (x ∷ xs) = each (f x) (each-refl f xs)

  -- and against a third
  pub each-trans : {xs ys zs : List A} → ((x y z : A) → R x y → R y z → R x z) → Each R xs ys → Each R ys zs → Each R xs zs
  each-trans f each0 each0 = each0
  each-trans f (each {x} {y} h t) (each {y = z} k u) = each (f x y z h k) (each-trans f t u)

module _ {A : Type 0} {R : A → A → Type 0} {S : A → A → Type 0} (f : (a b x y : A) → R a x → R b y → S a b → S x y) where
  -- one element against the later ones, carried over
  each-later : {a x : A} {xs ys : List A} → R a x → Each R xs ys → All (S a) xs → All (S x) ys
  each-later r each0 none = none
  each-later {a} {x} r (each {x = b} {y} h t) (more k u) = more (f a b x y r h k) (each-later r t u)

  -- how each stands to the later ones is carried from one list to the other
  pub each-pairwise : {xs ys : List A} → Each R xs ys → Pairwise S xs → Pairwise S ys
  each-pairwise each0 empty = empty
  each-pairwise (each h t) (ahead k u) = ahead (each-later h t k) (each-pairwise t u)

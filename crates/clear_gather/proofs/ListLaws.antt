-- Laws of lists read by index.
use Prim.Native.Nat.{ℕ, zero, suc, ◌+◌, ◌≤◌, ◌<◌}
use mathlib.Core.Path.{◌≡◌, refl, ap, ◌∙◌}
use mathlib.Core.Bool.{Bool, cond}
use mathlib.Core.List.{List, [], ◌∷◌, ◌++◌, map, append_assoc, append-nil}
use native.Mathlib.Omega.{arith}
use lib.ListN.{get_or, length, take, drop, length-map, get_or-append}
use lib.Seq.{drop-cons, take_all}
use Rattle.rules.specs.Lists.{All, none, more, keep, first, from}
use Rattle.rules.proofs.BoolLaws.{by_bool}
use Rattle.session.specs.Laid.{pad}
use Rattle.session.proofs.IndexLaws.{get_or-map}

module _ {A : Type 0} (d : A) where
  by-indices : (a : List A) (i n : ℕ) → i + n ≤ length a → map (λ j. get_or a j d) (from i n) ≡ take n (drop i a)
  unfolding from
  by-indices a i zero h = refl
  by-indices a i (suc n) h = rw (drop-cons a i d (omega arith)) (ap (λ (l : List A). get_or a i d ∷ l) (by-indices a (suc i) n (omega arith)))

  -- the first n of a list
  pub front-indices : (a : List A) (n : ℕ) → n ≤ length a → map (λ j. get_or a j d) (from 0 n) ≡ take n a
  front-indices a n h = by-indices a 0 n (omega arith)

  -- all of it
  pub all-indices : (a : List A) → map (λ j. get_or a j d) (from 0 (length a)) ≡ a
  all-indices a = front-indices a (length a) (omega arith) ∙ take_all (length a) a (omega arith)

  -- what stands in an array that a list is laid into
  pub laid-at : {B : Type 0} (f : A → B) (n : ℕ) (b e : B) (xs : List A) (i : ℕ) → i < length xs → get_or (pad n b (map f xs)) i e ≡ f (get_or xs i d)
  unfolding pad
  laid-at f n b e xs i h = get_or-append (map f xs) _ e i (omega (arith, length-map xs f)) ∙ get_or-map f d e xs i h

  -- a mapped list by index
  pub first-map : {B : Type 0} (f : A → B) (p : B → Bool) (xs : List A) → first p (f d) (map f xs) ≡ f (first (λ x. p (f x)) d xs)
  unfolding first
  first-map f p [] = refl
  first-map f p (x ∷ xs) = by_bool (p (f x)) (λ t. rw t) (λ t. rw t (first-map f p xs))

-- numbers within a bound, read anywhere
pub all-within : (m : ℕ) {es : List ℕ} → All (λ e. e ≤ m) es → (i : ℕ) → get_or es i 0 ≤ m
all-within m none i = omega arith
all-within m (more h t) zero = h
all-within m (more h t) (suc i) = all-within m t i

-- Lists joined

module _ {A : Type 0} where
  unfoldable pub flat : (ℕ → List A) → List ℕ → List A
  flat g [] = []
  flat g (w ∷ ws) = g w ++ flat g ws

  -- those that pass a test, one after the other
  pub kept-flat : (f : ℕ → A) (p : ℕ → Bool) (g : ℕ → List A) {ws : List ℕ} → All (λ w. cond (p w) (f w ∷ []) [] ≡ g w) ws → map f (keep p ws) ≡ flat g ws
  unfolding flat keep
  kept-flat f p g none = refl
  kept-flat f p g (more {x} {xs} h t) =
      by_bool (p x) (λ e. rw (← h, e) (ap (λ (l : List A). f x ∷ l) (kept-flat f p g t))) (λ e. rw (← h, e) (kept-flat f p g t))

  pub eight : (a b c d e f g h : List A)
      → a ++ (b ++ (c ++ (d ++ (e ++ (f ++ (g ++ (h ++ []))))))) ≡ (a ++ b) ++ ((c ++ d) ++ ((e ++ f) ++ (g ++ h)))
  eight a b c d e f g h =
      rw (append-nil h, append_assoc a b ((c ++ d) ++ ((e ++ f) ++ (g ++ h))), append_assoc c d ((e ++ f) ++ (g ++ h)), append_assoc e f (g ++ h))

-- The lodgements that count in an hour, gathered one after the other.
use Prim.Native.Nat.{ℕ, zero, suc, ◌+◌}
use mathlib.Core.Path.{◌≡◌, refl, sym, ap, ◌∙◌}
use mathlib.Core.Bool.{Bool, true, false, ◌&&◌, beq, true≢false}
use mathlib.Core.List.{List, [], ◌∷◌, ◌++◌, map, append-nil}
use native.Mathlib.Omega.{arith}
use native.Mathlib.Numerals.{add-one}
use lib.Dec.{ltb}
use lib.ListN.{length, length-append}
use Rattle.rules.specs.Lists.{keep, from}
use Rattle.rules.proofs.BoolLaws.{by_bool}
use Rattle.session.specs.declared.Verdict.{Verdict}
use Rattle.session.specs.declared.Lodgement.{Lodgement}
use Rattle.listed.specs.declared.Listed.{Listed}
use Rattle.listed.specs.View.{listed, Lists}
use Rattle.clear_gather.specs.Built.{counts}

pub from_last : (a n : ℕ) → from a (suc n) ≡ from a n ++ ((a + n) ∷ [])
unfolding from
from_last a zero = let o : a + 0 ≡ a = omega arith in rw o refl
from_last a (suc n) = let o : a + suc n ≡ suc a + n = omega arith in rw o (ap (λ (l : List ℕ). a ∷ l) (from_last (suc a) n))

module _ {A : Type 0} (f : ℕ → A) (p : ℕ → Bool) where
  keep-last : (is : List ℕ) (i : ℕ) → map f (keep p (is ++ (i ∷ []))) ≡ map f (keep p is) ++ map f (keep p (i ∷ []))
  unfolding keep
  keep-last [] i = refl
  keep-last (j ∷ is) i = by_bool (p j) (λ t. rw t (ap (λ (l : List A). f j ∷ l) (keep-last is i))) (λ t. rw t (keep-last is i))

  next : (i : ℕ) → map f (keep p (from 0 (i + 1))) ≡ map f (keep p (from 0 i)) ++ map f (keep p (i ∷ []))
  next i = let o : 0 + i ≡ i = omega arith in rw (add-one, from_last 0 i, o) (keep-last (from 0 i) i)

  -- one that counts, and one that does not
  pub gathered : (xs : List A) (i : ℕ) (x : A) → xs ≡ map f (keep p (from 0 i)) → p i ≡ true → x ≡ f i → xs ++ (x ∷ []) ≡ map f (keep p (from 0 (i + 1)))
  unfolding keep
  gathered xs i x e t q = rw (next i, t, e, q) refl

  pub passed : (xs : List A) (i : ℕ) → xs ≡ map f (keep p (from 0 i)) → p i ≡ false → xs ≡ map f (keep p (from 0 (i + 1)))
  unfolding keep
  passed xs i e t = rw (next i, t, e) (sym (append-nil (map f (keep p (from 0 i)))))

module _ (v : Verdict) (l : Lodgement) (energy : ℕ) where
  pub counts-none : (execution : Bool) → false ≡ (v.accepted && ltb 0 energy) → counts execution v l energy ≡ false
  unfolding counts
  counts-none execution h = by_bool v.accepted (λ t. rw t (let e : false ≡ ltb 0 energy = rw t at h in rw (← e) (and-false (beq l.key.execution execution)))) (λ t. rw t)
    where
      and-false : (b : Bool) → (b && false) ≡ false
      and-false true = refl
      and-false false = refl

  pub counts-kind : {kind : Bool} (execution : Bool) → true ≡ (v.accepted && ltb 0 energy) → l.key.execution ≡ kind → counts execution v l energy ≡ beq kind execution
  unfolding counts
  counts-kind {kind} execution h k =
      by_bool v.accepted (λ t. rw (t, k) (let e : true ≡ ltb 0 energy = rw t at h in rw (← e) (and-true (beq kind execution)))) (λ t. absurd (true≢false (h ∙ rw t)))
    where
      and-true : (b : Bool) → (b && true) ≡ b
      and-true true = refl
      and-true false = refl

-- A list that stands whole

module _ {A : Type 0} {n : ℕ} (l : Listed A n) {xs ys : List A} (h : Lists l xs) where
  -- the same
  pub stays : listed l ≡ ys → Lists l ys
  stays e = (e, h.1 ∙ (ap length (sym h.0) ∙ ap length e))

  -- one more
  pub grows : (m : Listed A n) (x : A) → listed m ≡ listed l ++ (x ∷ []) → m.count ≡ l.count + 1 → listed l ++ (x ∷ []) ≡ ys → Lists m ys
  grows m x e c q = (e ∙ q, c ∙ ap (λ k. k + 1) (h.1 ∙ ap length (sym h.0)) ∙ sym (length-append (listed l) (x ∷ [])) ∙ ap length q)

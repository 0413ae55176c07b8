-- The first unit that ends in a byte, and the one with a number.
use Prim.Native.Nat.{ℕ, zero, suc, ◌+◌, ◌%◌, ◌≤◌, ◌<◌}
use mathlib.Core.Path.{◌≡◌, refl, sym, ap, ◌∙◌}
use mathlib.Core.Bool.{Bool, true, cond}
use mathlib.Core.List.{List, [], ◌∷◌}
use lib.Dec.{ltb, eqb}
use native.Mathlib.Omega.{arith}
use native.Mathlib.Numerals.{add-one}
use lib.ListN.{length, get_or, take, set, replicate, length-set, length-replicate, get_or-replicate}
use lib.Seq.{get_or-set_same, get_or-set_other}
use borrow.Author.Tests.{eqb-true, eqb-false, eq-eqb, ltb-true, ltb-false, le-ltb}
use Rattle.std.specs.Prelude.{Option, Some, None, position}
use Rattle.std.specs.List.{position_from}
use Rattle.std.specs.Option.{option_or}
use Rattle.std.proofs.lemmas.Option.{none-some, cond_some}
use Rattle.std.proofs.lemmas.Iterator.Adapters.{position_from-zero}
use Rattle.rules.proofs.BoolLaws.{by_bool, of-not, not-both}
use Rattle.session.specs.Image.{no_unit}
use Rattle.session.specs.Parts.{index_of, number_is}
use Rattle.session.specs.declared.Unit.{Unit}
use Rattle.session.proofs.IndexLaws.{position-as}
use Rattle.close_holders.specs.Holders.{ends_in, Firsts}

-- Searches

module _ {A : Type 0} (p : A → Bool) (d : A) where
  or-none : (r : Option ℕ) → option_or r None ≡ r
  or-none None = refl
  or-none (Some n) = refl

  from-more : (k : ℕ) (xs : List A) (i : ℕ) → i < length xs → position_from p k (take (suc i) xs) ≡ option_or (position_from p k (take i xs)) (cond (p (get_or xs i d)) (Some (k + i)) None)
  from-more k [] i h = absurd (omega arith)
  from-more k (x ∷ xs) zero h = let e : k + 0 ≡ k = omega arith in rw e
  from-more k (x ∷ xs) (suc i) h =
      let e : k + 1 + i ≡ k + suc i = omega arith in
      by_bool (p x) (λ t. rw t) (λ t. rw t (rw e at (from-more (k + 1) xs i (omega arith))))

  -- the first of one more: of those before, or the one
  position-more : (xs : List A) (i : ℕ) → i < length xs → position p (take (i + 1) xs) ≡ option_or (position p (take i xs)) (cond (p (get_or xs i d)) (Some i) None)
  position-more xs i h =
      rw (position_from-zero p (take (i + 1) xs), position_from-zero p (take i xs), add-one) (let e : 0 + i ≡ i = omega arith in rw e at (from-more 0 xs i h))

module _ {A : Type 0} (p q : A → Bool) (d : A) (narrow : (x : A) → p x ≡ true → q x ≡ true) where
  -- where it is the one that is looked for
  index-narrow : (xs : List A) → index_of q xs < length xs → p (get_or xs (index_of q xs) d) ≡ true → index_of p xs ≡ index_of q xs
  unfolding index_of
  index-narrow [] h e = refl
  index-narrow (x ∷ xs) h e =
      by_bool (q x) (λ t. rw (t, rw t at e))
      (λ t. rw (t, of-not (p x) (λ z. not-both (narrow x z) t)) (ap suc (index-narrow xs (omega (arith, rw t at h)) (rw t at e))))

  -- where there is none, there is none that is looked for
  index-none : (xs : List A) → length xs ≤ index_of q xs → length xs ≤ index_of p xs
  unfolding index_of
  index-none [] h = omega arith
  index-none (x ∷ xs) h =
      by_bool (q x) (λ t. absurd (omega (arith, rw t at h)))
      (λ t. rw (of-not (p x) (λ z. not-both (narrow x z) t)) (omega (arith, index-none xs (omega (arith, rw t at h)))))

  pub position-none : (xs : List A) → position q xs ≡ None → position p xs ≡ None
  position-none xs e =
      by_bool (ltb (index_of q xs) (length xs)) (λ t. absurd (none-some (index_of q xs) (sym e ∙ (position-as q xs ∙ rw t))))
      (λ t. rw (position-as p xs, le-ltb (index_of p xs) (length xs) (index-none xs (ltb-false _ _ t))))

  pub position-narrow : (xs : List A) (at : ℕ) → position q xs ≡ Some at → p (get_or xs at d) ≡ true → position p xs ≡ Some at
  position-narrow xs at e h =
      let got = cond_some (ltb (index_of q xs) (length xs)) (index_of q xs) at (sym (position-as q xs) ∙ e) in
      let n = index-narrow xs (ltb-true _ _ got.0) (rw got.1 h) in
      rw (position-as p xs, n, got.0, got.1)

-- The bytes

pub ends-narrow : (n : ℕ) (u : Unit) → number_is n u ≡ true → ends_in (n % 256) u ≡ true
ends-narrow n u e = eq-eqb (u.number % 256) (n % 256) (ap (λ k. k % 256) (eqb-true u.number n e))

pub firsts-start : (firsts : List (Option ℕ)) → firsts ≡ replicate 256 None → Firsts [] firsts
firsts-start firsts e = record { long = rw e (length-replicate {A = Option ℕ} 256 None); at = λ k h. rw e (get_or-replicate {A = Option ℕ} 256 k None None h) }

pub firsts-more : (us : List Unit) (i : ℕ) (firsts : List (Option ℕ)) (v : Option ℕ) → i < length us → v ≡ option_or (get_or firsts ((get_or us i no_unit).number % 256) None) (Some i)
    → Firsts (take i us) firsts → Firsts (take (i + 1) us) (set firsts ((get_or us i no_unit).number % 256) v)
firsts-more us i firsts v h e f = record {
  long = (simp length-set) ∙ f.long;
  at = λ k m.
      let u = get_or us i no_unit in
      by_bool (eqb (u.number % 256) k)
      (λ t. let q = eqb-true (u.number % 256) k t in
      rw (q, get_or-set_same firsts k v None (omega (arith, f.long)), position-more (ends_in k) no_unit us i h, t, ← f.at k m) (rw q at e))
      (λ t. rw (position-more (ends_in k) no_unit us i h, t, or-none (ends_in k) no_unit (position (ends_in k) (take i us)), get_or-set_other firsts (u.number % 256) k v None (λ z. eqb-false (u.number % 256) k t (sym z))) (f.at k m));
}

-- Laws of the lowest of some numbers that passes a test.
use Prim.Native.Nat.{ℕ, zero, suc, ◌+◌, ◌≤◌, ◌<◌}
use mathlib.Core.Path.{◌≡◌, refl, subst}
use mathlib.Core.Logic.{⊎_elim}
use mathlib.Core.Bool.{Bool, true, false}
use native.Mathlib.Omega.{arith}
use native.Mathlib.Nat.{eq-or-lt_of_le}
use lib.Dec.{eqb}
use borrow.Author.Tests.{eqb-true, eqb-false}
use Rattle.rules.specs.Lists.{first, from, lowest}
use Rattle.rules.proofs.BoolLaws.{by_bool}

-- the first number that passes a test, among n from i on
module _ (p : ℕ → Bool) where
  pub first-is : (i n h : ℕ) → i ≤ h → h < i + n → p h ≡ true → ((k : ℕ) → i ≤ k → k < h → p k ≡ false) → first p 0 (from i n) ≡ h
  unfolding first from
  first-is i zero h low high pass fail = absurd (omega arith)
  first-is i (suc n) h low high pass fail =
      by_bool (eqb i h) (λ e. let q : h ≡ i = omega (arith, eqb-true) in rw (rw q at pass) (omega arith))
      (λ e.
      let less : i < h = omega (arith, eqb-false) in
      rw (fail i (omega arith) less) (first-is (suc i) n h less (omega arith) pass (λ k a b. fail k (omega arith) b)))

  pub first-none : (i n : ℕ) → ((k : ℕ) → i ≤ k → k < i + n → p k ≡ false) → first p 0 (from i n) ≡ 0
  unfolding first from
  first-none i zero fail = refl
  first-none i (suc n) fail = rw (fail i (omega arith) (omega arith)) (first-none (suc i) n (λ k a b. fail k (omega arith) (omega arith)))

  pub first_passes : (i n : ℕ) → (first p 0 (from i n) ≡ 0 → ⊥) → p (first p 0 (from i n)) ≡ true
  unfolding first from
  first_passes i zero found = absurd (found refl)
  first_passes i (suc n) found = by_bool (p i) (λ e. rw (e, e)) (λ e. rw e (first_passes (suc i) n (rw e at found)))

  -- the lowest of 1 to n: given where it passes and none below it does
  pub lowest-is : (n h : ℕ) → 1 ≤ h → h ≤ n → p h ≡ true → ((k : ℕ) → 1 ≤ k → k < h → p k ≡ false) → lowest p n ≡ h
  unfolding lowest
  lowest-is n h low high pass fail = first-is 1 n h low (omega arith) pass fail

  -- 0 where none passes
  pub lowest-none : (n : ℕ) → ((k : ℕ) → 1 ≤ k → k ≤ n → p k ≡ false) → lowest p n ≡ 0
  unfolding lowest
  lowest-none n fail = first-none 1 n (λ k a b. fail k a (omega arith))

  -- what is found passes
  pub lowest-passes : (n : ℕ) → (lowest p n ≡ 0 → ⊥) → p (lowest p n) ≡ true
  unfolding lowest
  lowest-passes n found = first_passes 1 n found

-- the first of n numbers from i on that passes a test, or 0 where none does
pub data Least (p : ℕ → Bool) (i n : ℕ) : ℕ → Type 0 where
  missing : ((k : ℕ) → i ≤ k → k < i + n → p k ≡ false) → Least p i n 0
  found : {h : ℕ} → i ≤ h → h < i + n → p h ≡ true → ((k : ℕ) → i ≤ k → k < h → p k ≡ false) → Least p i n h

module _ (p : ℕ → Bool) where
  -- a number that fails in front of them
  least_step : (i n : ℕ) {h : ℕ} → p i ≡ false → Least p (suc i) n h → Least p i (suc n) h
  least_step i n e (missing f) = missing (λ k a b. ⊎_elim (λ q. subst (λ x. p x ≡ false) q e) (λ l. f k l (omega arith)) (eq-or-lt_of_le a))
  least_step i n e (found {h} a b t f) =
      found {h = h} (omega arith) (omega arith) t (λ k c d. ⊎_elim (λ q. subst (λ x. p x ≡ false) q e) (λ l. f k l d) (eq-or-lt_of_le c))

  -- what `first` finds among them is the first
  pub least : (i n : ℕ) → Least p i n (first p 0 (from i n))
  unfolding first from
  least i zero = missing (λ k a b. absurd (omega arith))
  least i (suc n) =
      by_bool (p i) (λ e. rw e (found {h = i} (omega arith) (omega arith) e (λ k a b. absurd (omega arith)))) (λ e. rw e (least_step i n e (least (suc i) n)))

-- By classes, the last index first: from index to index of a class, and from class to class.
use Prim.Native.Nat.{ℕ, zero, suc, ◌+◌, ◌≤◌, ◌<◌}
use mathlib.Core.Path.{◌≡◌, refl, sym, ap, ◌∙◌}
use mathlib.Core.Logic.{⊎_elim}
use mathlib.Core.Bool.{Bool, true, false, cond, ◌&&◌, ◌||◌}
use mathlib.Core.List.{List}
use native.Mathlib.Omega.{arith}
use native.Mathlib.Nat.{eq-or-lt_of_le}
use lib.Dec.{ltb, leb, eqb}
use lib.ListN.{length, get_or, set, replicate, length-replicate, get_or-replicate, get_or-eq_default}
use lib.Seq.{get_or-set_same, get_or-set_other}
use borrow.Author.Tests.{ltb-true, ltb-false, lt-ltb, le-ltb, leb-true, leb-false, le-leb, lt-leb, eqb-true, eqb-false, eq-eqb}
use Rattle.rules.specs.Lists.{Pairwise, empty, ahead}
use Rattle.rules.specs.Judging.{class_by, is_before}
use Rattle.rules.specs.Closing as C
use Rattle.rules.proofs.BoolLaws.{by_bool}
use Rattle.rules.proofs.ListLaws.{all-at}
use Rattle.session.specs.Image.{verdict_as, no_verdict}
use Rattle.session.specs.declared.Verdict.{Verdict}
use Rattle.close_judge.specs.Classes.{has_passed, ReachedBy}

and-false : (x : Bool) → (x && false) ≡ false
and-false true = refl
and-false false = refl

-- Numbers that rise

module _ {A : Type 0} (number : A → ℕ) (d : A) where
  -- a later index has a higher number
  numbers-rise : {ls : List A} → Pairwise (λ k l. number k < number l) ls → (i j : ℕ) → i < j → j < length ls → number (get_or ls i d) < number (get_or ls j d)
  numbers-rise empty i j h k = absurd (omega arith)
  numbers-rise (ahead a t) i zero h k = absurd (omega arith)
  numbers-rise (ahead a t) zero (suc j) h k = all-at j d a (omega arith)
  numbers-rise (ahead a t) (suc i) (suc j) h k = numbers-rise t i j (omega arith) (omega arith)

  -- no index up to another has a higher number
  numbers-up-to : {ls : List A} → Pairwise (λ k l. number k < number l) ls → (i j : ℕ) → j ≤ i → i < length ls → number (get_or ls j d) ≤ number (get_or ls i d)
  numbers-up-to {ls} n i j h k = ⊎_elim (λ e. omega (arith, ap (λ x. number (get_or ls x d)) e)) (λ m. omega (arith, numbers-rise n j i m k)) (eq-or-lt_of_le h)

  -- after an index stand those of later numbers
  later-indices : {ls : List A} → Pairwise (λ k l. number k < number l) ls → (i j : ℕ) → i < length ls → j < length ls → leb (i + 1) j ≡ ltb (number (get_or ls i d)) (number (get_or ls j d))
  later-indices n i j h k =
      by_bool (leb (i + 1) j) (λ e. e ∙ sym (lt-ltb _ _ (numbers-rise n i j (omega (arith, leb-true (i + 1) j e)) k)))
      (λ e. e ∙ sym (le-ltb _ _ (numbers-up-to n i j (omega (arith, leb-false (i + 1) j e)) h)))

  -- what is passed before an index of a class is what is taken before the one there
  pub passed-before : (classes : List (A → Bool)) (at : ℕ → ℕ) {ls : List A} → ((j : ℕ) → at j ≡ class_by classes (get_or ls j d)) → Pairwise (λ k l. number k < number l) ls
      → (class i j : ℕ) → i < length ls → j < length ls → at i ≡ class → has_passed at class (i + 1) j ≡ is_before classes number (get_or ls j d) (get_or ls i d)
  unfolding has_passed is_before
  passed-before classes at f n class i j h k e = rw (← e, f i, f j, later-indices n i j h k)

-- the verdict of index j when a closing stands at index i of a class, none yet where it is not passed
unfoldable pub verdict_so_far : (ℕ → ℕ) → (ℕ → C.Verdict) → ℕ → ℕ → ℕ → Verdict
verdict_so_far classes given class i j = cond (has_passed classes class i j) (verdict_as (given j)) no_verdict

module _ (classes : ℕ → ℕ) (given : ℕ → C.Verdict) where
  -- Verdicts so far

  pub so_far : (class i : ℕ) (vs : List Verdict) → ReachedBy classes given class i vs → (j : ℕ) → get_or vs j no_verdict ≡ verdict_so_far classes given class i j
  unfolding verdict_so_far
  so_far class i vs r j = by_bool (has_passed classes class i j) (λ t. rw t (r.passed j t)) (λ t. rw t (r.waiting j t))

  reached-so-far : (class i : ℕ) (vs : List Verdict) → ((j : ℕ) → get_or vs j no_verdict ≡ verdict_so_far classes given class i j) → ReachedBy classes given class i vs
  unfolding verdict_so_far
  reached-so-far class i vs f = record { passed = λ j t. f j ∙ rw t; waiting = λ j t. f j ∙ rw t }

  blank : (t : Bool) (v : C.Verdict) → v ≡ C.hidden → cond t (verdict_as v) no_verdict ≡ no_verdict
  unfolding verdict_as
  blank true v e = rw e
  blank false v e = refl

  -- what is hidden has none at any time
  so-far-hidden : (class i j : ℕ) → given j ≡ C.hidden → verdict_so_far classes given class i j ≡ no_verdict
  unfolding verdict_so_far
  so-far-hidden class i j e = blank (has_passed classes class i j) (given j) e

  so-far-same : (class i class' i' j : ℕ) → has_passed classes class i j ≡ has_passed classes class' i' j → verdict_so_far classes given class i j ≡ verdict_so_far classes given class' i' j
  unfolding verdict_so_far
  so-far-same class i class' i' j e = rw e

  -- another index is passed as before
  so-far-other : (class i j : ℕ) → (j ≡ i → ⊥) → verdict_so_far classes given class (i + 1) j ≡ verdict_so_far classes given class i j
  unfolding has_passed
  so-far-other class i j d = so-far-same class (i + 1) class i j (ap (λ x. ltb (classes j) class || (eqb (classes j) class && x)) same)
    where
      same : leb (i + 1) j ≡ leb i j
      same = by_bool (leb (i + 1) j) (λ e. e ∙ sym (le-leb i j (omega (arith, leb-true (i + 1) j e)))) (λ e. e ∙ sym (lt-leb i j (⊎_elim (λ q. absurd (d q)) (λ m. m) (eq-or-lt_of_le (let f : j ≤ i = omega (arith, leb-false (i + 1) j e) in f)))))

  -- From index to index

  -- an index that is not taken: of another class, or hidden
  skipped : (class i : ℕ) → (eqb (classes i) class ≡ true → given i ≡ C.hidden) → verdict_so_far classes given class (i + 1) i ≡ verdict_so_far classes given class i i
  unfolding has_passed
  skipped class i f =
      by_bool (eqb (classes i) class) (λ t. so-far-hidden class (i + 1) i (f t) ∙ sym (so-far-hidden class i i (f t)))
      (λ t. so-far-same class (i + 1) class i i (rw t))

  pub by-past : (class i : ℕ) (vs : List Verdict) → (eqb (classes i) class ≡ true → given i ≡ C.hidden) → ReachedBy classes given class (i + 1) vs → ReachedBy classes given class i vs
  by-past class i vs f r =
      reached-so-far class i vs
      (λ j. so_far class (i + 1) vs r j ∙ by_bool (eqb j i) (λ t. let q = eqb-true j i t in rw q (skipped class i f)) (λ t. so-far-other class i j (eqb-false j i t)))

  -- an index that is taken has its verdict
  taken-now : (class i : ℕ) → classes i ≡ class → verdict_so_far classes given class i i ≡ verdict_as (given i)
  unfolding verdict_so_far has_passed
  taken-now class i e = rw (eq-eqb (classes i) class e, le-leb i i (omega arith)) (by_bool (ltb (classes i) class) (λ t. rw t) (λ t. rw t))

  pub by-taken : (class i : ℕ) (vs : List Verdict) (v : Verdict) → i < length vs → classes i ≡ class → v ≡ verdict_as (given i)
      → ReachedBy classes given class (i + 1) vs → ReachedBy classes given class i (set vs i v)
  by-taken class i vs v h e q r =
      reached-so-far class i (set vs i v)
      (λ j. by_bool (eqb j i)
      (λ t. let p = eqb-true j i t in rw (p, get_or-set_same vs i v no_verdict h) (q ∙ sym (taken-now class i e)))
      (λ t. get_or-set_other vs i j v no_verdict (eqb-false j i t) ∙ so_far class (i + 1) vs r j ∙ so-far-other class i j (eqb-false j i t)))

  -- and none before
  pub by-not-yet : (class i : ℕ) (vs : List Verdict) → ReachedBy classes given class (i + 1) vs → classes i ≡ class → get_or vs i no_verdict ≡ no_verdict
  unfolding has_passed
  by-not-yet class i vs r e = r.waiting i (rw (le-ltb (classes i) class (omega arith), lt-leb (i + 1) i (omega arith)) (and-false (eqb (classes i) class)))

  -- From class to class

  module _ (n : ℕ) (beyond : (j : ℕ) → n ≤ j → given j ≡ C.hidden) where
    -- nothing is passed at the start
    first-passed : (j : ℕ) → j < n → has_passed classes 0 n j ≡ false
    unfolding has_passed
    first-passed j h = rw (le-ltb (classes j) 0 (omega arith), lt-leb n j h) (and-false (eqb (classes j) 0))

    not-passed : (j : ℕ) → has_passed classes 0 n j ≡ false → verdict_so_far classes given 0 n j ≡ no_verdict
    unfolding verdict_so_far
    not-passed j e = rw e

    pub by_first : ReachedBy classes given 0 n (replicate 128 no_verdict)
    by_first = reached-so-far 0 n (replicate 128 no_verdict) (λ j. blanks j ∙ sym (none_yet j))
      where
        blanks : (j : ℕ) → get_or (replicate 128 no_verdict) j no_verdict ≡ no_verdict
        blanks j = by_bool (ltb j 128) (λ t. get_or-replicate 128 j no_verdict no_verdict (ltb-true j 128 t))
            (λ t. get_or-eq_default (replicate 128 no_verdict) no_verdict {n = j} (omega (arith, ltb-false j 128 t, length-replicate 128 no_verdict)))

        none_yet : (j : ℕ) → verdict_so_far classes given 0 n j ≡ no_verdict
        none_yet j = by_bool (ltb j n) (λ t. not-passed j (first-passed j (ltb-true _ _ t))) (λ t. so-far-hidden 0 n j (beyond j (ltb-false _ _ t)))

    -- one class's end is the start of the next
    class-ends : (class j : ℕ) → j < n → has_passed classes class 0 j ≡ has_passed classes (class + 1) n j
    unfolding has_passed
    class-ends class j h =
        rw (le-leb 0 j (omega arith), lt-leb n j h)
        (by_bool (ltb (classes j) class) (λ e. rw (e, lt-ltb (classes j) (class + 1) (omega (arith, ltb-true (classes j) class e))))
        (λ e. by_bool (eqb (classes j) class) (λ q. rw (e, q, lt-ltb (classes j) (class + 1) (omega (arith, eqb-true (classes j) class q))))
        (λ q. rw (e, q, le-ltb (classes j) (class + 1) (above (ltb-false (classes j) class e) (eqb-false (classes j) class q))) (sym (and-false (eqb (classes j) (class + 1)))))))
      where
        above : class ≤ classes j → (classes j ≡ class → ⊥) → class + 1 ≤ classes j
        above a d = ⊎_elim (λ e. absurd (d (sym e))) (λ m. omega arith) (eq-or-lt_of_le a)

    pub by_next : (class next : ℕ) (vs : List Verdict) → next ≡ class + 1 → ReachedBy classes given class 0 vs → ReachedBy classes given next n vs
    by_next class next vs e r = rw e (reached-so-far (class + 1) n vs (λ j. so_far class 0 vs r j ∙ on j))
      where
        on : (j : ℕ) → verdict_so_far classes given class 0 j ≡ verdict_so_far classes given (class + 1) n j
        on j = by_bool (ltb j n) (λ t. so-far-same class 0 (class + 1) n j (class-ends class j (ltb-true _ _ t)))
            (λ t. let q = beyond j (ltb-false _ _ t) in so-far-hidden class 0 j q ∙ sym (so-far-hidden (class + 1) n j q))

  -- all are passed after the last
  all-passed : (class j : ℕ) → classes j ≤ class → has_passed classes class 0 j ≡ true
  unfolding has_passed
  all-passed class j h =
      rw (le-leb 0 j (omega arith))
      (⊎_elim (λ e. rw (eq-eqb (classes j) class e) (or-true (ltb (classes j) class))) (λ l. rw (lt-ltb (classes j) class l)) (eq-or-lt_of_le h))
    where
      or-true : (t : Bool) → (t || true) ≡ true
      or-true true = refl
      or-true false = refl

  pub by_last : (class : ℕ) (vs : List Verdict) → ((j : ℕ) → classes j ≤ class) → ReachedBy classes given class 0 vs → (j : ℕ) → get_or vs j no_verdict ≡ verdict_as (given j)
  by_last class vs f r j = r.passed j (all-passed class j (f j))

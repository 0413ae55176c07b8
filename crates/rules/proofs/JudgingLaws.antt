-- Judging one after the other: each is judged with those accepted before it, and what is accepted keeps within a top.
use Prim.Native.Nat.{ℕ, ◌+◌, ◌≤◌, ◌<◌}
use mathlib.Core.Path.{◌≡◌, refl, ap, sym, ◌∙◌}
use mathlib.Core.Bool.{Bool, true, false, cond, ◌&&◌, and_comm, and_assoc}
use mathlib.Core.List.{List, [], ◌∷◌}
use native.Mathlib.Omega.{arith}
use lib.Dec.{ltb}
use borrow.Author.Tests.{ltb-true, ltb-false, eq-eqb, ne_eqb}
use Rattle.rules.specs.Lists.{All, none, more, Pairwise, empty, ahead, keep, sum, sum_of}
use Rattle.rules.specs.Judging.{Verdict, hidden, is_accepted, is_before, Judged, judge_each, verdict_among}
use Rattle.rules.proofs.BoolLaws.{by_bool}
use Rattle.rules.proofs.ListLaws.{all_map, keep_same, keep-keep}
use Rattle.rules.proofs.ElementLaws.{all_both, all-every, pairwise-weaken}
use Rattle.rules.proofs.SumLaws.{sum_where, sum-keep, sum-cond}
use Rattle.rules.proofs.OrderLaws.{order_of, all-ordered, all-unordered, ordered-distinct, hidden-apart, sum-ordered, order-taken, ahead_of, all-ahead, ahead-taken}

-- One after the other

module _ {A : Type 0} (number : A → ℕ) (judge : List A → A → Verdict) where
  -- of those accepted among the judged the ones that pass a test
  abbrev accepted_in : List Judged → (A → Bool) → A → Bool
  accepted_in js p k = is_accepted (verdict_among js (number k)) && p k

  -- how one was judged: with some before it, whose sums are those of the ones accepted
  pub record Taken (start ls : List A) (l : A) : Type 0 where
    pub before : List A
    pub verdict : verdict_among (judge_each number judge start ls) (number l) ≡ judge before l
    pub sums : (f : A → ℕ) (p : A → Bool)
        → sum_where f p before ≡ sum_where f p start + sum_where f (accepted_in (judge_each number judge start ls) p) (ahead_of number (number l) ls)

  module _ (start : List A) (x : A) (xs : List A) where
    -- those accepted after the first is judged
    abbrev next : List A
    next = cond (is_accepted (judge start x)) (x ∷ start) start

    -- the first one's verdict
    verdict-first : verdict_among (judge_each number judge start (x ∷ xs)) (number x) ≡ judge start x
    unfolding judge_each verdict_among
    verdict-first = rw (eq-eqb (number x) (number x) refl)

    -- another one's is that among the others
    verdict-other : (n : ℕ) → (number x ≡ n → ⊥) → verdict_among (judge_each number judge start (x ∷ xs)) n ≡ verdict_among (judge_each number judge next xs) n
    unfolding judge_each verdict_among
    verdict-other n d = rw (ne_eqb (number x) n d)

    -- so those accepted are the same
    accepted-other : (p : A → Bool) {ls : List A} → All (λ l. number x ≡ number l → ⊥) ls
        → keep (accepted_in (judge_each number judge start (x ∷ xs)) p) ls ≡ keep (accepted_in (judge_each number judge next xs) p) ls
    accepted-other p d = keep_same _ _ (all_map (λ l e. ap (λ v. is_accepted v && p l) (verdict-other (number l) e)) d)

    -- and with the first
    accepted-sum : (f : A → ℕ) (p : A → Bool) {ls : List A} → All (λ l. number x ≡ number l → ⊥) ls
        → sum_where f p start + sum_where f (accepted_in (judge_each number judge start (x ∷ xs)) p) (x ∷ ls)
        ≡ sum_where f p next + sum_where f (accepted_in (judge_each number judge next xs) p) ls
    accepted-sum f p {ls} d =
        omega (
          arith,
          rw (verdict-first, accepted-other p d) at (sum-keep f (accepted_in (judge_each number judge start (x ∷ xs)) p) x ls),
          sum-cond f p (is_accepted (judge start x)) x start,
          and-cond (is_accepted (judge start x)) (p x) (f x),
        )
      where
        and-cond : (a b : Bool) (n : ℕ) → cond (a && b) n 0 ≡ cond a (cond b n 0) 0
        and-cond true b n = refl
        and-cond false b n = refl

    -- the first is ahead of every later one
    ahead_step : (n : ℕ) → (number x ≡ n → ⊥) → ahead_of number n (x ∷ xs) ≡ x ∷ ahead_of number n xs
    unfolding ahead_of
    ahead_step n d = rw (ne_eqb (number x) n d)

    -- the first is judged with those there at the start
    first_taken : Taken start (x ∷ xs) x
    unfolding ahead_of keep sum_of sum
    first_taken = record { before = start; verdict = verdict-first; sums = λ f p. rw (eq-eqb (number x) (number x) refl) (omega arith) }

    -- another with the first too, if it was accepted
    later-taken : (l : A) → (number x ≡ number l → ⊥) → All (λ l. number x ≡ number l → ⊥) xs → Taken next xs l → Taken start (x ∷ xs) l
    later-taken l n d k =
        record {
          before = k.before;
          verdict = verdict-other (number l) n ∙ k.verdict;
          sums = λ f p. k.sums f p ∙ sym (accepted-sum f p (all-ahead number (number l) d))
              ∙ ap (λ (ls : List A). sum_where f p start + sum_where f (accepted_in (judge_each number judge start (x ∷ xs)) p) ls) (sym (ahead_step (number l) n));
        }

  -- each is judged with those accepted before it
  taken : (start : List A) {ls : List A} → Pairwise (λ k l. number k ≡ number l → ⊥) ls → All (Taken start ls) ls
  taken start empty = none
  taken start (ahead {x} {xs} d t) = more (first_taken start x xs) (all_both (λ l n k. later-taken start x xs l n d k) d (taken (next start x xs) t))

  -- one that is not taken is hidden
  not_taken : (n : ℕ) (start : List A) {ls : List A} → All (λ l. number l ≡ n → ⊥) ls → verdict_among (judge_each number judge start ls) n ≡ hidden
  unfolding judge_each verdict_among
  not_taken n start none = refl
  not_taken n start (more {x} {xs} h t) = rw (ne_eqb (number x) n h) (not_taken n (next start x xs) t)

  module _ (f : A → ℕ) (p : A → Bool) (there top : ℕ) where
    -- where it is accepted with an amount above 0, this together with what is there and what was accepted before keeps within a top
    abbrev pub Fits : A → Type 0
    Fits x = (before : List A) → is_accepted (judge before x) ≡ true → p x ≡ true → 0 < f x → f x + (there + sum_where f p before) ≤ top

    next-within : (start : List A) (x : A) (xs : List A) → Fits x → there + sum_where f p start ≤ top → there + sum_where f p (next start x xs) ≤ top
    next-within start x xs fits k =
        rw (sum-cond f p (is_accepted (judge start x)) x start)
        (by_bool (is_accepted (judge start x)) (λ a. rw a (by_bool (p x)
        (λ e. rw e (by_bool (ltb 0 (f x)) (λ h. omega (arith, fits start a e (ltb-true _ _ h))) (λ h. omega (arith, ltb-false 0 (f x) h))))
        (λ e. rw e (omega arith)))) (λ a. rw a (omega arith)))

    -- so do all that are accepted
    all-within : (start : List A) {ls : List A} → Pairwise (λ k l. number k ≡ number l → ⊥) ls → All Fits ls → there + sum_where f p start ≤ top
        → there + (sum_where f p start + sum_where f (accepted_in (judge_each number judge start ls) p) ls) ≤ top
    unfolding sum_of sum keep
    all-within start empty none k = omega arith
    all-within start (ahead {x} {xs} d t) (more fits a) k =
        rw (accepted-sum start x xs f p d) (all-within (next start x xs) t a (next-within start x xs fits k))

-- In the order of the turns, those that are shown, latest number first

module _ {A : Type 0} (number : A → ℕ) (judge : List A → A → Verdict) (turns : List (A → Bool)) (shown : A → Bool) (ls : List A) (numbered : Pairwise (λ k l. number k < number l) ls) where
  abbrev pub judged_all : List Judged
  judged_all = judge_each number judge [] (order_of number turns shown ls)

  -- those accepted
  abbrev pub accepted_all : List A
  accepted_all = keep (λ l. is_accepted (verdict_among judged_all (number l))) ls

  -- one that was taken, judged with some that sum to those accepted before it
  pub record Placed (l : A) : Type 0 where
    pub before : List A
    pub verdict : verdict_among judged_all (number l) ≡ judge before l
    pub sums : (f : A → ℕ) (p : A → Bool) → sum_where f p before ≡ sum_where f (λ k. p k && is_before turns number k l) accepted_all

  distinct : Pairwise (λ k l. number k ≡ number l → ⊥) ls
  distinct = pairwise-weaken (λ k l h e. omega arith) numbered

  -- one that is not shown is hidden
  pub hidden-verdicts : All (λ l. shown l ≡ false → verdict_among judged_all (number l) ≡ hidden) ls
  hidden-verdicts = all_map (λ l f e. not_taken number judge (number l) [] (f e)) (hidden-apart number turns shown ls distinct)

  -- so none of them is accepted
  hidden-out : (p : A → Bool) → All (λ l. shown l ≡ false → accepted_in number judge judged_all p l ≡ false) ls
  unfolding is_accepted
  hidden-out p = all_map (λ l f e. ap (λ v. is_accepted v && p l) (f e)) hidden-verdicts

  -- the sum of those accepted that pass a test is that of those in the order
  accepted-sums : (f : A → ℕ) (p : A → Bool) → sum_where f p accepted_all ≡ sum_where f (accepted_in number judge judged_all p) (order_of number turns shown ls)
  accepted-sums f p =
      ap (sum_of f) (keep-keep (λ l. is_accepted (verdict_among judged_all (number l))) p ls)
      ∙ sym (sum-ordered number turns shown f (accepted_in number judge judged_all p) (hidden-out p))

  -- of those before it in the order they are those accepted before it
  before-sum : (f : A → ℕ) (p : A → Bool) (l : A) → keep (λ k. is_before turns number k l) (order_of number turns shown ls) ≡ ahead_of number (number l) (order_of number turns shown ls)
      → sum_where f (accepted_in number judge judged_all p) (ahead_of number (number l) (order_of number turns shown ls)) ≡ sum_where f (λ k. p k && is_before turns number k l) accepted_all
  before-sum f p l e =
      ap (λ (ks : List A). sum_where f (accepted_in number judge judged_all p) ks) (sym e)
      ∙ ap (sum_of f) (keep-keep (λ k. is_before turns number k l) (accepted_in number judge judged_all p) (order_of number turns shown ls)
      ∙ keep_same _ _ (all-every (λ k. turned (is_accepted (verdict_among judged_all (number k))) (p k) (is_before turns number k l)) (order_of number turns shown ls)))
      ∙ sym (accepted-sums f (λ k. p k && is_before turns number k l))
    where
      turned : (x y z : Bool) → (z && (x && y)) ≡ (x && (y && z))
      turned x y z = and_comm z (x && y) ∙ and_assoc x y z

  placed : (l : A) → Taken number judge [] (order_of number turns shown ls) l
      → keep (λ k. is_before turns number k l) (order_of number turns shown ls) ≡ ahead_of number (number l) (order_of number turns shown ls) → Placed l
  unfolding keep sum_of sum
  placed l t e = record { before = t.before; verdict = t.verdict; sums = λ f p. omega (arith, t.sums f p, before-sum f p l e) }

  -- each that is shown is judged with those accepted before it
  pub all_placed : All (λ l. shown l ≡ true → Placed l) ls
  all_placed =
      let d = ordered-distinct number turns shown distinct in
      all-unordered number turns shown ls (all_both placed (taken number judge [] d) (ahead-taken number turns (order-taken number turns shown numbered) d))

  -- what is accepted keeps within a top, together with what is there
  pub within-top : (f : A → ℕ) (p : A → Bool) (there top : ℕ) → All (Fits number judge f p there top) ls → there ≤ top → there + sum_where f p accepted_all ≤ top
  unfolding keep sum_of sum
  within-top f p there top fits low =
      let start : there + sum_where f p [] ≤ top = omega arith in
      omega (arith, accepted-sums f p, all-within number judge f p there top [] (ordered-distinct number turns shown distinct) (all-ordered number turns shown fits) start)

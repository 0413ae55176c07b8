-- How a closing goes on: from index to index of a class, and from class to class.
use Prim.Native.Nat.{ℕ, zero, suc, ◌+◌, ◌-◌, ◌≤◌, ◌<◌}
use mathlib.Core.Path.{◌≡◌, refl, sym, ◌∙◌}
use mathlib.Core.Bool.{true, false, not}
use mathlib.Core.List.{List, [], ◌∷◌, ◌++◌, map}
use native.Mathlib.Omega.{arith}
use lib.Dec.{eqb}
use lib.ListN
use lib.ListN.{length, get_or, set, replicate, length-map, length-append, length-replicate, get_or-eq_default}
use lib.Seq.{ext_get_or}
use borrow.Author.Tests.{eqb-true, not-false}
use Rattle.rules.specs.Lodging as L
use Rattle.rules.specs.Book.{Book}
use Rattle.rules.specs.Judging.{class_by}
use Rattle.rules.specs.Closing as C
use Rattle.rules.specs.Sound as R
use Rattle.rules.specs.Demands.{class_of, taken_before, verdict_of}
use Rattle.rules.proofs.BoolLaws.{by_bool, both}
use Rattle.rules.proofs.ListLaws.{all-at}
use Rattle.rules.proofs.ClosingLaws.{class-is, closing-exactly}
use Rattle.session.specs.Laid.{pad}
use Rattle.session.specs.Image.{verdict_as, no_verdict}
use Rattle.session.specs.declared.Verdict.{Verdict}
use Rattle.session.proofs.IndexLaws.{get_or-map}
use Rattle.close_judge.specs.Classes.{beyond, standing_at, verdict_at, class_at, is_taken, has_passed, Reached}
use Rattle.close_judge.proofs.IndexLaws.{passed-before, by-past, by-taken, by_first, by_next, by_last}

-- blanks after a list change none of its elements
get_or-blank : {A : Type 0} (d : A) (xs : List A) (n i : ℕ) → get_or (xs ++ replicate n d) i d ≡ get_or xs i d
get_or-blank d [] zero i = refl
get_or-blank d [] (suc n) zero = refl
get_or-blank d [] (suc n) (suc i) = get_or-blank d [] n i
get_or-blank d (x ∷ xs) n zero = refl
get_or-blank d (x ∷ xs) n (suc i) = get_or-blank d xs n i

length-pad : {A : Type 0} (n : ℕ) (d : A) (xs : List A) → length xs ≤ n → length (pad n d xs) ≡ n
unfolding pad
length-pad n d xs h = simp (length-append, length-replicate) (omega arith)

-- the class of an index
class-at : (b : Book) (j : ℕ) → class_at b j ≡ class_by C.closing_classes (standing_at b j)
unfolding class_at class_of
class-at b j = refl

-- no class comes after the third
class-last : (l : L.Lodgement) → class_of l ≤ 2
class-last l = rw (class-is l) (by_bool l.key.execution (λ e. rw e (by_bool l.key.default (λ d. rw d (omega arith)) (λ d. rw d (omega arith)))) (λ e. rw e (omega arith)))

module _ (b : Book) where
  -- "normal executions, default executions, offers; within each, latest number first": what is passed before an index of a class
  pub closing-before : R.Numbered b.standing → (class i j : ℕ) → i < length b.standing → j < length b.standing → class_at b i ≡ class
      → has_passed (class_at b) class (i + 1) j ≡ taken_before (standing_at b j) (standing_at b i)
  unfolding taken_before
  closing-before n class i j h k e = passed-before (λ (l : L.Lodgement). l.number) beyond C.closing_classes (class_at b) (class-at b) n class i j h k e

  -- Verdicts by index

  pub verdict-at : (j : ℕ) → j < length b.standing → verdict_at b j ≡ verdict_of b (standing_at b j)
  unfolding C.verdicts verdict_of
  verdict-at j h = get_or-map (verdict_of b) beyond C.hidden b.standing j h

  verdict-beyond : (j : ℕ) → length b.standing ≤ j → verdict_at b j ≡ C.hidden
  unfolding C.verdicts
  verdict-beyond j h = get_or-eq_default (map (λ l. C.verdict_among (C.judgements b) l.number) b.standing) C.hidden {n = j} (omega (arith, length-map b.standing (λ l. C.verdict_among (C.judgements b) l.number)))

  -- a hidden index
  verdict-hidden : R.Numbered b.standing → (j : ℕ) → j < length b.standing → L.is_hidden b.standing (standing_at b j) ≡ true → verdict_at b j ≡ C.hidden
  verdict-hidden n j h e = verdict-at j h ∙ (all-at j beyond (closing-exactly b n) h).hiding.1 e

  -- How a closing goes on

  pub reached-past : R.Numbered b.standing → (class i : ℕ) (vs : List Verdict) → i < length b.standing → is_taken b class i ≡ false
      → Reached b class (i + 1) vs → Reached b class i vs
  unfolding is_taken class_at
  reached-past n class i vs h e r = by-past (class_at b) (verdict_at b) class i vs (λ t. verdict-hidden n i h (not-false _ (rw t at e))) r

  -- an index that is taken is of the class
  pub taken-class : (class i : ℕ) → is_taken b class i ≡ true → class_at b i ≡ class
  unfolding is_taken class_at
  taken-class class i e = eqb-true _ _ (both (eqb (class_of (standing_at b i)) class) (not (L.is_hidden b.standing (standing_at b i))) e).0

  pub reached-taken : (class i : ℕ) (vs : List Verdict) (v : Verdict) → i < length vs → is_taken b class i ≡ true → v ≡ verdict_as (verdict_at b i)
      → Reached b class (i + 1) vs → Reached b class i (set vs i v)
  reached-taken class i vs v h e q r = by-taken (class_at b) (verdict_at b) class i vs v h (taken-class class i e) q r

  pub reached-first : Reached b 0 (length b.standing) (replicate 128 no_verdict)
  reached-first = by_first (class_at b) (verdict_at b) (length b.standing) verdict-beyond

  pub reached-next : (class next : ℕ) (vs : List Verdict) → next ≡ class + 1 → Reached b class 0 vs → Reached b next (length b.standing) vs
  reached-next class next vs e r = by_next (class_at b) (verdict_at b) (length b.standing) verdict-beyond class next vs e r

  verdict-count : length (C.verdicts b) ≡ length b.standing
  unfolding C.verdicts
  verdict-count = length-map b.standing (λ l. C.verdict_among (C.judgements b) l.number)

  last-class : (j : ℕ) → class_at b j ≤ 2
  unfolding class_at
  last-class j = class-last (standing_at b j)

  -- in the array
  verdict-laid : (j : ℕ) → get_or (pad 128 no_verdict (map verdict_as (C.verdicts b))) j no_verdict ≡ verdict_as (verdict_at b j)
  unfolding pad verdict_as
  verdict-laid j = get_or-blank no_verdict (map verdict_as (C.verdicts b)) (128 - length (map verdict_as (C.verdicts b))) j ∙ ListN.get_or-map verdict_as (C.verdicts b) j C.hidden

  -- "closing gives each standing one its verdict"
  pub reached-end : (vs : List Verdict) → length vs ≡ 128 → length b.standing ≤ 128 → Reached b 2 0 vs → vs ≡ pad 128 no_verdict (map verdict_as (C.verdicts b))
  reached-end vs h k r =
      ext_get_or no_verdict vs (pad 128 no_verdict (map verdict_as (C.verdicts b))) (h ∙ sym (length-pad 128 no_verdict (map verdict_as (C.verdicts b)) (omega (arith, length-map (C.verdicts b) verdict_as, verdict-count))))
      (λ j m. by_last (class_at b) (verdict_at b) 2 vs (λ i. last-class i) r j ∙ sym (verdict-laid j))

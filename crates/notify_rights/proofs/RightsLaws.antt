-- Rights notices: each way out.
use Prim.Native.Nat.{ℕ, zero, suc, ◌+◌}
use mathlib.Core.Path.{◌≡◌, refl, sym, ap, ap₂, ◌∙◌}
use mathlib.Core.Bool.{Bool, true, false, cond, beq, false≢true}
use mathlib.Core.List.{List, [], ◌∷◌, ◌++◌, map}
use mathlib.Core.Option.{some}
use native.Mathlib.Omega.{arith}
use lib.ListN.{take, drop, length, set, length-map}
use borrow.Author.Tests.{lt-ltb, le-ltb, not-false}
use Rattle.rules.specs.Lists.{Pairwise, empty, ahead, any}
use Rattle.rules.specs.Units as U
use Rattle.rules.specs.Book as B
use Rattle.rules.specs.DayBook as D
use Rattle.rules.proofs.BoolLaws.{by_bool, of-not}
use Rattle.rules.proofs.ListLaws.{any_false}
use Rattle.rules.proofs.ElementLaws.{pairwise-with}
use Rattle.session.specs.Laid.{pad, counted}
use Rattle.session.specs.Image.{image, Sound, verdicts_in, hours_in, unit_of, notice_of, rights_of, notice_as, no_notice}
use Rattle.session_changes.specs.Changes.{with_rights, rights_with}
use Rattle.session_changes.specs.Effects.{done}
use Rattle.answer.specs.Told.{told, is_refusal, accepted}
use Rattle.session.specs.Parts.{index_of, Entered}
use Rattle.register.proofs.RegisterLaws.{french-beside}
use Rattle.notify_unavailability.specs.Notices.{stored_as}
use Rattle.notify_unavailability.proofs.NoticeLaws.{IsNotice, stored-as, others, set-index, count-fits}
use Rattle.notify_rights.specs.Rights.{rights_in, french_unit, next_index}
use Rattle.notify_rights.specs.declared.Rights.{Rights}
use Rattle.session.specs.declared.Session.{Session}
use Rattle.session.specs.declared.Unit.{Unit}
use Rattle.session.specs.declared.Notice.{Notice}
use Rattle.std.specs.Prelude.{Some, None, is_none}
use Rattle.std.specs.declared.option.Option.{Option}
use Rattle.std.specs.List.{position}
use Rattle.session.proofs.IndexLaws.{Once, indexed, unindexed, position-as, position-none, found-at, position-map}
use Rattle.session.proofs.ImageLaws.{units-as}
use Rattle.session.proofs.StepLaws.{open_row}
use Rattle.session.proofs.SoundLaws.{open-stage}

-- Two that pass a test

-- at most two pass
data Twice {A : Type 0} (p : A → Bool) : List A → Type 0 where
  twice0 : Twice p []
  twice : {x : A} {xs : List A} → (p x ≡ true → Once p xs) → Twice p xs → Twice p (x ∷ xs)

-- the index of the second that passes, or of the first where it is the only one
unfoldable second_of : {A : Type 0} → (A → Bool) → List A → ℕ
second_of p [] = 0
second_of p (x ∷ xs) = cond (p x) (cond (any p xs) (suc (index_of p xs)) 0) (suc (second_of p xs))

-- where at most two pass, to change each that passes is to change those at the two indices
module _ {A B : Type 0} (p : A → Bool) (f : A → B) (h : A → A) (z : B) (same : (x : A) → p x ≡ false → f x ≡ f (h x)) (put : (x : A) → p x ≡ true → z ≡ f (h x)) where
  set-two : {xs : List A} → Twice p xs → any p xs ≡ true → (rest : List B) → set (set (map f xs ++ rest) (index_of p xs) z) (second_of p xs) z ≡ map f (map h xs) ++ rest
  unfolding index_of second_of any
  set-two twice0 k rest = absurd (false≢true k)
  set-two (twice {x} {xs} o t) k rest =
      by_bool (p x)
      (λ e. by_bool (any p xs)
      (λ m. rw (e, m) (ap₂ (λ (y : B) (l : List B). y ∷ l) (put x e) (set-index p f h z same put (o e) (indexed p xs m) rest)))
      (λ m. rw (e, m) (ap₂ (λ (y : B) (l : List B). y ∷ (l ++ rest)) (put x e) (others p f h z same put (any_false p xs m)))))
      (λ e. rw e (ap₂ (λ (y : B) (l : List B). y ∷ l) (same x e) (set-two t (rw e at k) rest)))

-- what a search after an index finds, or that index
abbrev found_after : ℕ → Option ℕ → ℕ
found_after at = elim [
  | Some next ↦ at + 1 + next
  | None ↦ at
]

one_on : (i r : ℕ) (o : Option ℕ) → found_after i o ≡ r → found_after (suc i) o ≡ suc r
one_on i r None h = ap suc h
one_on i r (Some n) h = omega (arith, h)

module _ {A : Type 0} (p : A → Bool) where
  one-found : (xs : List A) → any p xs ≡ true → found_after 0 (position p xs) ≡ suc (index_of p xs)
  one-found xs m =
      ap (found_after 0) (position-as p xs ∙ ap (λ t. cond t (Some (index_of p xs)) None) (lt-ltb (index_of p xs) (length xs) (indexed p xs m)))
      ∙ (omega arith)

  none-found : (xs : List A) → any p xs ≡ false → found_after 0 (position p xs) ≡ 0
  none-found xs m =
      ap (found_after 0) (position-as p xs ∙ ap (λ t. cond t (Some (index_of p xs)) None) (le-ltb (index_of p xs) (length xs) (omega (arith, unindexed p xs m))))

  next-on : (x : A) (xs : List A) (i r : ℕ) → next_index p xs i ≡ r → next_index p (x ∷ xs) (suc i) ≡ suc r
  next-on x xs i r h =
      let e : suc i + 1 ≡ suc (i + 1) = omega arith in
      ap (λ n. found_after (suc i) (position p (drop n (x ∷ xs)))) e ∙ one_on i r (position p (drop (i + 1) xs)) h

  -- a search after the first finds the second
  second-found : (xs : List A) → any p xs ≡ true → next_index p xs (index_of p xs) ≡ second_of p xs
  unfolding index_of second_of any
  second-found [] h = absurd (false≢true h)
  second-found (x ∷ xs) h =
      by_bool (p x) (λ e. by_bool (any p xs) (λ m. rw (e, m) (one-found xs m)) (λ m. rw (e, m) (none-found xs m)))
      (λ e. rw e (next-on x xs (index_of p xs) (second_of p xs) (second-found xs (rw e at h))))

-- French units of one agent and side

no-three : (a b c : Bool) → beq a b ≡ false → beq a c ≡ false → beq b c ≡ false → ⊥
no-three true true c h k l = false≢true (sym h)
no-three true false true h k l = false≢true (sym k)
no-three true false false h k l = false≢true (sym l)
no-three false true true h k l = false≢true (sym l)
no-three false true false h k l = false≢true (sym k)
no-three false false c h k l = false≢true (sym h)

drop-map : {A B : Type 0} (f : A → B) (k : ℕ) (xs : List A) → drop k (map f xs) ≡ map f (drop k xs)
drop-map f zero xs = refl
drop-map f (suc k) [] = refl
drop-map f (suc k) (x ∷ xs) = drop-map f k xs

module _ (agent : ℕ) (purchase : Bool) where
  abbrev french_at : U.Registered → Bool
  french_at r = U.french_of agent purchase r.unit

  -- are at most two: one is marked, one is not
  french-twice : {us : List U.Registered} → Pairwise (λ r s. U.is_second_to r.unit s.unit ≡ false) us → Twice french_at us
  french-twice empty = twice0
  french-twice (ahead {x} a t) =
      twice (λ e. pairwise-with (λ y z k l m f. of-not (french_at z) (λ g. no-three x.unit.rights y.unit.rights z.unit.rights
      (sym (french-beside agent purchase x.unit y.unit e f) ∙ k) (sym (french-beside agent purchase x.unit z.unit e g) ∙ l) (sym (french-beside agent purchase y.unit z.unit f g) ∙ m))) a t)
      (french-twice t)

  -- a search of the array is a search of the list
  found-as : (s : Session) (b : B.Book) → s ≡ image b → position (french_unit agent purchase) (take s.enrolled s.units) ≡ position french_at b.units
  found-as s b e = rw (units-as s b e) (position-map unit_of (french_unit agent purchase) b.units)

  next-as : (s : Session) (b : B.Book) → s ≡ image b → (at : ℕ) → next_index (french_unit agent purchase) (take s.enrolled s.units) at ≡ next_index french_at b.units at
  next-as s b e at =
      ap (found_after at)
      (rw (units-as s b e, drop-map unit_of (at + 1) b.units) (position-map unit_of (french_unit agent purchase) (drop (at + 1) b.units)))

  module _ (es : List ℕ) where
    -- a grant changes rights alone
    same_units : (rs : List U.Registered) → map unit_of (map (D.grant agent purchase es) rs) ≡ map unit_of rs
    unfolding D.grant
    same_units [] = refl
    same_units (r ∷ rs) = ap (λ (t : List Unit). unit_of r ∷ t) (same_units rs)

    same-notices : (rs : List U.Registered) → map notice_of (map (D.grant agent purchase es) rs) ≡ map notice_of rs
    unfolding D.grant
    same-notices [] = refl
    same-notices (r ∷ rs) = ap (λ (t : List Notice). notice_of r ∷ t) (same-notices rs)

    -- those at two indices
    granted : {rs : List U.Registered} → Twice french_at rs → any french_at rs ≡ true
        → set (set (pad 64 no_notice (map rights_of rs)) (index_of french_at rs) (notice_as (some es))) (second_of french_at rs) (notice_as (some es)) ≡ pad 64 no_notice (map rights_of (map (D.grant agent purchase es) rs))
    unfolding pad D.grant
    granted {rs} o k =
        rw (length-map (map (D.grant agent purchase es) rs) rights_of, length-map rs (D.grant agent purchase es), length-map rs rights_of)
        (set-two french_at rights_of (D.grant agent purchase es) (notice_as (some es)) (λ r e. rw e) (λ r e. rw e) o k _)

    -- a rights notice in the book is one in its image
    rights-image : (b : B.Book) → Sound b → b.closed ≡ false → (p q : ℕ) → index_of french_at b.units ≡ p → second_of french_at b.units ≡ q → any french_at b.units ≡ true
        → with_rights (image b) (set (set (image b).rights p (notice_as (some es))) q (notice_as (some es))) ≡ image (D.applied b (D.rights agent purchase es))
    unfolding image verdicts_in hours_in D.applied D.with_units B.hours
    rights-image b sound k p q at also h =
        rw (← at, ← also, same_units b.units, same-notices b.units, granted (french-twice sound.ranges.units.single) h, length-map b.units (D.grant agent purchase es), k, open-stage b sound k)

-- Judging

pub rights-notice : (n : Rights) → IsNotice (rights_in n) n.count n.agent n.energies (λ b. D.no_french b n.agent n.purchase)
unfolding D.rows_of D.gate_row D.call_rows
rights-notice n = record { rows = λ b. refl }

-- the agent has no French unit there where none is found
pub no-french-as : (s : Session) (agent : ℕ) (purchase : Bool) (o : Option ℕ) → o ≡ position (french_unit agent purchase) (take s.enrolled s.units)
    → (b : B.Book) → s ≡ image b → D.no_french b agent purchase ≡ is_none o
unfolding D.no_french
no-french-as s agent purchase o q b e =
    sym (position-none (french_at agent purchase) b.units) ∙ ap is_none (sym (q ∙ found-as agent purchase s b e))

-- Entering

-- rights at the indices that were found
pub rights-entered : (s : Session) (n : Rights) (at : ℕ) → position (french_unit n.agent n.purchase) (take s.enrolled s.units) ≡ Some at
    → Entered s (rights_in n) (done rights_with s (record {
      change = record { at = at; also = next_index (french_unit n.agent n.purchase) (take s.enrolled s.units) at; rights = stored_as (take n.count n.energies) };
      answer = accepted;
    }))
unfolding told is_refusal D.reply D.rows_of D.gate_row D.call_rows
rights-entered s n at h = record {
  book = λ b sound o e.
      let p = french_at n.agent n.purchase in
      let es = counted n.count n.energies in
      let k = stored-as n.count n.energies (count-fits b (rights-notice n) o) in
      let found = sym (found-as n.agent n.purchase s b e) ∙ h in
      let some_one : any p b.units ≡ true = not-false _ (sym (position-none p b.units) ∙ ap is_none found) in
      let i = (found-at p b.units at found).1 in
      let second : second_of p b.units ≡ next_index p b.units at = sym (second-found p b.units some_one) ∙ ap (next_index p b.units) i in
      record {
        answer = refl;
        session = rw (k, next-as n.agent n.purchase s b e at, e) (rights-image n.agent n.purchase es b sound (open_row b _ o) at _ i second some_one);
      };
  fine = refl;
}

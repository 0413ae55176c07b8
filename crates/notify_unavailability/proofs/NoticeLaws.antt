-- Unavailability notices: each way out.
use Prim.Native.Nat.{ℕ, ◌≤◌, ◌<◌, min}
use mathlib.Core.Path.{◌≡◌, refl, sym, ap, ap₂, ◌∙◌}
use mathlib.Core.Bool.{Bool, true, false, not, ◌||◌}
use mathlib.Core.List.{List, [], ◌∷◌, ◌++◌, map}
use mathlib.Core.Option.{some, none as nothing}
use native.Mathlib.Omega.{arith}
use lib.Dec.{eqb}
use lib.ListN.{take, drop, replicate, length, set, get_or, length-map, length-take}
use lib.Seq.{take_all}
use borrow.Author.Tests.{eqb-true, ne_eqb, not-false}
use Rattle.rules.specs.Lists.{All, none, more, Pairwise, empty, ahead}
use Rattle.rules.specs.Refusals.{row, first_row}
use Rattle.rules.specs.Units as U
use Rattle.rules.specs.Book as B
use Rattle.rules.specs.DayBook as D
use Rattle.rules.proofs.BoolLaws.{by_bool}
use Rattle.rules.proofs.ListLaws.{all_map, all_head, all_tail, any-list}
use Rattle.rules.proofs.ElementLaws.{pairwise-weaken}
use Rattle.rules.proofs.RefusalLaws.{accepted-rows}
use Rattle.rules.proofs.HoursLaws.{hours-most}
use Rattle.session.specs.Laid.{pad, counted}
use Rattle.session.specs.Image.{image, Sound, verdicts_in, hours_in, unit_of, notice_of, rights_of, notice_as, no_notice, no_unit}
use Rattle.session_changes.specs.Changes.{with_notices, notice_with}
use Rattle.session_changes.specs.Effects.{done}
use Rattle.answer.specs.Told.{told, is_refusal, accepted}
use Rattle.session.specs.Parts.{number_is, index_of, held, JudgesRow, given_by, Entered}
use Rattle.notify_unavailability.specs.Notices.{over_limit, stored_as, available_in}
use Rattle.notify_unavailability.specs.declared.Availability.{Availability}
use Rattle.session.specs.declared.Session.{Session}
use Rattle.session.specs.declared.Unit.{Unit}
use Rattle.session.specs.declared.Notice.{Notice}
use Rattle.session.specs.declared.Holder.{Holder}
use Rattle.std.specs.declared.option.Option.{Option}
use Rattle.std.specs.declared.option.Option.TheVariants.{Some, None}
use Rattle.std.specs.Prelude.{is_none}
use Rattle.std.specs.declared.result.Result.TheVariants.{Err}
use Rattle.std.specs.Option.{ok_or, option_map}
use Rattle.std.specs.List.{position, list_any}
use Rattle.std.proofs.lemmas.Option.{none-some, same_Some}
use Rattle.std.proofs.lemmas.List.{drop-replicate}
use Rattle.std.proofs.lemmas.List.Quantifiers.{position-Some}
use Rattle.rules.specs.declared.row.Row as R
use Rattle.rules.specs.declared.row.Row.TheVariants.{Gate, Hour, Range}
use Rattle.session.proofs.LaidLaws.{length-counted, any-counted, pad-counted, front-end}
use Rattle.session.proofs.IndexLaws.{Once}
use Rattle.session.proofs.ImageLaws.{closed-as, hours-as, enrolled-as, index-as, holder-none, holder-registered, holder-at, holder-inside}
use Rattle.session.proofs.StepLaws.{open_row}
use Rattle.session.proofs.SoundLaws.{open-stage}

-- the energies that a count and an array stand for

pub bad-counted : (n : ℕ) (es : List ℕ) → U.bad_energies (counted n es) ≡ list_any over_limit (take n es)
unfolding U.bad_energies
bad-counted n es = any-counted over_limit n es refl ∙ any-list over_limit (take n es)

-- the energies stored are those of the book
pub stored-as : (n : ℕ) (es : List ℕ) → n ≤ 25 → stored_as (take n es) ≡ notice_as (some (counted n es))
unfolding notice_as
stored-as n es h = rw (pad-counted 25 n es h, take_all 25 (take n es) (omega (arith, length-take n es, h)))

-- blanks after the first n
padded : (m n : ℕ) (es : List ℕ) → n ≤ length es → take n es ++ drop n (replicate m 0) ≡ pad m 0 (take n es)
unfolding pad
padded m n es h = let e : length (take n es) ≡ n = omega (arith, length-take n es, h) in rw (drop-replicate {X = ℕ} n m 0, e)

pub stored-pad : (n : ℕ) (es : List ℕ) → n ≡ min (length es) 25 → take n es ++ drop n (replicate 25 0) ≡ pad 25 0 (take 25 es)
stored-pad n es h = front-end 25 0 es _ n 25 (padded 25 n es (omega (arith, h))) (omega (arith, h)) (omega (arith, h))

-- Judging

-- A call that is a notice of energies: its rows are by its count, by its number and its energies, and by whether whom it is for is missing.
pub record IsNotice (call : D.Call) (count number : ℕ) (es : List ℕ) (missing : B.Book → Bool) : Type 0 where
  pub rows : (b : B.Book) → D.rows_of b call
      ≡ D.change_row b ∷ row 4 (not (eqb (length (counted count es)) (B.hours b))) ∷ row 5 (U.bad_number number || U.bad_energies (counted count es)) ∷ row 6 (missing b) ∷ []

abbrev bad_notice : ℕ → ℕ → List ℕ → Bool
bad_notice number count es = U.bad_number number || list_any over_limit (take count es)

-- the judgement of one is the table's
module _ (A : Type 0) (s : Session) {call : D.Call} {count number : ℕ} {es : List ℕ} {missing : B.Book → Bool} (n : IsNotice call count number es missing) where
  pub notice-2 : s.closed ≡ true → JudgesRow {A = A} s call (Err Gate)
  unfolding D.change_row row first_row given_by
  notice-2 h b e = rw (n.rows b, closed-as s b e, h)

  pub notice-4 : s.closed ≡ false → eqb count s.hours ≡ false → JudgesRow {A = A} s call (Err Hour)
  unfolding D.change_row row first_row given_by
  notice-4 h k b e = rw (n.rows b, length-counted count es, hours-as s b e, k, closed-as s b e, h)

  pub notice-5 : s.closed ≡ false → eqb count s.hours ≡ true → bad_notice number count es ≡ true → JudgesRow {A = A} s call (Err Range)
  unfolding D.change_row row first_row given_by
  notice-5 h k r b e = rw (n.rows b, length-counted count es, hours-as s b e, k, bad-counted count es, r, closed-as s b e, h)

  -- whom it is for is found, or refused
  pub notice-found : s.closed ≡ false → eqb count s.hours ≡ true → bad_notice number count es ≡ false → (o : Option A) → ((b : B.Book) → s ≡ image b → missing b ≡ is_none o)
      → JudgesRow s call (ok_or o R.TheVariants.Unit)
  unfolding D.change_row row first_row given_by
  notice-found h k r None m b e = rw (n.rows b, length-counted count es, hours-as s b e, k, bad-counted count es, r, m b e, closed-as s b e, h)
  notice-found h k r (Some x) m b e = rw (n.rows b, length-counted count es, hours-as s b e, k, bad-counted count es, r, m b e, closed-as s b e, h)

pub available-notice : (a : Availability) → IsNotice (available_in a) a.count a.unit a.energies (λ b. D.unregistered b a.unit)
unfolding D.rows_of D.gate_row D.call_rows
available-notice a = record { rows = λ b. refl }

-- its unit is missing where none is found
pub unregistered-as : (s : Session) (n : ℕ) (o : Option Holder) → o ≡ held (take s.enrolled s.units) n → (b : B.Book) → s ≡ image b → D.unregistered b n ≡ is_none o
unfolding D.unregistered
unregistered-as s n None q b e = ap not (holder-none s b e n (sym q))
unregistered-as s n (Some x) q b e = ap not (holder-registered s b e n x (sym q))

-- Entering

-- at most one element passes: to change each that passes is to change the one at its index
module _ {A B : Type 0} (p : A → Bool) (f : A → B) (h : A → A) (z : B) (same : (x : A) → p x ≡ false → f x ≡ f (h x)) (put : (x : A) → p x ≡ true → z ≡ f (h x)) where
  pub others : {xs : List A} → All (λ x. p x ≡ false) xs → map f xs ≡ map f (map h xs)
  others none = refl
  others (more {x} k t) = ap₂ (λ (y : B) (l : List B). y ∷ l) (same x k) (others t)

  pub set-index : {xs : List A} → Once p xs → index_of p xs < length xs → (rest : List B) → set (map f xs ++ rest) (index_of p xs) z ≡ map f (map h xs) ++ rest
  unfolding index_of
  set-index empty k rest = absurd (omega arith)
  set-index (ahead {x} {xs} a o) k rest =
      by_bool (p x) (λ e. rw e (ap₂ (λ (y : B) (l : List B). y ∷ (l ++ rest)) (put x e) (others (all_map (λ y g. g e) a))))
      (λ e. let m = rw e at k in rw e (ap₂ (λ (y : B) (l : List B). y ∷ l) (same x e) (set-index o (omega arith) rest)))

module _ (n : ℕ) (es : List ℕ) where
  same_units : (rs : List U.Registered) → map unit_of (map (D.notify n es) rs) ≡ map unit_of rs
  unfolding D.notify
  same_units [] = refl
  same_units (r ∷ rs) = ap (λ (t : List Unit). unit_of r ∷ t) (same_units rs)

  same-rights : (rs : List U.Registered) → map rights_of (map (D.notify n es) rs) ≡ map rights_of rs
  unfolding D.notify
  same-rights [] = refl
  same-rights (r ∷ rs) = ap (λ (t : List Notice). rights_of r ∷ t) (same-rights rs)

  -- no number is registered twice
  pub once-numbered : {rs : List U.Registered} → Pairwise (λ r s. r.unit.number ≡ s.unit.number → ⊥) rs → Once (U.has_number n) rs
  unfolding U.has_number
  once-numbered h = pairwise-weaken (λ r s k e. ne_eqb s.unit.number n (λ q. k (eqb-true r.unit.number n e ∙ sym q))) h

  noticed : {rs : List U.Registered} → Once (U.has_number n) rs → index_of (U.has_number n) rs < length rs
      → set (pad 64 no_notice (map notice_of rs)) (index_of (U.has_number n) rs) (notice_as (some es)) ≡ pad 64 no_notice (map notice_of (map (D.notify n es) rs))
  unfolding pad D.notify
  noticed {rs} o k =
      rw (length-map (map (D.notify n es) rs) notice_of, length-map rs (D.notify n es), length-map rs notice_of)
      (set-index (U.has_number n) notice_of (D.notify n es) (notice_as (some es)) (λ r e. rw e) (λ r e. rw e) o k _)

  -- a notice in the book is a notice in its image
  available-image : (b : B.Book) → Sound b → b.closed ≡ false → (p : ℕ) → index_of (U.has_number n) b.units ≡ p → p < length b.units
      → with_notices (image b) (set (image b).notices p (notice_as (some es))) ≡ image (D.applied b (D.available n es))
  unfolding image verdicts_in hours_in D.applied D.with_units B.hours
  available-image b sound k p at h =
      rw (← at, same_units b.units, same-rights b.units, noticed (once-numbered sound.ranges.units.distinct) (rw (← at) at h), length-map b.units (D.notify n es), k, open-stage b sound k)

-- a count that no row refuses is the day's
pub count-fits : (b : B.Book) {call : D.Call} {count number : ℕ} {es : List ℕ} {missing : B.Book → Bool} → IsNotice call count number es missing
    → first_row (D.rows_of b call) ≡ nothing → count ≤ 25
unfolding row B.hours
count-fits b {call} {count} {number} {es} n o =
    let k = not-false (eqb (length (counted count es)) (B.hours b)) (all_head (all_tail (accepted-rows _ (rw (n.rows b) at o)))) in
    omega (arith, eqb-true (length (counted count es)) (B.hours b) k, length-counted count es, hours-most b.date)

-- the index of a unit found is one of those it was looked for among
module _ (us : List Unit) (n : ℕ) (x : Holder) where
  abbrev holder_at : ℕ → Holder
  holder_at at = record { at = at; unit = get_or us at no_unit }

  inside : (o : Option ℕ) → position (number_is n) us ≡ o → option_map holder_at o ≡ Some x → x.at < length us
  inside None q h = absurd (none-some x h)
  inside (Some at) q h =
      let e : at ≡ x.at = ap (λ (y : Holder). y.at) (same_Some _ _ h) in
      rw (← e) (position-Some (number_is n) us at no_unit q).0

  pub held-inside : held us n ≡ Some x → x.at < length us
  held-inside h = inside (position (number_is n) us) refl h

-- a notice at the index of the unit found
pub available-entered : (s : Session) (a : Availability) (x : Holder) → held (take s.enrolled s.units) a.unit ≡ Some x
    → Entered s (available_in a) (done notice_with s (record { change = record { at = x.at; notice = stored_as (take a.count a.energies) }; answer = accepted }))
unfolding told is_refusal D.reply D.rows_of D.gate_row D.call_rows
available-entered s a x h = record {
  book = λ b sound o e.
      let n = a.unit in
      let es = counted a.count a.energies in
      let k = stored-as a.count a.energies (count-fits b (available-notice a) o) in
      let early = open_row b _ o in
      let m = enrolled-as s b e in
      let at = holder-at s b e n x h in
      let inside = holder-inside s b e n x h in
      record {
        answer = refl;
        session = rw (k, e) (available-image n es b sound early x.at (index-as s b e n ∙ sym at) (omega arith));
      };
  fine = refl;
}

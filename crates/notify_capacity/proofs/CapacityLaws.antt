-- Capacity notices: each way out.
use Prim.Native.Nat.{ℕ, ◌≤◌}
use mathlib.Core.Path.{◌≡◌, refl, ap, ap₂, ◌∙◌}
use mathlib.Core.Bool.{Bool, true, false, cond}
use mathlib.Core.List.{List, [], ◌∷◌, map}
use mathlib.Core.Option.{some, none}
use native.Mathlib.Omega.{arith}
use lib.ListN.{length, take}
use borrow.Author.Tests.{eqb-true, not-false}
use Rattle.rules.specs.Lists.{any}
use Rattle.rules.specs.Refusals.{row, first_row}
use Rattle.rules.specs.Units as U
use Rattle.rules.specs.Book as B
use Rattle.rules.specs.DayBook as D
use Rattle.rules.proofs.BoolLaws.{neither}
use Rattle.rules.proofs.ListLaws.{all_head, all_tail, any-list}
use Rattle.rules.proofs.RefusalLaws.{accepted-rows}
use Rattle.rules.proofs.HoursLaws.{hours-most}
use Rattle.session.specs.Laid.{counted}
use Rattle.session.specs.Image.{image, verdicts_in, hours_in, published_in, capacities_in, notice_as, no_notice}
use Rattle.session_changes.specs.Effects.{done}
use Rattle.answer.specs.Told.{told, is_refusal, accepted}
use Rattle.session.specs.Parts.{JudgesRow, given_by, Entered}
use Rattle.notify_unavailability.specs.Notices.{stored_as}
use Rattle.notify_capacity.specs.Capacities.{capacity_in, direction_as, with_capacities, capacities_with, off_hours, off_range}
use Rattle.notify_capacity.specs.declared.Capacities.{Capacities}
use Rattle.std.specs.List.{list_any}
use Rattle.std.specs.declared.result.Result.{Result}
use Rattle.std.specs.declared.result.Result.TheVariants.{Ok, Err}
use Rattle.rules.specs.declared.row.Row as Code
use Rattle.rules.specs.declared.row.Row.TheVariants.{Gate, Hour, Range}
use Rattle.session.specs.declared.Session.{Session}
use Rattle.session.specs.declared.Notice.{Notice}
use Rattle.session.specs.declared.Published.{Published}
use Rattle.session.proofs.LaidLaws.{length-counted, any-map}
use Rattle.session.proofs.ImageLaws.{closed-as, hours-as}
use Rattle.session.proofs.StepLaws.{open_row}
use Rattle.session.proofs.SoundLaws.{open-stage}
use Rattle.notify_unavailability.proofs.NoticeLaws.{stored-as}

-- Judging

module _ (s : Session) (a : Capacities) where
  abbrev ps : List Published
  ps = a.directions

  -- the judgement is the table's
  abbrev ByTable : Result (Unit {0}) Code.Row → Type 0
  ByTable j = JudgesRow s (capacity_in a) j

  off-hours-as : (b : B.Book) → s ≡ image b → any (U.not_of_hours (B.hours b)) (capacities_in ps) ≡ list_any (off_hours s.hours) ps
  off-hours-as b e =
      ap (λ H. any (U.not_of_hours H) (capacities_in ps)) (hours-as s b e) ∙ any-map published_in (U.not_of_hours s.hours) ps ∙ any-list (off_hours s.hours) ps

  off-range-as : any U.bad_published (capacities_in ps) ≡ list_any off_range ps
  off-range-as = any-map published_in U.bad_published ps ∙ any-list off_range ps

  pub capacity-2 : s.closed ≡ true → ByTable (Err Gate)
  unfolding D.rows_of D.gate_row D.call_rows D.change_row row first_row given_by
  capacity-2 h b e = rw (closed-as s b e, h)

  pub capacity-4 : s.closed ≡ false → list_any (off_hours s.hours) ps ≡ true → ByTable (Err Hour)
  unfolding D.rows_of D.gate_row D.call_rows D.change_row row first_row given_by
  capacity-4 h k b e = rw (off-hours-as b e, k, closed-as s b e, h)

  pub capacity-5 : s.closed ≡ false → list_any (off_hours s.hours) ps ≡ false → list_any off_range ps ≡ true → ByTable (Err Range)
  unfolding D.rows_of D.gate_row D.call_rows D.change_row row first_row given_by
  capacity-5 h k r b e = rw (off-hours-as b e, k, off-range-as, r, closed-as s b e, h)

  pub capacity-0 : s.closed ≡ false → list_any (off_hours s.hours) ps ≡ false → list_any off_range ps ≡ false → ByTable (Ok tt)
  unfolding D.rows_of D.gate_row D.call_rows D.change_row row first_row given_by
  capacity-0 h k r b e = rw (off-hours-as b e, k, off-range-as, r, closed-as s b e, h)

-- Entering

module _ (H : ℕ) (most : H ≤ 25) where
  stored-direction : (t : Bool) (n : ℕ) (es : List ℕ) → U.not_of_hours H (cond t (some (counted n es)) none) ≡ false
      → cond t (stored_as (take n es)) no_notice ≡ notice_as (cond t (some (counted n es)) none)
  unfolding U.not_of_hours notice_as
  stored-direction true n es h =
      stored-as n es (omega (arith, most, eqb-true (length (counted n es)) H (not-false _ h), length-counted n es))
  stored-direction false n es h = refl

  -- directions that are absent or of H hours are stored as the book has them
  directions-as : (ps : List Published) → any (U.not_of_hours H) (capacities_in ps) ≡ false → map direction_as ps ≡ map notice_as (capacities_in ps)
  unfolding any published_in direction_as
  directions-as [] h = refl
  directions-as (p ∷ ps) h =
      let k = neither _ _ h in
      ap₂ (λ (y : Notice) (l : List Notice). y ∷ l) (stored-direction p.published p.count p.energies k.0) (directions-as ps k.1)

capacity-image : (b : B.Book) (cs : U.Capacities) → b.closed ≡ false → b.cleared ≡ false → with_capacities (image b) (map notice_as cs) ≡ image (D.applied b (D.capacity cs))
unfolding image verdicts_in hours_in D.applied D.with_capacities B.hours
capacity-image b cs k c = rw (k, c)

of-hours : (b : B.Book) (cs : U.Capacities) → first_row (D.rows_of b (D.capacity cs)) ≡ none → any (U.not_of_hours (B.hours b)) cs ≡ false
unfolding D.rows_of D.gate_row D.call_rows row
of-hours b cs o = all_head (all_tail (accepted-rows _ o))

hours-fit : (b : B.Book) → B.hours b ≤ 25
unfolding B.hours
hours-fit b = hours-most b.date

pub capacity-entered : (s : Session) (a : Capacities)
    → Entered s (capacity_in a) (done capacities_with s (record { change = a; answer = accepted }))
unfolding told is_refusal D.reply D.rows_of D.gate_row D.call_rows
capacity-entered s a = record {
  book = λ b sound o e.
      let cs = capacities_in a.directions in
      let k = directions-as (B.hours b) (hours-fit b) a.directions (of-hours b cs o) in
      let early = open_row b _ o in
      record { answer = refl; session = rw (k, e) (capacity-image b cs early (open-stage b sound early)) };
  fine = refl;
}

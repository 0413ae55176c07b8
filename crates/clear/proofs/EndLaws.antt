-- The hours of a session that stands for a closed book, one after the other, and the call's ways out.
use Prim.Native.Nat.{ℕ, suc, ◌+◌, ◌≤◌, ◌<◌}
use mathlib.Core.Path.{◌≡◌, refl, sym, ap, ap₂, subst, ◌∙◌}
use mathlib.Core.Bool.{true, false, cond, not, false≢true}
use mathlib.Core.List.{List, [], ◌∷◌, ◌++◌, map, map-map}
use mathlib.Core.Option.{none as nothing}
use native.Mathlib.Omega.{arith}
use native.Mathlib.Numerals.{add-one}
use lib.Dec.{eqb}
use lib.ListN.{length, take, set, replicate, length-map}
use borrow.Author.Tests.{not-false}
use Rattle.rules.specs.Lists.{All, sum, sum_of, from, keep}
use Rattle.rules.specs.Refusals.{row, first_row}
use Rattle.rules.specs.Units as U
use Rattle.rules.specs.Match.{Offer}
use Rattle.rules.specs.Borders.{Execution}
use Rattle.rules.specs.Book as B
use Rattle.rules.specs.Closing as C
use Rattle.rules.specs.Clearing as R
use Rattle.rules.specs.Queries.{matched_at, executed_at}
use Rattle.rules.specs.DayBook as D
use Rattle.rules.proofs.IndexLaws.{length_from}
use Rattle.rules.proofs.BoolLaws.{by_bool, neither}
use Rattle.rules.proofs.ListLaws.{all_head}
use Rattle.rules.proofs.RefusalLaws.{accepted-rows}
use Rattle.rules.proofs.BookLaws.{frozen-judgements, frozen-figures}
use Rattle.hour.specs.declared.Hour.{Hour}
use Rattle.hour.specs.declared.Figures.{Figures}
use Rattle.hour.specs.Ready.{is_in_range, figures_in_range}
use Rattle.listed.specs.View.{listed}
use Rattle.listed.proofs.ViewLaws.{listed-back}
use Rattle.hour.specs.View.{hour_in, figures_in, figures_as, padded, no_offer, no_execution}
use Rattle.hour.proofs.RangeLaws.{range-told, range-holds}
use Rattle.session.specs.declared.Session.{Session}
use Rattle.session.specs.declared.Unit.{Unit}
use Rattle.session.specs.declared.HourFigures.{HourFigures}
use Rattle.session.specs.Laid.{pad}
use Rattle.session.specs.Image as I
use Rattle.answer.specs.Told as T
use Rattle.session_changes.specs.Changes.{with_verdicts, with_figures}
use Rattle.session.specs.Parts.{Entered}
use Rattle.session.proofs.LaidLaws.{map_last, set-pad}
use Rattle.session.proofs.ImageLaws.{hours-as, units-as}
use Rattle.clear.specs.declared.HourEnd.{HourEnd}
use Rattle.hour_offers.specs.declared.Holder.{Holder}
use Rattle.hour_offers.specs.declared.Offer.{Offer as Own}
use Rattle.hour_offers.specs.declared.Execution.{Execution as OwnExecution}
use Rattle.clear_gather.specs.Built.{Holders, Built}
use Rattle.clear_gather.proofs.CountLaws.{from_last}
use Rattle.clear_store.specs.Shown.{cleared_as}
use Rattle.clear.specs.Hours.{HourAs, HoursAs}
use Rattle.std.specs.Prelude.{Some, None, is_some, unwrap_or}
use Rattle.hour_clear.proofs.ClearLaws.{figures-read, matched-small, executed-small}
use Rattle.clear_gather.proofs.HourLaws.{hour-as}
use Rattle.clear_gather.proofs.RangeLaws.{hour-in-range}

-- One hour

-- the book's figures, laid out for its units
figures-as : (b : B.Book) (h : ℕ) → I.figures_as b h ≡ cleared_as (R.figures_at b h) (map I.unit_of b.units)
unfolding I.figures_as I.by_unit cleared_as matched_at executed_at
figures-as b h =
    ap₂ (λ ms xs. record {
      price = (R.figures_at b h).price;
      market = (cleared_as (R.figures_at b h) []).market;
      bilateral = (cleared_as (R.figures_at b h) []).bilateral;
      maxima = (cleared_as (R.figures_at b h) []).maxima;
      matched = pad 64 0 ms;
      executed = pad 64 0 xs;
    })
    (sym (map-map (λ (u : Unit). sum_of (λ (o : Offer). o.matched) (keep (λ o. eqb o.holder.unit u.number) (R.figures_at b h).offers)) I.unit_of b.units))
    (sym (map-map (λ (u : Unit). sum_of (λ (x : Execution). x.energy) (keep (λ x. eqb x.holder.unit u.number) (R.figures_at b h).executions)) I.unit_of b.units))

-- what stands behind their lists is not read
padded-same : (f : Figures) → figures_in (padded f) ≡ figures_in f
unfolding padded figures_in
padded-same f = rw (listed-back 128 no_offer (listed f.offers), listed-back 128 no_execution (listed f.executions)) refl

-- figures that clearing gives are those of an hour in its ranges
figures-given : (h : Hour) (f : Figures) → is_in_range h ≡ true → Some f ≡ figures_in_range h → f ≡ figures_as (R.clear_hour (hour_in h))
unfolding figures_in_range
figures-given h f t e = ap (λ o. unwrap_or o f) e ∙ rw t refl

figures-none : (h : Hour) (f : Figures) → is_in_range h ≡ false → Some f ≡ figures_in_range h → ⊥
unfolding figures_in_range
figures-none h f t e = false≢true (sym (ap (λ o. is_some o) e ∙ rw t refl))

pub hour-told : (s : Session) (hs : List Holder) (k : ℕ) (h : Hour) (f : Figures) (r : HourFigures) → Holders s hs → Built s hs k h → Some (padded f) ≡ figures_in_range h
    → (padded f ≡ figures_as (figures_in f) → r ≡ cleared_as (figures_in f) (take s.enrolled s.units))
    → HourAs s k (record { steps = f.steps; figures = r })
unfolding figures_in R.figures_at
hour-told s hs k h f r holders t q kept b sound closed e =
    let ranges = hour-in-range s b e sound closed hs holders k h t in
    let laid : padded f ≡ figures_as (R.clear_hour (hour_in h)) = figures-given h (padded f) (range-told h ranges) q in
    let read : figures_in f ≡ R.clear_hour (hour_in h) = sym (padded-same f) ∙ (ap figures_in laid ∙ figures-read ranges) in
    let a : figures_in f ≡ R.figures_at b (suc k) = read ∙ ap R.clear_hour (hour-as s b e closed hs holders k h t sound.directions) in
    (kept (laid ∙ ap figures_as (sym read)) ∙ (ap₂ cleared_as a (units-as s b e) ∙ sym (figures-as b (suc k))), ap (λ (x : R.Figures). x.steps) a)

-- every hour of a sound book is in its ranges
pub hour-none : (s : Session) (hs : List Holder) (k : ℕ) (h : Hour) (r : HourEnd) → Holders s hs → Built s hs k h → None ≡ figures_in_range h → HourAs s k r
unfolding figures_in_range
hour-none s hs k h r holders t q b sound closed e =
    absurd (false≢true (ap (λ o. is_some o) q ∙ rw (range-told h (hour-in-range s b e sound closed hs holders k h t)) refl))

-- energies in range, whatever hour is cleared
pub figures-small : (h : Hour) (f : Figures) → Some (padded f) ≡ figures_in_range h → All (λ (o : Own). o.matched ≤ U.max_energy) (listed f.offers) × All (λ (x : OwnExecution). x.energy ≤ U.max_energy) (listed f.executions)
unfolding padded
figures-small h f q =
    by_bool (is_in_range h)
    (λ t.
    let r = range-holds h t in
    let laid = figures-given h (padded f) t q in (
      subst (λ os. All (λ (o : Own). o.matched ≤ U.max_energy) os) (ap (λ (g : Figures). listed g.offers) (sym laid) ∙ listed-back 128 no_offer (listed f.offers)) (matched-small r),
      subst (λ xs. All (λ (x : OwnExecution). x.energy ≤ U.max_energy) xs) (ap (λ (g : Figures). listed g.executions) (sym laid) ∙ listed-back 128 no_execution (listed f.executions)) (executed-small r),
    ))
    (λ t. absurd (figures-none h (padded f) t q))

-- The loop over the hours

sum-last : (f : ℕ → ℕ) (l : List ℕ) (x : ℕ) → sum_of f (l ++ (x ∷ [])) ≡ sum_of f l + f x
unfolding sum_of sum
sum-last f [] x = omega arith
sum-last f (y ∷ l) x = ap (λ n. f y + n) (sum-last f l x) ∙ omega arith

pub hours-start : (s : Session) (x : HourFigures) → x ≡ I.no_figures → HoursAs s 0 (replicate 25 x) 0
unfolding pad from sum_of sum
hours-start s x q b sound closed e = (rw q refl, refl)

pub hours-next : (s : Session) (k : ℕ) (figures : List HourFigures) (steps x : ℕ) (r : HourEnd) → HoursAs s k figures steps → HourAs s k r → x ≡ r.steps → k < 25 → HoursAs s (k + 1) (set figures k r.figures) (steps + x)
hours-next s k figures steps x r a c q h b sound closed e =
    let g = a b sound closed e in
    let p = c b sound closed e in
    let l : from 1 (k + 1) ≡ from 1 k ++ (suc k ∷ []) = rw add-one (from_last 1 k ∙ (let o : 1 + k ≡ suc k = omega arith in rw o)) in
    let n : length (map (I.figures_as b) (from 1 k)) ≡ k = length-map (from 1 k) (I.figures_as b) ∙ length_from 1 k in (
      rw (g.0, p.0, l) (set-pad 25 I.no_figures (map (I.figures_as b) (from 1 k)) k (I.figures_as b (suc k)) (sym n) (omega arith)
          ∙ ap (pad 25 I.no_figures) (sym (map_last (I.figures_as b) (from 1 k) (suc k)))),
      rw (g.1, q, p.1, l) (sym (sum-last (λ i. (R.figures_at b i).steps) (from 1 k) (suc k))),
    )

-- The call

closed-now : (b : B.Book) → first_row (D.rows_of b D.clear) ≡ nothing → b.closed ≡ true
unfolding D.rows_of D.gate_row row
closed-now b o = not-false b.closed (neither (not b.closed) b.cleared (all_head (accepted-rows _ o))).0

module _ (b : B.Book) where
  -- clearing changes nothing of what closing froze, and so no verdict and no figure
  same-frozen : B.frozen (D.applied b D.clear) ≡ B.frozen b
  unfolding B.frozen D.applied D.with_stage
  same-frozen = refl

  same-verdicts : I.verdicts_in (D.applied b D.clear) ≡ I.verdicts_in b
  unfolding I.verdicts_in C.verdicts D.applied D.with_stage
  same-verdicts =
      ap (λ js. cond b.closed (map (λ l. C.verdict_among js l.number) b.standing) [])
      (frozen-judgements (D.applied b D.clear) b same-frozen)

  same-figures : (h : ℕ) → I.figures_as (D.applied b D.clear) h ≡ I.figures_as b h
  unfolding D.applied D.with_stage
  same-figures h =
      figures-as (D.applied b D.clear) h
      ∙ (ap (λ x. cleared_as x (map I.unit_of b.units)) (frozen-figures (D.applied b D.clear) b h same-frozen)
      ∙ sym (figures-as b h))

  all-figures : (hs : List ℕ) → map (I.figures_as b) hs ≡ map (I.figures_as (D.applied b D.clear)) hs
  all-figures [] = refl
  all-figures (h ∷ hs) = ap₂ (λ x xs. x ∷ xs) (sym (same-figures h)) (all-figures hs)

  cleared-image : (figures : List HourFigures) → figures ≡ pad 25 I.no_figures (map (I.figures_as b) (from 1 (B.hours b))) → with_figures (I.image b) true figures ≡ I.image (D.applied b D.clear)
  unfolding I.image I.hours_in D.applied D.with_stage B.hours
  cleared-image figures e =
      ap₂ (λ vs fs. with_verdicts (with_figures (I.image b) true fs) b.closed (pad 128 I.no_verdict (map I.verdict_as vs)))
      (sym same-verdicts) (e ∙ ap (pad 25 I.no_figures) (all-figures (from 1 (B.hours b))))

day-steps : (b : B.Book) (n : ℕ) → n ≡ sum_of (λ h. (R.figures_at b h).steps) (from 1 (B.hours b)) → D.steps n ≡ D.reply b D.clear
unfolding D.reply R.day_steps R.figures_at
day-steps b n e = ap D.steps e

pub clear-entered : (s : Session) (figures : List HourFigures) (steps : ℕ) → HoursAs s s.hours figures steps → Entered s D.clear (record { session = with_figures s true figures; answer = T.steps steps })
unfolding T.told T.is_refusal
clear-entered s figures steps d = record {
  book = λ b sound o e.
      let g = d b sound (closed-now b o) e in
      let n = hours-as s b e in
      record {
        answer = ap T.told (day-steps b steps (g.1 ∙ ap (λ k. sum_of (λ h. (R.figures_at b h).steps) (from 1 k)) (sym n)));
        session = ap (λ (x : Session). with_figures x true figures) e ∙ cleared-image b figures (g.0 ∙ ap (λ k. pad 25 I.no_figures (map (I.figures_as b) (from 1 k))) (sym n));
      };
  fine = refl;
}

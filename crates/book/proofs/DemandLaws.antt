-- Demand 3, proved of every list of calls on a session.
use Prim.Native.Nat.{ℕ, ◌+◌, ◌≤◌}
use mathlib.Core.Path.{◌≡◌, sym, ap, ap₂, ◌∙◌}
use mathlib.Core.Bool.{Bool, true, false, beq, false≢true}
use mathlib.Core.List.{List}
use native.Mathlib.Omega.{arith}
use lib.Dec.{eqb}
use lib.IntN.{◌+ℤ◌}
use Rattle.rules.specs.Lists.{All, Some, Each, each0, each, keep, sum_of, hourly}
use Rattle.rules.specs.Units.{Registered, ceiling, is_registered, has_number, bad_number}
use Rattle.rules.specs.Lodging.{Lodgement}
use Rattle.rules.specs.Book.{Book, hours, lines_of, ceiling_of}
use Rattle.rules.specs.Closing as C
use Rattle.rules.specs.Borders.{Directed, Execution, toward, market_balance, execution_balance}
use Rattle.rules.specs.Clearing.{figures_at}
use Rattle.rules.specs.Queries as Q
use Rattle.rules.specs.DayBook as D
use Rattle.rules.specs.Sound as R
use Rattle.rules.specs.Demands as M
use Rattle.rules.proofs.ListLaws.{all_map, all_keep}
use Rattle.rules.proofs.SumLaws.{each-le}
use Rattle.rules.proofs.ElementLaws.{all_both, some-all}
use Rattle.rules.specs.Refusals.{given}
use Rattle.rules.proofs.DemandLaws.{hour-demanded}
use Rattle.rules.proofs.DemandLaws as R3
use Rattle.rules.proofs.ClosingLaws.{closing-exactly}
use Rattle.rules.proofs.UnitLaws.{units-balanced, some-cut-units}
use Rattle.answer.specs.Told.{shown}
use Rattle.answer.specs.declared.Response.{Response}
use Rattle.book.specs.Demand3.{is_acceptance, Staged, VerdictReply, matched_of, executed_of, crossing_at, uncut_at, IsCut, Carried, Holds, Demanded}
use Rattle.book.proofs.RunLaws.{started, day-book}
use Rattle.book.proofs.StageLaws.{staged-told, closing-told}
use Rattle.book.proofs.ReplyLaws.{number_of, energy-of, acceptance-of, limit-of, hidden-of, of_hidden, told-limit, all_found, all-entries, sum_same, number-good, verdict-given, matched-given, executed-given, market-given, bilateral-given}

-- executions that are not cut in a direction: none of them is
no_cut : {border : ℕ} {export : Bool} {energy : ℕ} {xs ys : List Execution} → Each (M.Uncut border export) xs ys
    → M.SomeCut (record { border = border; export = export; energy = energy }) xs ys → ⊥
no_cut each0 x4 = elim x4 [ ]
no_cut (each u t) (M.this r l) = omega (arith, u.energy r, l)
no_cut (each u t) (M.another m) = no_cut t m

module _ (b : Book) (s : R.Sound b) (response : Q.Query → Response) (said : (q : Q.Query) → response q ≡ shown (Q.query b q)) where
  -- Closing

  judged-one : b.closed ≡ true → (l : Lodgement) → Q.is_standing b l.number ≡ true → M.Judgement b l → VerdictReply b response l
  unfolding M.verdict_of
  judged-one c l st j =
      let v = M.verdict_of b l in
      let r = response (Q.verdict l.number) in
      let e : r ≡ shown (given (Q.judged v)) = said (Q.verdict l.number) ∙ ap shown (verdict-given b l.number c st) in
      let a : is_acceptance r ≡ C.is_accepted v = acceptance-of r v e in
      record {
        exactly = λ bare. let k = j.exactly bare in ((λ f. k.0 (sym a ∙ f)), (λ w. a ∙ k.1 w));
        refused = λ bare f.
            told-limit r v e (sym a ∙ f) (λ q. absurd (false≢true (sym bare ∙ j.hiding.0 q)));
        chosen = λ n h q. j.chosen n h (limit-of r v e n h q);
        hiding = ((λ q. j.hiding.0 (hidden-of r v e q)), (λ w. of_hidden r v e (j.hiding.1 w)));
      }

  standing-all : All (λ l. Q.is_standing b l.number ≡ true) b.standing
  unfolding Q.is_standing
  standing-all = all_found (λ l. l.number) b.standing

  judged-all : b.closed ≡ true → All (VerdictReply b response) b.standing
  judged-all c = all_both (λ l st j. judged-one c l st j) standing-all (closing-exactly b s.standing.rising)

  -- Clearing, in an hour

  registered-all : All (λ r. is_registered b.units r.unit.number ≡ true) b.units
  unfolding is_registered has_number
  registered-all = all_found (λ r. r.unit.number) b.units

  fit : All (λ r. (bad_number r.unit.number ≡ false) × (is_registered b.units r.unit.number ≡ true)) b.units
  fit = all_both (λ r x y. (number-good r x, y)) s.units.ranges registered-all

  module _ (h : ℕ) (cleared : b.cleared ≡ true) (low : 1 ≤ h) (high : h ≤ hours b) where
    matched_as : All (λ r. matched_of b response h r ≡ Q.matched_at b r.unit.number h) b.units
    matched_as =
        all_map (λ r g. energy-of (response (Q.matched r.unit.number h)) (Q.matched_at b r.unit.number h)
        (said (Q.matched r.unit.number h) ∙ ap shown (matched-given b h cleared low high r.unit.number g.0 g.1))) fit

    executed-as : All (λ r. executed_of b response h r ≡ Q.executed_at b r.unit.number h) b.units
    executed-as =
        all_map (λ r g. energy-of (response (Q.executed r.unit.number h)) (Q.executed_at b r.unit.number h)
        (said (Q.executed r.unit.number h) ∙ ap shown (executed-given b h cleared low high r.unit.number g.0 g.1))) fit

    units-sum : (side : Bool) → sum_of (matched_of b response h) (keep (λ r. beq r.unit.purchase side) b.units)
        ≡ sum_of (λ r. Q.matched_at b r.unit.number h) (keep (λ r. beq r.unit.purchase side) b.units)
    units-sum side = sum_same (all_keep (λ r. beq r.unit.purchase side) matched_as)

    hour : M.Cleared b h
    hour = hour-demanded b s h low high

    both-as : All (λ r. (matched_of b response h r ≡ Q.matched_at b r.unit.number h) × (executed_of b response h r ≡ Q.executed_at b r.unit.number h)) b.units
    both-as = all_both (λ r x y. (x, y)) matched_as executed-as

    ceilings-all : All (λ r. matched_of b response h r + executed_of b response h r ≤ ceiling (lines_of b) r h) b.units
    unfolding ceiling_of
    ceilings-all =
        all_both (λ r p e. omega (arith, p.0, p.1, ap (λ (x : Registered). ceiling (lines_of b) x h) e, hour.ceilings r.unit.number))
        both-as (all-entries s.units.distinct)

    gains-none : All (λ r. executed_of b response h r ≤ M.accepted_executed b r.unit.number h) b.units
    unfolding Q.executed_at M.accepted_executed
    gains-none =
        all_map (λ r e. omega (
          arith,
          e,
          each-le (λ x. eqb x.holder.unit r.unit.number) (λ x. x.energy) (λ x. x.energy)
              (λ x y d. (ap (λ k. eqb k.unit r.unit.number) d.holder, d.energy)) hour.executions,
        )) executed-as

    module _ (border : ℕ) (export : Bool) (capacity : ℕ) where
      abbrev direction : Directed
      direction = record { border = border; export = export; energy = capacity }

      cut-units : Some (IsCut b response h border export) b.units → Some (M.UnitCut b direction h) b.units
      cut-units cut = some-all (λ r w e. record { border = w.there; purchase = w.direction; less = omega (arith, w.less, e) }) cut executed-as

      units-cut : Some (M.UnitCut b direction h) b.units → Some (IsCut b response h border export) b.units
      units-cut cut = some-all (λ r w e. record { there = w.border; direction = w.purchase; less = omega (arith, w.less, e) }) cut executed-as

    module _ (border : ℕ) (export : Bool) (capacity : ℕ) (first : 1 ≤ border) (last : border ≤ 4) where
      market-as : (response (Q.market border h)).value ≡ market_balance border (figures_at b h).offers
      market-as = number_of (response (Q.market border h)) _ (said (Q.market border h) ∙ ap shown (market-given b h cleared low high border first last))

      bilateral-as : (response (Q.bilateral border h)).value ≡ execution_balance border (figures_at b h).executions
      bilateral-as = number_of (response (Q.bilateral border h)) _ (said (Q.bilateral border h) ∙ ap shown (bilateral-given b h cleared low high border first last))

      crossing-as : crossing_at b response h border export ≡ M.crossing (direction border export capacity) (figures_at b h).offers (figures_at b h).executions
      unfolding M.crossing
      crossing-as = ap₂ (λ m x. toward export (m +ℤ x)) market-as bilateral-as

      uncut-as : uncut_at b response h border export ≡ M.crossing (direction border export capacity) (figures_at b h).offers (M.executions_at b h)
      unfolding M.crossing
      uncut-as = ap (λ m. toward export (m +ℤ execution_balance border (M.executions_at b h))) market-as

      carried : M.BorderCleared (direction border export capacity) (figures_at b h).offers (M.executions_at b h) (figures_at b h).executions → Carried b response h border export capacity
      carried k = record {
        within = rw crossing-as k.within;
        cut = (
          (λ w. rw uncut-as (k.cut.0 ((some-cut-units b s (direction border export capacity) h).1 (cut-units border export capacity w)))),
          (λ p. units-cut border export capacity ((some-cut-units b s (direction border export capacity) h).0 (k.cut.1 (rw uncut-as at p)))),
        );
        stands = λ p. crossing-as ∙ k.stands (rw uncut-as at p);
        share = k;
      }

    holds : Holds b response h
    holds = record {
      balanced = units-sum false ∙ (units-balanced b s h ∙ sym (units-sum true));
      executions = hour.executions;
      gains = gains-none;
      ceilings = ceilings-all;
      borders = λ border export es first last e. carried border export (hourly es h) first last (hour.borders border export es first last e);
      uncut = λ border export e w. no_cut (hour.uncut border export e) ((some-cut-units b s (direction border export 0) h).1 (cut-units border export 0 w));
    }

pub session-demand-3 : Demanded
session-demand-3 st b cs t rs response start ran asked =
    let a = day-book start ran in
    let end = D.after b cs in
    let figures : (q : Q.Query) → response q ≡ shown (Q.query end q) = λ q. asked q end a.sound a.session in
    let k = R3.book-demand-3 (started start).0 cs in
    let stage : Staged end cs rs = rw a.answers (staged-told end cs (D.answers b cs) k.stage) in
    record {
      answers = a.answers;
      figures = figures;
      stage = stage;
      found = λ c. k.found (closing-told cs (D.answers b cs) (rw a.answers at c));
      closing = λ c. judged-all end a.sound.ranges response figures (stage.closed.0 c);
      clearing = λ c h low high. holds end a.sound.ranges response figures h (stage.cleared.0 c) low high;
    }

-- What the energies' queries read at the units' indices is what they are to show.
use Prim.Native.Nat.{ℕ}
use mathlib.Core.Path.{◌≡◌, ap, sym, ◌∙◌}
use mathlib.Core.Bool.{true}
use mathlib.Core.List.{List, map}
use native.Mathlib.Omega.{arith}
use lib.IntN.{pos}
use lib.ListN.{get_or, length-map}
use borrow.Author.Tests.{eqb-true, lt-ltb}
use Rattle.rules.specs.Units as U
use Rattle.rules.specs.Book.{Book}
use Rattle.rules.specs.Queries.{shown, matched_at, executed_at}
use Rattle.rules.proofs.ListLaws.{first_passes}
use Rattle.session.specs.Image.{image, by_unit, figures_as}
use Rattle.session.specs.Parts.{index_of}
use Rattle.session.specs.declared.Session.{Session}
use Rattle.session.specs.declared.HourFigures.{HourFigures}
use Rattle.session.proofs.IndexLaws.{indexed, index-first, get_or-map}
use Rattle.session.proofs.ImageLaws.{registered-at, index-as}
use Rattle.answer.specs.Told.{value_told, figure}
use Rattle.query.proofs.FigureLaws.{pad-at, figures-as}
use Rattle.session.specs.Bare.{bare_figures}
use Rattle.query_unit.specs.declared.Energy.{Energy}
use Rattle.query_unit.specs.declared.Energy.TheVariants.{Matched, Executed}
use Rattle.query_unit.specs.declared.Indices.{Indices}
use Rattle.query_unit.specs.Parts.{UnitFits, energy_of, energy_query}

the_number : (us : List U.Registered) (n : ℕ) → U.is_registered us n ≡ true → (U.unit_of us n).unit.number ≡ n
unfolding U.is_registered U.unit_of U.has_number
the_number us n h = eqb-true (U.unit_of us n).unit.number n (first_passes (U.has_number n) U.nobody us h)

module _ (f : ℕ → ℕ) (us : List U.Registered) where
  abbrev of_unit : U.Registered → ℕ
  of_unit r = f r.unit.number

  pub by-unit : (n : ℕ) → U.is_registered us n ≡ true → get_or (by_unit f us) (index_of (U.has_number n) us) 0 ≡ f n
  unfolding by_unit U.is_registered U.unit_of
  by-unit n h =
      let p = indexed (U.has_number n) us h in
      pad-at 64 0 0 (map of_unit us) (index_of (U.has_number n) us) (omega (arith, length-map us of_unit))
      ∙ get_or-map of_unit U.nobody 0 us (index_of (U.has_number n) us) p
      ∙ ap of_unit (sym (index-first (U.has_number n) U.nobody us))
      ∙ ap f (the_number us n h)

module _ (s : Session) (b : Book) (e : s ≡ image b) (unit hour : ℕ) (p : Indices) (f : UnitFits s unit hour p) where
  -- an energy of a unit
  unit-figure : (g : ℕ → ℕ) → get_or (by_unit g b.units) p.unit 0 ≡ g unit
  unit-figure g =
      ap (λ i. get_or (by_unit g b.units) i 0) (f.index ∙ sym (index-as s b e unit))
      ∙ by-unit g b.units unit (registered-at s b e unit p.unit f.index ∙ lt-ltb p.unit s.enrolled f.registered)

  abbrev figures : HourFigures
  figures = get_or s.figures p.hour bare_figures

  -- what is read of it is what its query is to show
  pub energy-shown : (energy : Energy) → figure (pos (energy_of energy figures p.unit)) ≡ value_told (shown b (energy_query energy unit hour))
  unfolding value_told shown figures_as
  energy-shown Matched =
      ap (λ m. figure (pos m)) (ap (λ (y : HourFigures). get_or y.matched p.unit 0) (figures-as s b e f.hours) ∙ unit-figure (λ u. matched_at b u hour))
  energy-shown Executed =
      ap (λ m. figure (pos m)) (ap (λ (y : HourFigures). get_or y.executed p.unit 0) (figures-as s b e f.hours) ∙ unit-figure (λ u. executed_at b u hour))

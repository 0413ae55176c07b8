-- Refusals of a unit's energy: each way out.
use Prim.Native.Nat.{ℕ, ◌<◌}
use mathlib.Core.Path.{◌≡◌, refl, sym, ◌∙◌}
use mathlib.Core.Bool.{true, false}
use mathlib.Core.List.{List}
use lib.ListN.{length, get_or, take}
use borrow.Author.Tests.{ltb-true}
use Rattle.rules.specs.Refusals.{row, first_row}
use Rattle.rules.specs.Units.{bad_number}
use Rattle.rules.specs.Book.{Book}
use Rattle.rules.specs.Queries as Q
use Rattle.session.specs.Image.{image, Sound, no_unit}
use Rattle.session.specs.Parts.{number_is, index_of, held, given_by}
use Rattle.session.specs.declared.Session.{Session}
use Rattle.session.specs.declared.Unit.{Unit}
use Rattle.session.specs.declared.Holder.{Holder}
use Rattle.session.proofs.IndexLaws.{position-as}
use Rattle.session.proofs.ImageLaws.{holder-none, holder-registered}
use Rattle.std.specs.declared.option.Option.{Option}
use Rattle.std.specs.Option.{ok_or}
use Rattle.std.specs.Prelude.{IfOk, IfErr}
use Rattle.std.specs.declared.option.Option.TheVariants.{Some, None}
use Rattle.std.specs.declared.result.Result.{Result}
use Rattle.std.specs.declared.result.Result.TheVariants.{Ok, Err}
use Rattle.std.specs.List.{position}
use Rattle.std.proofs.lemmas.Option.{cond_some}
use Rattle.rules.specs.declared.row.Row as Code
use Rattle.rules.specs.declared.row.Row.TheVariants as V
use Rattle.rules.specs.declared.row.Row.TheVariants.{Range}
use Rattle.query_unit.specs.declared.Energy.{Energy}
use Rattle.query_unit.specs.declared.Energy.TheVariants.{Matched, Executed}
use Rattle.query_unit.specs.declared.Indices.{Indices}
use Rattle.query_unit.specs.Parts.{energy_query}
use Rattle.query.specs.Parts.{Judges}
use Rattle.query.proofs.RowLaws.{front, behind}
use Rattle.query.proofs.ReplyLaws.{SameRows}

module _ (s : Session) (u h : ℕ) (j : Result ℕ Code.Row) (judges : Judges s (Q.price h) j) where
  -- a judgement of a unit is the table's
  abbrev ByTable : Result Indices Code.Row → Type 0
  ByTable k = Judges s (Q.matched u h) k

  pub unit-front : (x : Code.Row) → j ≡ Err x → ByTable (Err x)
  unfolding Q.query_rows
  unit-front x d b sound e = front b h (Q.unit_rows b u) (rw d at (judges b sound e))

  module _ (at : ℕ) (clear : j ≡ Ok at) where
    unit-rows : (b : Book) → Sound b → s ≡ image b → first_row (Q.query_rows b (Q.matched u h)) ≡ first_row (Q.unit_rows b u)
    unfolding Q.query_rows
    unit-rows b sound e = behind b h (Q.unit_rows b u) (rw clear at (judges b sound e))

    pub unit-5 : bad_number u ≡ true → ByTable (Err Range)
    unfolding Q.unit_rows row first_row given_by
    unit-5 k b sound e = rw (unit-rows b sound e, k)

    module _ (k : bad_number u ≡ false) where
      pub unit-6 : position (number_is u) (take s.enrolled s.units) ≡ None → ByTable (Err V.Unit)
      unfolding Q.unit_rows row first_row given_by
      unit-6 n b sound e = let h : held (take s.enrolled s.units) u ≡ None = rw n refl in rw (unit-rows b sound e, k, holder-none s b e u h)

      pub unit-0 : (p : Indices) → position (number_is u) (take s.enrolled s.units) ≡ Some p.unit → ByTable (Ok p)
      unfolding Q.unit_rows row first_row given_by
      unit-0 p n b sound e =
          let x : Holder = record { at = p.unit; unit = get_or (take s.enrolled s.units) p.unit no_unit } in
          let h : held (take s.enrolled s.units) u ≡ Some x = rw n refl in
          rw (unit-rows b sound e, k, holder-registered s b e u x h)

-- a search as a judgement
module _ {A E : Type 0} where
  pub looked-found : (o : Option A) (e : E) → IfOk (ok_or o e) (λ x. o ≡ Some x)
  looked-found None e = tt
  looked-found (Some x) e = refl

  pub looked-missed : (o : Option A) (e : E) → IfErr (ok_or o e) (λ y. (o ≡ None) × (y ≡ e))
  looked-missed None e = (refl, refl)
  looked-missed (Some x) e = tt

-- the index that is found is the unit's
pub found-index : (us : List Unit) (u at : ℕ) → position (number_is u) us ≡ Some at → (at ≡ index_of (number_is u) us) × (at < length us)
found-index us u at h = let c = cond_some _ _ at (sym (position-as (number_is u) us) ∙ h) in (sym c.1, rw (← c.1) (ltb-true _ _ c.0))

-- both energies of a unit are refused alike
pub energy-rows : (energy : Energy) (u h : ℕ) → SameRows (Q.matched u h) (energy_query energy u h)
unfolding Q.query_rows
energy-rows Matched u h b = refl
energy-rows Executed u h b = refl

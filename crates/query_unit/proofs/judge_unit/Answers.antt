use mathlib.Core.Path.{◌≡◌, sym, ◌∙◌}
use native.Mathlib.Omega.{arith}
use lib.ListN.{take, length-take}
use Rattle.std.specs.declared.option.Option.TheVariants.{Some}
use Rattle.std.specs.List.{position}
use Rattle.std.proofs.lemmas.Result.{err_from_is_err_and, IfOk-at_ok, IfErr-at_err}
use Rattle.session.specs.Parts.{number_is}
use Rattle.query_unit.proofs.RowLaws.{unit-front, unit-5, unit-6, unit-0, looked-found, looked-missed, found-index}
use Rattle.query_unit.proofs.judge_unit.Goals as goal
use Rattle.query_unit.proofs.judge_unit.Goals.{In_ok-of}

pub returns-in_err-at-clause-judges : goal.returns-in_err-at-clause-judges
returns-in_err-at-clause-judges c =
    let p = err_from_is_err_and c.from_residual.result c.from_residual.ensures.1 in
    rw (p.1, p.2) (unit-front _ _ _ _ c.judge_hour.ensures.judges _ c.in_err-at.was)

pub returns-then-bad_number-clause-judges : goal.returns-then-bad_number-clause-judges
returns-then-bad_number-clause-judges c =
    unit-5 _ _ _ _ c.judge_hour.ensures.judges _ c.in_ok-at.was (sym c.bad_number.ensures ∙ c.if-bad_number.true)

pub returns-in_err-of-clause-judges : goal.returns-in_err-of-clause-judges
returns-in_err-of-clause-judges c =
    let p = err_from_is_err_and c.from_residual-in_err-of.result c.from_residual-in_err-of.ensures.1 in
    let q = IfErr-at_err _ (sym c.ok_or.ensures.value ∙ c.in_err-of.was) (looked-missed _ _) in
    rw (p.1, p.2, q.1)
    (unit-6 _ _ _ _ c.judge_hour.ensures.judges _ c.in_ok-at.was (sym c.bad_number.ensures ∙ c.if-bad_number.false) (sym c.index.ensures ∙ q.0))

-- the unit is found at its index
found : (c : In_ok-of) → position (number_is c.args.unit) (take c.args.s.now.enrolled c.args.s.now.units) ≡ Some c.in_ok-of.of
found c = sym c.index.ensures ∙ IfOk-at_ok _ (sym c.ok_or.ensures.value ∙ c.in_ok-of.was) (looked-found _ _)

pub returns-clause-judges : goal.returns-clause-judges
returns-clause-judges c =
    unit-0 _ _ _ _ c.judge_hour.ensures.judges _ c.in_ok-at.was (sym c.bad_number.ensures ∙ c.if-bad_number.false)
    (record { hour = c.in_ok-at.at; unit = c.in_ok-of.of }) (found c)

pub returns-clause-found : goal.returns-clause-found
returns-clause-found c =
    let p = found-index _ _ _ (found c) in
    record { hours = c.in_ok-at.ensures.found; index = p.0; registered = omega (arith, p.1, length-take c.args.s.now.enrolled c.args.s.now.units) }

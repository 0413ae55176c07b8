use mathlib.Core.Path.{sym, ◌∙◌}
use Rattle.std.proofs.lemmas.Result.{err_from_is_err_and}
use Rattle.lodge_keys.specs.Holding.{Holding, NotHolding}
use Rattle.lodge_keys.specs.Keys.{key_for}
use Rattle.lodge_judge.proofs.JudgeLaws.{fields-4, fields-5, fields-6, fields-9, fields-left, room}
use Rattle.lodge_judge.proofs.judge_fields.Goals as goal

pub returns-then-bad_hours-clause-rows : goal.returns-then-bad_hours-clause-rows
returns-then-bad_hours-clause-rows c top q = fields-4 _ _ c.args.m.now (sym c.bad_hours.ensures ∙ c.if-bad_hours.true)

pub returns-then-out_of_range-clause-rows : goal.returns-then-out_of_range-clause-rows
returns-then-out_of_range-clause-rows c top q =
    fields-5 _ _ c.args.m.now (sym c.bad_hours.ensures ∙ c.if-bad_hours.false) (sym q ∙ c.if-out_of_range.true)

pub returns-in_err-holder-clause-rows : goal.returns-in_err-holder-clause-rows
returns-in_err-holder-clause-rows c top q =
    let p = err_from_is_err_and c.from_residual.result c.from_residual.ensures.1 in
    let n : NotHolding c.args.s.now (key_for c.args.m.now) c.in_err-holder.field-0.0 = rw c.requires.1 at c.in_err-holder.ensures in
    rw (p.1, p.2) (fields-6 _ _ c.args.m.now (sym c.bad_hours.ensures ∙ c.if-bad_hours.false) (sym q ∙ c.if-out_of_range.false) _ n)

pub returns-then-is_full-clause-rows : goal.returns-then-is_full-clause-rows
returns-then-is_full-clause-rows c top q =
    let n : Holding c.args.s.now (key_for c.args.m.now) c.in_ok-holder.holder = rw c.requires.1 at c.in_ok-holder.ensures in
    fields-9 _ _ c.args.m.now (sym c.bad_hours.ensures ∙ c.if-bad_hours.false) (sym q ∙ c.if-out_of_range.false) _ n
    (rw (c.requires.2, c.requires.1) at (sym c.is_full.ensures ∙ c.if-is_full.true))

pub returns-clause-rows : goal.returns-clause-rows
returns-clause-rows c top q =
    let n : Holding c.args.s.now (key_for c.args.m.now) c.in_ok-holder.holder = rw c.requires.1 at c.in_ok-holder.ensures in
    fields-left _ _ c.args.m.now (sym c.bad_hours.ensures ∙ c.if-bad_hours.false) (sym q ∙ c.if-out_of_range.false) _ n
    (rw (c.requires.2, c.requires.1) at (sym c.is_full.ensures ∙ c.if-is_full.false))

pub returns-clause-room : goal.returns-clause-room
returns-clause-room c = room _ _ c.requires.0 (rw c.requires.2 at (sym c.is_full.ensures ∙ c.if-is_full.false))

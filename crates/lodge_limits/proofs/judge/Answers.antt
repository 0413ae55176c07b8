use Rattle.std.proofs.Common.{sym, ap, ◌∙◌}
use native.Mathlib.Omega.{arith}
use Rattle.std.proofs.lemmas.Result.{err_from_is_err_and}
use Rattle.session.specs.Parts.{said}
use Rattle.judge_limits.proofs.RowLaws.{default-judged, own-passed, own-unpassed}
use Rattle.lodge_limits.proofs.CountedLaws.{counted-in, by-default}
use Rattle.lodge_limits.proofs.judge.Goals as goal

pub sums_of-sums-requires : goal.sums_of-sums-requires
sums_of-sums-requires c = counted-in _ _ c.requires (omega arith) _ c.as_slice.ensures.value

pub returns-then-p : goal.returns-then-p
returns-then-p c =
    c.judge_by.ensures ∙ rw c.maximum_limit-alone.ensures (default-judged _ _ _ c.requires.within.hours _ _ _ _ _) ∙ by-default c.args.s.now c.args.p.now _ c.if-p.true

pub returns-in_err-judge_by : goal.returns-in_err-judge_by
returns-in_err-judge_by c =
    let e = err_from_is_err_and c.from_residual.result c.from_residual.ensures.1 in
    rw (e.1, e.2)
    (sym (own-passed _ _ _ c.requires.within.hours _ _ _ _ _ _ (rw c.own_limits-near.ensures at (sym c.judge_by-2.ensures) ∙ ap said c.in_err-judge_by.was)) ∙ by-default c.args.s.now c.args.p.now _ c.if-p.false)

pub returns : goal.returns
returns c =
    c.judge_by-3.ensures
    ∙ rw c.border_limits-far.ensures (sym (own-unpassed _ _ _ c.requires.within.hours _ _ _ _ _ c.unit_line-line.result c.unit_line-line.ensures
    (rw c.own_limits-near.ensures at (sym c.judge_by-2.ensures) ∙ ap said c.in_ok-judge_by.was)))
    ∙ by-default c.args.s.now c.args.p.now _ c.if-p.false

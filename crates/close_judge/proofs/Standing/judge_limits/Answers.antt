use Rattle.std.proofs.Common.{get_or, sym, ap, ◌∙◌}
use Rattle.std.proofs.lemmas.Result.{err_from_is_err_and}
use Rattle.session.specs.Bare.{bare_notice}
use Rattle.session.specs.Image.{no_unit}
use Rattle.session.specs.Parts.{said}
use Rattle.judge_limits.proofs.RowLaws.{own-passed, own-unpassed}
use Rattle.close_judge.proofs.Standing.judge_limits.Goals as goal

pub returns-in_err-judge_energy : goal.returns-in_err-judge_energy
returns-in_err-judge_energy c =
    let x = c.args.self.now in
    let s = x.session.now in
    let u = get_or s.units c.args.p no_unit in
    let n = get_or s.notices c.args.p bare_notice in
    let g = get_or s.rights c.args.p bare_notice in
    let p = err_from_is_err_and c.from_residual.result c.from_residual.ensures.1 in
    rw (p.1, p.2) (sym (own-passed _ _ _ x.within.hours u n g s.capacities s.losses _ (rw c.own_limits-near.ensures at (sym c.judge_energy.ensures) ∙ ap said c.in_err-judge_energy.was)))

pub returns : goal.returns
returns c =
    let x = c.args.self.now in
    let s = x.session.now in
    let u = get_or s.units c.args.p no_unit in
    let n = get_or s.notices c.args.p bare_notice in
    let g = get_or s.rights c.args.p bare_notice in
    c.judge_energy-2.ensures ∙ rw c.border_limits-far.ensures (sym (own-unpassed _ _ _ x.within.hours u n g s.capacities s.losses c.unit_line-line.result c.unit_line-line.ensures (rw c.own_limits-near.ensures at (sym c.judge_energy.ensures) ∙ ap said c.in_ok-judge_energy.was)))

use mathlib.Core.Path.{refl}
use Rattle.std.proofs.lemmas.Result.{err_from_is_err_and}
use Rattle.session.specs.Parts.{by_refusal}
use Rattle.session_changes.specs.Changes.{standing_with}
use Rattle.session_changes.proofs.StepLaws.{step-refused, step-entered}
use Rattle.lodge_limits.proofs.JudgeLaws.{judged-for}
use Rattle.lodge.proofs.LodgeLaws.{lodge-entered}
use Rattle.lodge.proofs.lodge_change.Goals as goal

pub returns-in_err-judge-clause-met : goal.returns-in_err-judge-clause-met
returns-in_err-judge-clause-met c =
    let d = c.in_ok-p.ensures in
    let p = err_from_is_err_and c.from_residual-in_err-judge.result c.from_residual-in_err-judge.ensures.1 in
    rw (p.1, p.2) (step-refused standing_with _ _ by_refusal c.judge.result _ _ (d.left _ (judged-for _ _ _ d.ready c.judge.ensures)) c.in_err-judge.was refl)

pub returns-clause-met : goal.returns-clause-met
returns-clause-met c =
    let d = c.in_ok-p.ensures in
    step-entered standing_with _ _ by_refusal c.judge.result _ c.enter.result (d.left _ (judged-for _ _ _ d.ready c.judge.ensures)) c.in_ok-judge.was (lodge-entered _ _ _ d.fields _ c.enter.ensures.entered)

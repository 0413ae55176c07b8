use mathlib.Core.Path.{refl, sym, ◌∙◌}
use Rattle.std.proofs.lemmas.Result.{err_from_is_err_and}
use Rattle.session.specs.Parts.{by_row}
use Rattle.session_changes.proofs.StepLaws.{step-unsound, step-refused, step-entered}
use Rattle.session_changes.proofs.step_of.Goals as goal

pub returns-then-not-sound-clause-met : goal.returns-then-not-sound-clause-met
returns-then-not-sound-clause-met g c = step-unsound g.C.Part.Change.applied _ _ c.from.result (sym c.sound.ensures ∙ c.if-not-sound.true)

pub returns-in_err-found-clause-met : goal.returns-in_err-found-clause-met
returns-in_err-found-clause-met g c =
    let p = err_from_is_err_and c.from_residual.result c.from_residual.ensures.1 in
    rw (p.1, p.2) (step-refused g.C.Part.Change.applied _ _ by_row _ _ _ c.judge.ensures.judges c.in_err-found.was refl)

pub returns-clause-met : goal.returns-clause-met
returns-clause-met g c = step-entered g.C.Part.Change.applied _ _ by_row _ _ c.enter.result c.judge.ensures.judges c.in_ok-found.was c.enter.ensures.entered

use Rattle.clear.proofs.EndLaws.{clear-entered}
use Rattle.clear.proofs.ClearingCall.enter.Goals as goal

pub returns-clause-entered : goal.returns-clause-entered
returns-clause-entered c = rw c.steps.ensures (clear-entered _ _ _ c.clear_hours-day.ensures)

use Rattle.notify_unavailability.proofs.NoticeLaws.{available-entered}
use Rattle.notify_unavailability.proofs.AvailabilityCall.enter.Goals as goal

pub returns-clause-entered : goal.returns-clause-entered
returns-clause-entered c = rw (c.stored_notice.ensures, c.front.ensures, c.accepted.ensures) (available-entered _ c.args.self.now _ c.requires.found)

use Rattle.notify_capacity.proofs.CapacityLaws.{capacity-entered}
use Rattle.notify_capacity.proofs.CapacitiesCall.enter.Goals as goal

pub returns-clause-entered : goal.returns-clause-entered
returns-clause-entered c = rw c.accepted.ensures (capacity-entered _ c.args.self.now)

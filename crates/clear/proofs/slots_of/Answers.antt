use Rattle.clear.proofs.SlottedLaws.{slotted}
use Rattle.clear.proofs.slots_of.Goals as goal

pub returns : goal.returns
returns c = slotted c.args.s.now _ _ c.of.ensures

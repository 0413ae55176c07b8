use Rattle.book.proofs.CallLaws.{met-as, call-2}
use Rattle.book.proofs.run_capacity.Goals as goal

pub returns : goal.returns
returns c = met-as _ _ _ _ (call-2 _ _ c.directions_of-directions.ensures) c.capacity.ensures

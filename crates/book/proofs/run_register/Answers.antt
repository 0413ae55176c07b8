use Rattle.book.proofs.CallLaws.{met-as, call-1}
use Rattle.book.proofs.run_register.Goals as goal

pub returns : goal.returns
returns c = met-as _ _ _ _ (call-1 _ _ _ c.unit_of.ensures) c.register.ensures

use Rattle.book.proofs.CallLaws.{met-as, call-10}
use Rattle.book.proofs.run_loss.Goals as goal

pub returns : goal.returns
returns c = met-as _ _ _ _ (call-10 _ _ _ c.number_at.ensures c.number_at-2.ensures) c.set.ensures

use Rattle.book.proofs.CallLaws.{met-as, call-3}
use Rattle.book.proofs.run_available.Goals as goal

pub returns : goal.returns
returns c = met-as _ _ _ _ (call-3 _ _ _ _ c.number_at-2.ensures c.number_at.ensures c.numbers_at.ensures) c.available.ensures

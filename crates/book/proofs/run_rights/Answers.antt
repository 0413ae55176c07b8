use Rattle.book.proofs.CallLaws.{met-as, call-8}
use Rattle.book.proofs.run_rights.Goals as goal

pub returns : goal.returns
returns c = met-as _ _ _ _ (call-8 _ _ _ _ _ c.number_at.ensures c.mark_at.ensures c.number_at-2.ensures c.numbers_at.ensures) c.grant.ensures

use Rattle.book.proofs.CallLaws.{met-as, call-5}
use Rattle.book.proofs.run_annul.Goals as goal

pub returns : goal.returns
returns c = met-as _ _ _ _ (call-5 _ _ c.key_of.ensures) c.annul.ensures

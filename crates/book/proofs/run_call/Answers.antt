use Rattle.book_log.specs.declared.Kind.TheVariants.{Lodge, Close, Clear}
use Rattle.book.proofs.CallLaws.{met-as, of-kind, call-4, call-6, call-7}
use Rattle.book.proofs.run_call.Goals as goal

pub returns-in-Lodge : goal.returns-in-Lodge
returns-in-Lodge c = of-kind _ _ Lodge _ _ c.in-Lodge.is (met-as _ _ _ _ (call-4 _) c.lodge.ensures)

pub returns-in-Close : goal.returns-in-Close
returns-in-Close c = of-kind _ _ Close _ _ c.in-Close.is (met-as _ _ _ _ (call-6 _) c.close.ensures)

pub returns-in-Clear : goal.returns-in-Clear
returns-in-Clear c = of-kind _ _ Clear _ _ c.in-Clear.is (met-as _ _ _ _ (call-7 _) c.clear.ensures)

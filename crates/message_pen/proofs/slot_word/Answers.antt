use Rattle.message_pen.proofs.SlotLaws.{slot-execution, slot-offer}
use Rattle.message_pen.proofs.slot_word.Goals as goal

pub returns-then-execution : goal.returns-then-execution
returns-then-execution c w fits = rw c.from.ensures (slot-execution w _ _ _ c.if-execution.true fits)

pub returns-else-execution : goal.returns-else-execution
returns-else-execution c w fits = rw (c.from-else-execution.ensures, c.from-else-execution-2.ensures) (slot-offer w _ _ _ c.if-execution.false fits)

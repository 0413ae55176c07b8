use Rattle.std.proofs.Common.{arith}
use Rattle.std.proofs.lemmas.List.Sums.{sum_by_push}
use Rattle.clear_store.specs.Slots.{energy_of, energy_in}
use Rattle.clear_store.specs.UnitSlots.{slot_of}
use Rattle.clear_store.proofs.SlotLaws.{held-more}
use Rattle.clear_store.proofs.portions.Slots.add.Goals as goal

pub returns-then-held-eq0-clause-sums : goal.returns-then-held-eq0-clause-sums
unfolding energy_in
returns-then-held-eq0-clause-sums c u =
    let a = c.args in
    rw c.slot-slot.ensures.value (omega (arith, held-more (slot_of a.self.now.table.now.rows a.self.now.table.now.slots) a.self.now.held a.portion u (rw c.slot-slot.ensures.value at c.if-held-eq0.either) (omega (arith, c.slot-slot.ensures.value, c.slot-slot.ensures.fits))))

pub returns-else-held-eq0-clause-sums : goal.returns-else-held-eq0-clause-sums
unfolding energy_in
returns-else-held-eq0-clause-sums c u =
    let a = c.args in
    rw c.push.ensures.items (omega (arith, sum_by_push (energy_of u) a.self.now.others.items a.portion))

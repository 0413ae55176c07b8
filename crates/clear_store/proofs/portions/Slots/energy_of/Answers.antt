use Rattle.std.proofs.Common.{arith, refl}
use Rattle.clear_store.specs.Slots.{energy_held, energy_in}
use Rattle.clear_store.specs.UnitSlots.{slot_of}
use Rattle.clear_store.proofs.SlotLaws.{beside-small, held-small}
use Rattle.clear_store.proofs.portions.Slots.energy_of.Goals as goal

pub energy_among-requires : goal.energy_among-requires
energy_among-requires c = omega (arith, beside-small c.args.unit c.as_slice.result.now (rw c.as_slice.ensures.value c.args.self.now.ranged), c.as_slice.ensures.fits)

pub overflow_add-result : goal.overflow_add-result
unfolding energy_held
overflow_add-result c =
    let s = c.args.self.now in
    omega (
      arith,
      c.energy_of.ensures,
      c.energy_among.ensures,
      rw (← c.slot.ensures.value) at (held-small (slot_of s.table.now.rows s.table.now.slots) c.args.unit s.held (omega (arith, c.slot.ensures.value, c.slot.ensures.fits)) s.sums),
      beside-small c.args.unit c.as_slice.result.now (rw c.as_slice.ensures.value s.ranged),
      c.as_slice.ensures.fits,
    )

pub returns : goal.returns
unfolding energy_held energy_in
returns c = rw (← c.slot.ensures.value, c.energy_of.ensures, c.energy_among.ensures, c.as_slice.ensures.value) refl

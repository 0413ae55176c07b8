use Rattle.std.proofs.Common.{arith, refl}
use mathlib.Core.Path.{◌∙◌}
use Rattle.clear_store.specs.UnitSlots.{slot_of}
use Rattle.clear_store.proofs.UnitSlotLaws.{slot-its, slot-other}
use Rattle.clear_store.proofs.unit_slots.UnitSlots.add.Goals as goal

pub returns-clause-its : goal.returns-clause-its
returns-clause-its c =
    let t = c.bring_row.new.self in
    rw c.row-row.ensures.value (slot-its t.rows t.slots c.args.number c.args.slot (omega (arith, c.row-row.ensures.value, c.row-row.ensures.fits)))

pub returns-clause-others : goal.returns-clause-others
unfolding slot_of
returns-clause-others c k rows h n found d =
    let t = c.bring_row.new.self in
    let kept = c.bring_row.ensures.kept n found in
    rw c.row-row.ensures.value
    (slot-other t.rows t.slots c.args.number c.args.slot c.args.slot (c.bring_row.ensures.rows k rows h) n (omega (arith, kept)) d
    ∙ rw (kept, c.bring_row.ensures.slots) refl)

use Rattle.std.proofs.Common.{arith, ◌*◌, ◌≤◌}
use Rattle.std.proofs.lemmas.List.Elements.{All-nil, All-replicate}
use Rattle.rules.specs.Units.{max_energy}
use Rattle.clear_store.specs.declared.portions.Portion.{Portion}
use Rattle.clear_store.specs.Slots.{energy_in, nothing}
use Rattle.clear_store.specs.UnitSlots.{slot_of}
use Rattle.clear_store.proofs.SlotLaws.{none-held, none-room}
use Rattle.clear_store.proofs.portions.Slots.new.Goals as goal

pub returns-clause-none : goal.returns-clause-none
unfolding energy_in
returns-clause-none c u = rw (c.new-others.ensures, none-held (slot_of c.args.table.now.rows c.args.table.now.slots) 65 u) (omega arith)

pub returns-clause-kept : goal.returns-clause-kept
returns-clause-kept c = record {
  room = λ i. none-room 65 i 0;
  few = rw c.new-others.ensures (omega arith);
}

pub invariant_of-result : goal.invariant_of-result
invariant_of-result c = record {
  sums = All-replicate (λ (p : Portion). p.energy ≤ 128 * max_energy) 65 nothing (omega arith);
  ranged = rw c.new-others.ensures (All-nil (λ (p : Portion). p.energy ≤ max_energy));
}

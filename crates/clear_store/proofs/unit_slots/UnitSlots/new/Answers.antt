use Rattle.std.proofs.Common.{ℕ, ◌≤◌, arith}
use Rattle.std.proofs.lemmas.List.Elements.{All-replicate}
use Rattle.clear_store.proofs.UnitSlotLaws.{no-rows}
use Rattle.clear_store.proofs.unit_slots.UnitSlots.new.Goals as goal

pub invariant_of-result : goal.invariant_of-result
invariant_of-result c = record {
  rows_fit = All-replicate (λ (r : ℕ). r ≤ 64) 256 0 (omega arith);
  slots_fit = All-replicate (λ (s : ℕ). s ≤ 64) 16640 0 (omega arith);
}

pub returns : goal.returns
returns c = no-rows 256

use Rattle.std.proofs.Common.{◌≡◌, ℕ, map, take}
use Rattle.std.specs.Fn.{FnReturnsAt}
use Rattle.std.specs.List.{sum_by}
use Rattle.rules.specs.Lists.{All}
use Rattle.clear_store.specs.declared.portions.Portion.{Portion}
use Rattle.clear_store.specs.Slots.{energy_of, energy_in, Kept}
use Rattle.clear_store.proofs.portions.Slots.of.Given as goal

abbrev pub invariant-loop-x : goal.invariant-loop-x
invariant-loop-x g l = record {
  kept : Kept l.x-index l.slots;
  said : (portion : g.row.T.Denot → Portion) → All (λ x. (p : Portion) → FnReturnsAt g.F.Fn l.of x p → p ≡ portion x) l.holders
      → (u : ℕ) → energy_in u l.slots ≡ sum_by (energy_of u) (map portion (take l.x-index l.holders));
}

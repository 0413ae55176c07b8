use Rattle.std.proofs.Common.{◌≡◌, length, map, take}
use Rattle.std.specs.Fn.{FnReturnsAt}
use Rattle.rules.specs.Lists.{All}
use Rattle.hour_share.specs.declared.Amount.{Amount}
use Rattle.hour_share.specs.Deductions.{Ranged, energy_in}
use Rattle.hour_share.proofs.energies_in.Given as goal

abbrev pub invariant-loop-x : goal.invariant-loop-x
invariant-loop-x g l = record {
  count : length l.energies.items ≡ l.x-index;
  ranged : Ranged l.energies.items;
  said : (amount : g.row.T.Denot → Amount) → All (λ x. (a : Amount) → FnReturnsAt g.F.Fn l.of x a → a ≡ amount x) l.holders
      → l.energies.items ≡ map (energy_in l.d) (map amount (take l.x-index l.holders));
}

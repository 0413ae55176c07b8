use Rattle.std.proofs.Common.{◌≡◌, ℕ, ◌+◌, ◌*◌, ◌≤◌, length, map, drop, get_or}
use Rattle.std.specs.Fn.{FnReturnsAt}
use Rattle.rules.specs.Lists.{All, sum_of}
use Rattle.rules.specs.Units.{max_energy}
use Rattle.hour_share.specs.declared.Amount.{Amount}
use Rattle.hour_share.specs.Deductions.{energy_in}
use Rattle.hour_borders.proofs.flows.Given as goal

abbrev pub invariant-loop-x : goal.invariant-loop-x
invariant-loop-x g l = record {
  eight : length l.flows ≡ 8;
  small : (d : ℕ) → get_or l.flows d 0 ≤ max_energy * l.x-index;
  -- what is counted, with what is left
  whole : (amount : g.row.T.Denot → Amount) → All (λ x. (a : Amount) → FnReturnsAt g.F.Fn l.of x a → a ≡ amount x) l.holders
      → (d : ℕ) → get_or l.flows d 0 + sum_of (energy_in d) (map amount (drop l.x-index l.holders)) ≡ sum_of (energy_in d) (map amount l.holders);
}

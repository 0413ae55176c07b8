use Rattle.std.proofs.Common.{◌≡◌, ℕ, ◌-◌, ◌≤◌, ◌*◌, length, map, get_or}
use Rattle.std.specs.Fn.{FnReturnsAt}
use Rattle.rules.specs.Lists.{All}
use Rattle.rules.specs.Units.{max_energy}
use Rattle.hour_share.specs.declared.Amount.{Amount}
use Rattle.hour_share.specs.Deductions.{deductions_from}
use Rattle.hour_share.proofs.deductions.Given as goal

abbrev pub invariant-loop-d : goal.invariant-loop-d
invariant-loop-d g l = record {
  last : l.d ≤ 8;
  same_length : length l.sums.items ≡ length l.holders;
  room : (i : ℕ) → get_or l.sums.items i 0 ≤ (8 - l.d) * max_energy;
  added : (amount : g.row.T.Denot → Amount) → All (λ x. (a : Amount) → FnReturnsAt g.F.Fn l.of x a → a ≡ amount x) l.holders
      → l.sums.items ≡ deductions_from l.over (map amount l.holders) l.d;
}

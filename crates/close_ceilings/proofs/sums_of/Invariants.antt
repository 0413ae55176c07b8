use Rattle.std.proofs.Common.{◌≡◌, ℕ, ◌<◌, map, get_or, length}
use Rattle.std.specs.Prelude.{None}
use Rattle.rules.specs.Units.{loss_of, border_sum, increased_sum}
use Rattle.judge_limits.specs.Limits.{notice_in, limit_at}
use Rattle.close_ceilings.proofs.sums_of.Given as goal

abbrev pub invariant-loop-border : goal.invariant-loop-border
invariant-loop-border l = record {
  five : length l.sum-items ≡ 5;
  rows : (b h : ℕ) → b < l.border → limit_at (get_or l.sum-items b None) h ≡ increased_sum (loss_of l.losses b) (border_sum (map notice_in l.capacities) b h);
}

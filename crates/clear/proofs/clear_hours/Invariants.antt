use Rattle.std.proofs.Common.{◌≡◌, ◌≤◌, ◌*◌, length}
use Rattle.clear.specs.Hours.{HoursAs}
use Rattle.clear.proofs.clear_hours.Given as goal

abbrev pub invariant-loop-k : goal.invariant-loop-k
invariant-loop-k l = (l.n ≡ l.s.hours) × (length l.figures ≡ 25) × (l.steps ≤ 4294967295 * l.k) × HoursAs l.s l.k l.figures l.steps

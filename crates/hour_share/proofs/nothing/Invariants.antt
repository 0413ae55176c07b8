use Rattle.std.proofs.Common.{◌≡◌, replicate}
use Rattle.hour_share.proofs.nothing.Given as goal

abbrev pub invariant-loop : goal.invariant-loop
invariant-loop l = l.deductions.items ≡ replicate l.counter 0

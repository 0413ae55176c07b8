use Prim.Native.Nat.{◌-◌, ◌≤◌}
use mathlib.Core.Path.{◌≡◌}
use Rattle.rules.specs.Hours.{days_before}
use Rattle.calendar.proofs.days_before.Given as goal

abbrev pub invariant-loop-m : goal.invariant-loop-m
invariant-loop-m l = (1 ≤ l.m) × (l.m ≤ l.month) × (l.days ≡ days_before l.year (l.m - 1))

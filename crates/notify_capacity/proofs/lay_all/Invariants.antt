use Rattle.std.proofs.Common.{◌≡◌, map, take, length}
use Rattle.notify_capacity.specs.Capacities.{direction_as}
use Rattle.notify_capacity.proofs.lay_all.Given as goal

abbrev pub invariant-loop-i : goal.invariant-loop-i
invariant-loop-i l = (length l.stored ≡ 8) × (take l.i l.stored ≡ map direction_as (take l.i l.ps))

use Rattle.std.proofs.Common.{◌≡◌, map, take}
use Rattle.session.specs.Laid.{pad}
use Rattle.clear_store.specs.Slots.{energy_in}
use Rattle.clear_store.proofs.portions.Slots.by_unit.Given as goal

abbrev pub invariant-loop-i : goal.invariant-loop-i
invariant-loop-i l = l.energies ≡ pad 64 0 (map (λ u. energy_in u.number l.self) (take l.i l.units))

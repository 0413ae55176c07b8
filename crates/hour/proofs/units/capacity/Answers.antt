use Rattle.std.proofs.Common.{arith, sym}
use Rattle.hour.proofs.LineLaws.{capacity-abroad, capacity-elsewhere}
use Rattle.hour.proofs.units.capacity.Goals as goal

pub returns-in-1-to-4 : goal.returns-in-1-to-4
returns-in-1-to-4 c =
    let a = c.args in
    rw c.direction.ensures.index (sym (capacity-abroad a.capacities.now a.border a.export (omega (arith, c.in-1-to-4)) (omega (arith, c.in-1-to-4))))

pub returns-in_default : goal.returns-in_default
returns-in_default c = let a = c.args in sym (capacity-elsewhere a.capacities.now a.border a.export (λ l. omega (arith, l, c.in_default)))

pub returns-in_default-2 : goal.returns-in_default-2
returns-in_default-2 c = let a = c.args in sym (capacity-elsewhere a.capacities.now a.border a.export (λ l. omega (arith, l, c.in_default)))

use Rattle.std.proofs.Common.{rules, ap, List, ℕ, true}
use Rattle.session.specs.declared.Notice.{Notice}
use Rattle.notify_capacity.specs.Capacities.{direction_as}
use Rattle.notify_capacity.proofs.DirectionLaws.{laid-behind}
use Rattle.notify_capacity.proofs.lay.Goals as goal

pub returns-then-p : goal.returns-then-p
unfolding direction_as
returns-then-p c =
    let p = c.args.p.now in
    rw c.if-p.true
    (ap {B = Notice} (λ (es : List ℕ). record { given = true; reserved = 0; reserved2 = 0; energies = es })
    (laid-behind p.count c.min.result p.energies c.fill.new.self (search rules) c.min.ensures (search rules)))

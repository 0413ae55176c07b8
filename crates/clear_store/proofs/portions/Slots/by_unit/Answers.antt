use Rattle.std.proofs.Common.{arith, refl}
use Rattle.session.specs.Laid.{pad}
use Rattle.session.specs.Image.{no_unit}
use Rattle.clear_store.specs.Slots.{energy_in}
use Rattle.clear_store.proofs.SumLaws.{laid-next}
use Rattle.clear_store.proofs.portions.Slots.by_unit.Goals as goal

pub loop-i-init : goal.loop-i-init
unfolding pad
loop-i-init c = refl

pub loop-i-preserved : goal.loop-i-preserved
loop-i-preserved c =
    laid-next 64 (λ u. energy_in u.number c.args.self.now) c.args.units.now c.loop-i.i no_unit c.loop-i.energies _ (omega arith) (omega arith) c.loop-i.invariant c.energy_of.ensures

use Rattle.std.proofs.Common.{arith, refl}
use mathlib.Core.Path.{◌∙◌}
use lib.ListN.{length-set}
use Rattle.session.specs.declared.HourFigures.{HourFigures}
use Rattle.clear.proofs.EndLaws.{hours-start, hours-next}
use Rattle.clear.proofs.clear_hours.Goals as goal

pub loop-k-init : goal.loop-k-init
loop-k-init c = (refl, refl, omega arith, hours-start _ _ c.no_figures-none.ensures)

pub loop-k-preserved : goal.loop-k-preserved
loop-k-preserved c =
    let l = c.loop-k in
    let h = c.clear_hour-end in (
      refl,
      length-set {A = HourFigures} l.figures l.k h.result.figures ∙ l.invariant.1,
      omega (arith, l.invariant.2, c.from-steps.ensures),
      hours-next c.args.s.now l.k l.figures l.steps c.from-steps.result h.result l.invariant.3 (h.ensures (c.deref.ensures.0 ∙ c.holders_of-holders.ensures)) c.from-steps.ensures (omega (arith, c.loop-k-test.true, c.requires.hours)),
    )

use Rattle.std.proofs.Common.{ap, ◌∙◌}
use borrow.Author.Tests.{lt-ltb, le-ltb}
use Rattle.rules.specs.Units.{passes}
use Rattle.hour_borders.specs.Directions.{published_in}
use Rattle.hour.specs.Units.{line_in}
use Rattle.hour.proofs.LineLaws.{energy_fits, figure_passes, is-over}
use Rattle.hour.proofs.units.is_over.Goals as goal

pub energy_of-energy-requires : goal.energy_of-energy-requires
energy_of-energy-requires c = energy_fits c.args.x.now.holder.unit c.args.lodgements.now c.requires.few c.requires.in_range

pub returns-then-energy-gt-MAX_ENERGY : goal.returns-then-energy-gt-MAX_ENERGY
returns-then-energy-gt-MAX_ENERGY c =
    let above = lt-ltb 99999 c.energy_of-energy.result c.if-energy-gt-MAX_ENERGY.true in
    above ∙ is-over _ _ _ _ _ c.energy_of-energy.ensures above

pub returns-else-energy-gt-MAX_ENERGY : goal.returns-else-energy-gt-MAX_ENERGY
returns-else-energy-gt-MAX_ENERGY c =
    let x = c.args.x.now.holder in
    let line = line_in (published_in c.args.capacities.now) x.border in
    let increased = ap (λ n. passes n line) c.figure-figure.ensures ∙ figure_passes x.loss c.energy_of-energy.result line in
    c.passes_line.ensures ∙ (increased ∙ is-over _ _ _ _ _ c.energy_of-energy.ensures (le-ltb 99999 c.energy_of-energy.result c.if-energy-gt-MAX_ENERGY.false))

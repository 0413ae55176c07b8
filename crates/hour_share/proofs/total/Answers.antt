use Rattle.std.proofs.Common.{arith, rules, ◌<◌, ◌∙◌, ◌≡◌}
use Rattle.std.specs.List.{sum as fold_sum}
use Rattle.rules.specs.Units.{max_energy}
use Rattle.hour_share.proofs.Laws.{sum-is, sum-small}
use Rattle.hour_share.proofs.total.Goals as goal

pub sum-requires-clause-fits : goal.sum-requires-clause-fits
sum-requires-clause-fits c =
    let h : fold_sum c.args.energies.now < 4294967296 = omega (arith, sum-is c.args.energies.now, sum-small max_energy c.args.energies.now c.requires.ranged) in
    search rules

pub returns : goal.returns
returns c =
    let e : c.sum.result ≡ fold_sum c.args.energies.now = search rules in
    e ∙ sum-is c.args.energies.now

use Rattle.std.proofs.Common.{ap, sym, ◌∙◌}
use Rattle.clear_gather.specs.Built.{unit_among}
use Rattle.clear_gather.proofs.HolderLaws.{unit_or, found-first}
use Rattle.clear_gather.proofs.unit_among.Goals as goal

pub returns-in-Some : goal.returns-in-Some
unfolding unit_among
returns-in-Some c = ap unit_or (sym c.in-Some.is ∙ c.holder_of.ensures) ∙ found-first c.args.number c.args.units.now

pub returns-in-None : goal.returns-in-None
unfolding unit_among
returns-in-None c = c.no_unit.ensures ∙ ap unit_or (sym c.in-None.is ∙ c.holder_of.ensures) ∙ found-first c.args.number c.args.units.now

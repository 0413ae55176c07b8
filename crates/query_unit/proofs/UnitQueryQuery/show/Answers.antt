use Rattle.query_unit.proofs.EnergyLaws.{energy-shown}
use Rattle.query_unit.proofs.UnitQueryQuery.show.Goals as goal

pub returns : goal.returns
returns c = rw (c.from.ensures, c.among.ensures) (λ b sound e. energy-shown _ b e _ _ _ c.requires c.args.self.energy)

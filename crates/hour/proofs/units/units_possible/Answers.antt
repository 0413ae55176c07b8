use Rattle.hour.proofs.RangeLaws.{lodgements-in-range}
use Rattle.hour.proofs.units.units_possible.Goals as goal

pub lodgements_possible-requires-clause-in_range : goal.lodgements_possible-requires-clause-in_range
lodgements_possible-requires-clause-in_range c = rw (c.deref-then-units_differ.ensures.0, c.lodgements_of.ensures) (lodgements-in-range c.requires)

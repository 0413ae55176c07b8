use Rattle.std.proofs.Common.{sym, ◌∙◌}
use Rattle.hour.proofs.RangeLaws.{range-holds}
use Rattle.hour.proofs.ready.Goals as goal

pub units_possible-requires : goal.units_possible-requires
units_possible-requires c = range-holds c.args.h.now (sym c.in_range.ensures ∙ c.if-in_range.true)

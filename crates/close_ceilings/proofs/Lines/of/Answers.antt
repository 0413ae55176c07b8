use Rattle.std.proofs.Common.{rules}
use Rattle.close_ceilings.specs.Ceilings.{line_of}
use Rattle.close_ceilings.proofs.Lines.of.Goals as goal

pub returns-then-unit : goal.returns-then-unit
unfolding line_of
returns-then-unit c = rw (c.if-unit.true) (search rules)

pub returns-else-unit : goal.returns-else-unit
unfolding line_of
returns-else-unit c = rw (c.if-unit.false) (search rules)

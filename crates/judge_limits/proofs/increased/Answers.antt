use Rattle.std.proofs.Common.{◌+◌}
use Rattle.judge_limits.proofs.BorderLaws.{increased-parted}
use Rattle.judge_limits.proofs.increased.Goals as goal

pub returns : goal.returns
returns c = let a = c.args in rw (c.from.ensures, c.from-2.ensures, c.from-times.ensures, c.from-rest.ensures, c.from-3.ensures) (increased-parted a.loss (a.export + a.import))

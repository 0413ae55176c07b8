use Rattle.std.proofs.Common.{◌∙◌}
use Rattle.hour_borders.proofs.LimitLaws.{passed-said}
use Rattle.hour_borders.proofs.passed.Goals as goal

pub returns : goal.returns
returns c = c.any_left.ensures ∙ passed-said c.args.over.now c.told-over

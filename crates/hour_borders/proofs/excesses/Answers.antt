use Rattle.std.proofs.Common.{arith}
use Rattle.hour_borders.specs.Limits.{excess_in}
use Rattle.hour_borders.proofs.LimitLaws.{fill-next, excesses-said}
use Rattle.hour_borders.proofs.excesses.Goals as goal

pub loop-d-preserved : goal.loop-d-preserved
unfolding excess_in
loop-d-preserved c = fill-next 0 (excess_in c.args.maxima.now c.args.market.now) c.loop-d.d _ c.loop-d.over c.loop-d.invariant (omega arith) (rw (c.excess_over.ensures, c.flow_at.ensures.along, c.flow_at.ensures.against))

pub returns-clause-result_value : goal.returns-clause-result_value
returns-clause-result_value c os km = excesses-said c.args.maxima.now c.args.market.now os km c.loop-d.over c.loop-d.d (omega arith) c.loop-d.invariant

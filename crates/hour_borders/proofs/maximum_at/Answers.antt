use Rattle.hour_borders.specs.Limits.{maximum_in}
use Rattle.hour_borders.proofs.maximum_at.Goals as goal

pub returns-in_err-capacity : goal.returns-in_err-capacity
unfolding maximum_in
returns-in_err-capacity c = rw (c.in_err-capacity.was) c.from_residual.ensures

pub returns : goal.returns
unfolding maximum_in
returns c =
    rw (
      c.in_ok-capacity.was,
      ← c.flow_at.ensures.along,
      ← c.flow_at.ensures.against,
      ← c.flow_at-2.ensures.along,
      ← c.flow_at-2.ensures.against,
      c.market_maximum.ensures,
    )

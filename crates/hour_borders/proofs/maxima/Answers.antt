use Rattle.std.proofs.Common.{arith, ap}
use Rattle.std.specs.Option.{unwrap_or}
use Rattle.hour_borders.proofs.LimitLaws.{maxima-said, energy-at}
use Rattle.hour_borders.proofs.maxima.Goals as goal

pub maximum_at-requires-clause-capacity_small : goal.maximum_at-requires-clause-capacity_small
maximum_at-requires-clause-capacity_small c m e =
    omega (arith, c.requires.capacities_small c.loop-d.d, energy-at c.args.capacities.now c.loop-d.d, ap (λ o. unwrap_or o 0) e)

pub returns : goal.returns
returns c = record {
  split = λ first xs kx km kl.
      let a = c.args in
      maxima-said a.capacities.now a.executions.now a.market.now a.legacy.now first xs kx km kl c.loop-d.maxima c.loop-d.d (omega arith) c.loop-d.invariant;
}

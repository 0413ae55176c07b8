use Rattle.std.proofs.Common.{◌-◌}
use Rattle.hour_offers.specs.View.{offers_in}
use Rattle.hour_borders.specs.Directions.{published_in}
use Rattle.hour_borders.specs.Flows.{MarketFlows}
use Rattle.withdraw.specs.Beside.{Beside}
use Rattle.withdraw.proofs.RoundLaws.{Repeating}
use Rattle.withdraw.proofs.withdraw.Given as goal

abbrev pub invariant-loop-steps : goal.invariant-loop-steps
invariant-loop-steps l = record {
  repeating : Repeating (published_in l.maxima) l.orders.sales.now l.orders.purchases.now (offers_in l.initial.offers) (offers_in l.offers) (l.bound - l.steps) l.steps l.volume;
  beside : Beside (offers_in l.offers) l.abroad;
  flows : MarketFlows l.flows (offers_in l.offers);
}

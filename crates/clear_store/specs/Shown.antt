-- An hour's figures as the session keeps them.
use Rattle.std.specs.Prelude.{List, map, eqb}
use Rattle.rules.specs.Lists.{keep, sum_of}
use Rattle.rules.specs.Match.{Offer}
use Rattle.rules.specs.Borders.{Execution, flow}
use Rattle.rules.specs.Clearing as C
use Rattle.session.specs.declared.Unit.{Unit}
use Rattle.session.specs.declared.HourFigures.{HourFigures}
use Rattle.session.specs.Laid.{pad}
use Rattle.session.specs.Image.{by_direction, energy_of}

-- The rules' figures of an hour, laid out for some units

unfoldable pub cleared_as : C.Figures → List Unit → HourFigures
cleared_as x us = record {
  price = x.price;
  market = by_direction (λ border export. flow (λ o. o.holder) (λ o. o.matched) border export x.offers);
  bilateral = by_direction (λ border export. flow (λ x. x.holder) (λ x. x.energy) border export x.executions);
  maxima = by_direction (energy_of x.maxima);
  matched = pad 64 0 (map (λ u. sum_of (λ (o : Offer). o.matched) (keep (λ o. eqb o.holder.unit u.number) x.offers)) us);
  executed = pad 64 0 (map (λ u. sum_of (λ (x : Execution). x.energy) (keep (λ x. eqb x.holder.unit u.number) x.executions)) us);
}

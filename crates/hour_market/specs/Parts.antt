-- The market's part of an hour.
use Rattle.std.specs.Prelude.{ℕ, ◌≡◌, List, Option}
use Rattle.rules.specs.Match.{Offer}
use Rattle.rules.specs.Borders.{Execution}
use Rattle.rules.specs.Clearing as C
use Rattle.hour_borders.specs.Directions.{published_in}
use Rattle.hour_market.specs.declared.Market.{Market}

abbrev pub hour_of : List Offer → List (Option ℕ) → List Execution → C.Hour
hour_of os capacities xs = record { capacities = published_in capacities; offers = os; executions = xs }

-- the market's part of an hour with executions xs is the rules'
pub record MarketCleared (before : List Offer) (capacities : List (Option ℕ)) (xs : List Execution) (after : List Offer) (r : Market) : Type 0 where
  pub offers : (C.clear_hour (hour_of before capacities xs)).offers ≡ after
  pub maxima : (C.clear_hour (hour_of before capacities xs)).maxima ≡ published_in r.maxima
  pub steps : (C.clear_hour (hour_of before capacities xs)).steps ≡ r.steps
  pub price : (C.clear_hour (hour_of before capacities xs)).price ≡ r.price

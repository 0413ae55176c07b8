-- What holds of the offers and executions of an hour that a session can hold.
use Rattle.std.specs.Prelude.{◌≤◌, ◌<◌, List, length}
use Rattle.rules.specs.Lists.{All, Pairwise}
use Rattle.rules.specs.Units.{max_energy, max_price}
use Rattle.rules.specs.Match.{Offer}
use Rattle.rules.specs.Borders.{Execution}

-- an offer's values are within their ranges; border 0 is the domestic one
pub record InRange (o : Offer) : Type 0 where
  pub border : o.holder.border < 5
  pub price : o.price ≤ max_price
  pub offered : o.offered ≤ max_energy
  pub matched : o.matched ≤ max_energy

-- the same of an offer before its hour's match, whatever stands as matched
pub record InRangeUnmatched (o : Offer) : Type 0 where
  pub border : o.holder.border < 5
  pub price : o.price ≤ max_price
  pub offered : o.offered ≤ max_energy

-- and so are an execution's
pub record ExecutionInRange (x : Execution) : Type 0 where
  pub border : x.holder.border < 5
  pub energy : x.energy ≤ max_energy

-- an hour's offers: by rising lodging number, "up to 128 standing lodgements", each in its ranges
pub record Sound (os : List Offer) : Type 0 where
  pub few : length os ≤ 128
  pub rising : Pairwise (λ o p. o.holder.number < p.holder.number) os
  pub in_range : All InRange os

-- the same before their match, whatever stands as matched
pub record SoundUnmatched (os : List Offer) : Type 0 where
  pub few : length os ≤ 128
  pub rising : Pairwise (λ o p. o.holder.number < p.holder.number) os
  pub in_range : All InRangeUnmatched os

-- an hour's executions, likewise
pub record SoundExecutions (xs : List Execution) : Type 0 where
  pub few : length xs ≤ 128
  pub rising : Pairwise (λ x y. x.holder.number < y.holder.number) xs
  pub in_range : All ExecutionInRange xs

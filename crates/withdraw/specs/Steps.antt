-- A withdrawal step of an hour.
use Rattle.std.specs.Prelude.{ℕ, ◌≤◌, ◌≡◌, true, false, List}
use Rattle.rules.specs.Lists.{All, Each}
use Rattle.rules.specs.Match.{Offer, volume}
use Rattle.rules.specs.Borders.{Directed}
use Rattle.rules.specs.Withdrawal.{step}
use Rattle.hour_offers.specs.Sound.{Sound}
use Rattle.hour_match.specs.Orders.{in_order}

-- An hour's offers, as a match leaves them, and both sides in their orders.
pub record Laid (os : List Offer) (sales purchases : List ℕ) : Type 0 where
  -- they stand by rising lodging number, each in its ranges
  pub sound : Sound os
  -- no more is matched than offered
  pub within : All (λ o. o.matched ≤ o.offered) os
  -- "sales by rising price, purchases by falling price"
  pub rising : sales ≡ in_order false os
  pub falling : purchases ≡ in_order true os

-- an offer and what a withdrawal leaves of it: the same holder and price, and it offers no more
pub record Lowered (before after : Offer) : Type 0 where
  pub holder : after.holder ≡ before.holder
  pub price : after.price ≡ before.price
  pub offered : after.offered ≤ before.offered

-- A step of some offers, of the directions passed, with their excesses; v is the volume after it.
pub record Stepped (ds : List Directed) (sales purchases : List ℕ) (before after : List Offer) (v : ℕ) : Type 0 where
  -- the rules' step, "Match again" included
  pub offers : after ≡ step ds before
  -- v is the volume of that match
  pub traded : v ≡ volume after
  -- the orders stay those of the offers
  pub laid : Laid after sales purchases
  -- none offers more than before
  pub lowered : Each Lowered before after

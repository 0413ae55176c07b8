-- The offers at a border, beside all of an hour.
use Rattle.std.specs.Prelude.{◌≡◌, List}
use Rattle.rules.specs.Match.{Offer}
use Rattle.hour_offers.specs.View.{offers_in}
use Rattle.withdraw_keep.specs.Abroad.{abroad_of, places_from}
use Rattle.withdraw.specs.declared.abroad.Abroad.{Abroad}

-- an hour's offers, and those at a border: their indices, and what stands there
pub record Beside (os : List Offer) (a : Abroad) : Type 0 where
  pub places : a.places.items ≡ places_from 0 os
  pub offers : offers_in a.offers.items ≡ abroad_of os

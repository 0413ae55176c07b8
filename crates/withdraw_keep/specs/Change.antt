-- What a step does to an offer before it is matched again.
use Rattle.std.specs.Prelude.{◌≤◌, ◌≡◌, max}
use Rattle.rules.specs.Match.{Offer}

-- an offer and what a step leaves of it: it offers no more than before, or than is matched
pub record Changed (before after : Offer) : Type 0 where
  pub holder : after.holder ≡ before.holder
  pub price : after.price ≡ before.price
  pub matched : after.matched ≡ before.matched
  pub offered : after.offered ≤ max before.offered before.matched

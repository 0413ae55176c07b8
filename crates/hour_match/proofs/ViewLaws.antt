-- Laws for callers: the code's offers read as the rules', and what a match keeps.
use Rattle.std.proofs.Common.{◌≡◌, ℕ, false, List, get_or}
use Rattle.std.proofs.Math.ListN.{get_or-map}
use Rattle.hour_offers.specs.declared.Offer.{Offer}
use Rattle.hour_offers.specs.View.{offer_in, offers_in}
use Rattle.hour_match.specs.Orders.{nth}

-- read past the end of the code's offers
abbrev pub blank : Offer
blank = record { holder = record { number = 0; unit = 0; border = 0; purchase = false; legacy = false; loss = 0 }; price = 0; offered = 0; matched = 0 }

-- the offer at an index of the code's
pub read-offer : (xs : List Offer) (i : ℕ) → nth (offers_in xs) i ≡ offer_in (get_or xs i blank)
read-offer xs i = get_or-map offer_in xs i blank

use Rattle.std.proofs.Common.{◌≡◌, map, take}
use Rattle.hour_offers.specs.View.{offers_in}
use Rattle.listed.specs.View.{listed}
use Rattle.hour.specs.View.{fresh_in}
use Rattle.hour_clear.proofs.fresh.Given as goal

abbrev pub invariant-loop-offer : goal.invariant-loop-offer
invariant-loop-offer l = (offers_in (listed l.fresh) ≡ map fresh_in (take l.offer-index l.offers)) × (l.fresh.count ≡ l.offer-index)

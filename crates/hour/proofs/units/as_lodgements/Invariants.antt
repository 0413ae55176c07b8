use Rattle.std.proofs.Common.{◌≡◌, map, take, length}
use Rattle.hour_offers.specs.View.{executions_in}
use Rattle.hour.specs.View.{fresh_in}
use Rattle.hour.specs.Units.{lodgement_of}
use Rattle.hour.proofs.units.as_lodgements.Given as goal

abbrev pub invariant-loop-offer : goal.invariant-loop-offer
invariant-loop-offer l =
    (executions_in l.lodgements.items ≡ map lodgement_of (map fresh_in (take l.offer-index l.offers))) × (length l.lodgements.items ≡ l.offer-index)

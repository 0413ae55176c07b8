use Rattle.std.proofs.Common.{arith, ◌∙◌}
use Rattle.withdraw.proofs.PlaceLaws.{place-taken, place-left, places-end, offer-taken, offer-left, offers-end}
use Rattle.withdraw.proofs.abroad.Abroad.of.Goals as goal
use Rattle.withdraw.proofs.abroad.Abroad.of.Goals.{then-offer-gt0, else-offer-gt0}

pub loop-i-preserved : goal.loop-i-preserved
loop-i-preserved c =
    let l = c.loop-i in
    elim c.if-offer-gt0.branch [
      | then-offer-gt0 w ↦ rw (w.places-is, w.abroad-is) record {
        few_places = omega (arith, w.push.ensures.len, l.invariant.few_places);
        few_offers = omega (arith, w.push-then-offer-gt0.ensures.len, l.invariant.few_offers);
        places = rw w.push.ensures.items (place-taken c.args.offers.now l.i _ c.loop-i-test.true l.places.items w.if-offer-gt0.true ∙ l.invariant.places);
        offers = rw w.push-then-offer-gt0.ensures.items (offer-taken c.args.offers.now l.i _ c.loop-i-test.true l.abroad.items w.if-offer-gt0.true ∙ l.invariant.offers);
      }
      | else-offer-gt0 w ↦ rw (w.places-is, w.abroad-is) record {
        few_places = omega (arith, l.invariant.few_places);
        few_offers = omega (arith, l.invariant.few_offers);
        places = place-left c.args.offers.now l.i _ c.loop-i-test.true l.places.items w.if-offer-gt0.false ∙ l.invariant.places;
        offers = offer-left c.args.offers.now l.i _ c.loop-i-test.true l.abroad.items w.if-offer-gt0.false ∙ l.invariant.offers;
      }
    ]

pub returns : goal.returns
returns c =
    let l = c.loop-i in
    record {
      places = places-end c.args.offers.now l.i l.places.items (omega arith) l.invariant.places;
      offers = offers-end c.args.offers.now l.i l.abroad.items (omega arith) l.invariant.offers;
    }

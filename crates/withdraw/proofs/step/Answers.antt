use Rattle.std.proofs.Common.{ap, arith, sym, ◌∙◌, length, true, false}
use Rattle.std.proofs.lemmas.List.{length-map}
use Rattle.hour_offers.specs.View.{offer_in, offers_in}
use Rattle.withdraw_keep.specs.Group.{group_in}
use Rattle.withdraw.proofs.PlaceLaws.{map-put}
use Rattle.withdraw.proofs.StepLaws.{matched-fits, names-of, refilled, places-named, kept-few, kept-ranged, taken-length, again-ranged, step-again, places-after, abroad-after}
use Rattle.withdraw.proofs.step.Goals as goal

pub choose-group-requires-clause-fits : goal.choose-group-requires-clause-fits
choose-group-requires-clause-fits c = matched-fits c.args.offers.now c.requires.laid.sound

pub choose-group-requires-clause-abroad : goal.choose-group-requires-clause-abroad
choose-group-requires-clause-abroad c = ap offers_in c.as_mut_slice-held.ensures.value ∙ c.requires.abroad.offers

pub take_from-requires-clause-few : goal.take_from-requires-clause-few
take_from-requires-clause-few c =
    let b = c.requires.abroad in
    let n = kept-few c.args.over.now c.requires.laid (c.as_slice-places.ensures.value ∙ b.places) (ap offers_in c.as_mut_slice-held.ensures.value ∙ b.offers) c.keep_matched.ensures.kept in
    omega (arith, length-map c.keep_matched.new.offers offer_in)

pub take_from-requires-clause-in_range : goal.take_from-requires-clause-in_range
take_from-requires-clause-in_range c =
    let b = c.requires.abroad in
    kept-ranged c.args.over.now c.requires.laid (c.as_slice-places.ensures.value ∙ b.places) (ap offers_in c.as_mut_slice-held.ensures.value ∙ b.offers) c.keep_matched.ensures.kept

pub put-requires-clause-names : goal.put-requires-clause-names
put-requires-clause-names c =
    places-named (offers_in c.args.offers.now) (c.as_slice-places.ensures.value ∙ c.requires.abroad.places) c.requires.laid.sound.few (length-map c.args.offers.now offer_in)

pub put-requires-clause-same_length : goal.put-requires-clause-same_length
put-requires-clause-same_length c =
    let b = c.requires.abroad in
    sym (length-map c.take_from.new.offers offer_in)
    ∙ taken-length c.args.over.now c.requires.laid (c.as_slice-places.ensures.value ∙ b.places) (ap offers_in c.as_mut_slice-held.ensures.value ∙ b.offers) c.keep_matched.ensures.kept (group_in c.choose-group.result) c.take_from.ensures.taken

pub match_named-volume-requires-clause-energies : goal.match_named-volume-requires-clause-energies
match_named-volume-requires-clause-energies c =
    let b = c.requires.abroad in
    let at = c.as_slice-places.ensures.value ∙ b.places in
    again-ranged c.args.over.now c.requires.laid at (ap offers_in c.as_mut_slice-held.ensures.value ∙ b.offers) c.keep_matched.ensures.kept (group_in c.choose-group.result) c.take_from.ensures.taken
    (ap offers_in c.put.ensures ∙ map-put offer_in c.as_slice-places.result.now c.take_from.new.offers c.args.offers.now)

pub match_named-volume-requires-clause-sales : goal.match_named-volume-requires-clause-sales
match_named-volume-requires-clause-sales c =
    let m = c.put.auto.offers in
    names-of false c.requires.laid.sound c.requires.laid.rising (omega (arith, length-map c.args.offers.now offer_in))

pub match_named-volume-requires-clause-purchases : goal.match_named-volume-requires-clause-purchases
match_named-volume-requires-clause-purchases c =
    let m = c.put.auto.offers in
    names-of true c.requires.laid.sound c.requires.laid.falling (omega (arith, length-map c.args.offers.now offer_in))

pub renew-requires-clause-names : goal.renew-requires-clause-names
renew-requires-clause-names c =
    let n = c.match_named-volume.auto.offers in
    let m = c.put.auto.offers in
    places-named (offers_in c.args.offers.now) (c.as_slice-places.ensures.value ∙ c.requires.abroad.places) c.requires.laid.sound.few (omega (arith, length-map c.args.offers.now offer_in))

pub renew-requires-clause-same_length : goal.renew-requires-clause-same_length
renew-requires-clause-same_length c =
    let b = c.requires.abroad in
    sym (length-map c.take_from.new.offers offer_in)
    ∙ taken-length c.args.over.now c.requires.laid (c.as_slice-places.ensures.value ∙ b.places) (ap offers_in c.as_mut_slice-held.ensures.value ∙ b.offers) c.keep_matched.ensures.kept (group_in c.choose-group.result) c.take_from.ensures.taken

pub returns : goal.returns
returns c =
    let a = c.args in
    let l = c.requires.laid in
    let b = c.requires.abroad in
    let at = c.as_slice-places.ensures.value ∙ b.places in
    let there = ap offers_in c.as_mut_slice-held.ensures.value ∙ b.offers in
    let s =
    step-again a.over.now l at there c.keep_matched.ensures.kept (group_in c.choose-group.result) c.take_from.ensures.taken
    (ap offers_in c.put.ensures ∙ map-put offer_in c.as_slice-places.result.now c.take_from.new.offers a.offers.now)
    c.choose-group.ensures c.match_named-volume.ensures.matched in
    let n = c.keep_matched.auto.offers in
    let m = c.take_from.auto.offers in
    let k = c.renew.auto.abroad in
    record {
      stepped = s;
      abroad_after = record {
        places = places-after a.over.now l b.places there s.lowered;
        offers =
            ap offers_in (refilled a.abroad.now.offers.items c.renew.new.abroad (omega (arith, ap length c.as_mut_slice-held.ensures.value)))
            ∙ c.renew.ensures ∙ abroad-after a.over.now l at there s.lowered;
      };
    }

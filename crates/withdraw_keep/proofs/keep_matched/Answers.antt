use Rattle.std.proofs.Common.{◌∙◌, ap, arith}
use Rattle.std.proofs.lemmas.List.{get_or_default}
use Rattle.std.proofs.lemmas.List.Edits.{map_over_more}
use Rattle.hour_offers.specs.View.{offers_in}
use Rattle.hour_borders.specs.Directions.{over_in}
use Rattle.withdraw_keep.proofs.ChangeLaws.{all-written}
use Rattle.withdraw_keep.proofs.KeptLaws.{kept, kept-offers, kept-changed}
use Rattle.withdraw_keep.proofs.keep_matched.Goals as goal

pub loop-offer-preserved : goal.loop-offer-preserved
loop-offer-preserved c =
    let l = c.loop-offer in
    rw c.kept-offer.ensures (map_over_more (kept c.args.over.now) c.args.offers.now l.offers l.offer-index _ (omega arith) l.invariant (get_or_default l.offers l.offer-index _ _ (omega arith)))

pub returns : goal.returns
returns c =
    let l = c.loop-offer in
    let e = ap offers_in (l.invariant ∙ all-written (kept c.args.over.now) c.args.offers.now l.offer-index (omega arith)) ∙ kept-offers c.args.over.now c.args.offers.now in
    record { kept = e; changed = rw e (kept-changed (over_in c.args.over.now) (offers_in c.args.offers.now)) }

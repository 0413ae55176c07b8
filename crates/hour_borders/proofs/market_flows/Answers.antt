use Rattle.std.proofs.Common.{arith, rules, refl, ◌∙◌, ap, true}
use Rattle.rules.specs.Match.{Offer as RuleOffer}
use Rattle.rules.specs.Borders.{flow}
use Rattle.rules.proofs.ListLaws.{all_map}
use Rattle.rules.proofs.CrossingLaws.{at-le}
use Rattle.rules.proofs.ElementLaws.{all-every, all-unmapped}
use Rattle.hour_offers.specs.declared.Offer.{Offer}
use Rattle.hour_offers.specs.View.{holder_in, offer_in, offers_in}
use Rattle.hour_share.specs.declared.Amount.{Amount}
use Rattle.rules.specs.Units.{direction}
use Rattle.hour_borders.specs.Flows.{amount_of}
use Rattle.hour_borders.proofs.DirectionLaws.{own-small}
use Rattle.hour_borders.proofs.FlowLaws.{all-counted, flow-said, keep-all}
use Rattle.hour_borders.proofs.market_flows.Goals as goal

-- what the closure gives
abbrev given : Offer → Amount
given x = amount_of x.holder x.matched

pub flows-requires-clause-countable : goal.flows-requires-clause-countable
flows-requires-clause-countable c =
    all-counted given (λ x a h. search rules) (all_map (λ x r. record { direction = own-small x.holder.border x.holder.purchase; energy = omega (arith, at-le (holder_in x.holder) x.matched, r) }) (all-unmapped offer_in c.args.offers.now c.requires.in_range))

pub returns-clause-flows : goal.returns-clause-flows
returns-clause-flows c b e above below =
    let os = c.args.offers.now in
    c.flows.ensures.sums given (all-every (λ x a h. search rules) os) (direction b e)
    ∙ flow-said given offer_in (λ o. o.holder) (λ o. o.matched) (λ o. true) (λ x. refl) (λ x. refl) b e above below os
    ∙ ap (λ ys. flow (λ (o : RuleOffer). o.holder) (λ o. o.matched) b e ys) (keep-all (offers_in os))

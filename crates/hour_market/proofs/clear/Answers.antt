use mathlib.Core.Path.{◌∙◌, sym}
use Rattle.rules.proofs.ListLaws.{all_map}
use Rattle.hour_match.proofs.KeptLaws.{along-of}
use Rattle.hour_market.proofs.MarketLaws.{market-lowered, offered-small, matched-in-range, first-matched, first-sound, first-traded, first-laid, market-said, small}
use Rattle.hour_market.proofs.clear.Goals as goal

pub order-sales-requires-clause-priced : goal.order-sales-requires-clause-priced
order-sales-requires-clause-priced c = all_map (λ o h. h.price) c.requires.sound.in_range

pub order-purchases-requires-clause-priced : goal.order-purchases-requires-clause-priced
order-purchases-requires-clause-priced c = all_map (λ o h. h.price) c.requires.sound.in_range

pub match_offers-volume-requires-clause-energies : goal.match_offers-volume-requires-clause-energies
match_offers-volume-requires-clause-energies c = offered-small c.requires.sound

pub market_flows-market-requires-clause-in_range : goal.market_flows-market-requires-clause-in_range
market_flows-market-requires-clause-in_range c =
    let m = first-matched c.requires.sound c.deref.ensures.0 c.order-sales.ensures.ordered c.deref-2.ensures.0 c.order-purchases.ensures.ordered c.match_offers-volume.ensures.matched in
    matched-in-range (first-sound c.requires.sound m)

pub legacy_flows-legacy-requires-clause-in_range : goal.legacy_flows-legacy-requires-clause-in_range
legacy_flows-legacy-requires-clause-in_range c =
    let m = first-matched c.requires.sound c.deref.ensures.0 c.order-sales.ensures.ordered c.deref-2.ensures.0 c.order-purchases.ensures.ordered c.match_offers-volume.ensures.matched in
    matched-in-range (first-sound c.requires.sound m)

pub withdraw-end-requires-clause-laid : goal.withdraw-end-requires-clause-laid
withdraw-end-requires-clause-laid c =
    let m = first-matched c.requires.sound c.deref.ensures.0 c.order-sales.ensures.ordered c.deref-2.ensures.0 c.order-purchases.ensures.ordered c.match_offers-volume.ensures.matched in
    first-laid c.requires.sound m (c.deref-3.ensures.0 ∙ c.order-sales.ensures.ordered) (c.deref-4.ensures.0 ∙ c.order-purchases.ensures.ordered)

pub withdraw-end-requires-clause-traded : goal.withdraw-end-requires-clause-traded
withdraw-end-requires-clause-traded c =
    let m = first-matched c.requires.sound c.deref.ensures.0 c.order-sales.ensures.ordered c.deref-2.ensures.0 c.order-purchases.ensures.ordered c.match_offers-volume.ensures.matched in
    first-traded c.requires.sound m

pub market_flows-flows-requires-clause-in_range : goal.market_flows-flows-requires-clause-in_range
market_flows-flows-requires-clause-in_range c = matched-in-range c.withdraw-end.ensures.laid.sound

pub returns-clause-market_cleared : goal.returns-clause-market_cleared
returns-clause-market_cleared c = λ xs k.
    let m = first-matched c.requires.sound c.deref.ensures.0 c.order-sales.ensures.ordered c.deref-2.ensures.0 c.order-purchases.ensures.ordered c.match_offers-volume.ensures.matched in
    let w = c.withdraw-end.ensures in
    market-said m c.args.capacities.now c.maxima-maxima.result xs
    (c.maxima-maxima.ensures.split _ xs k c.market_flows-market.ensures.flows c.legacy_flows-legacy.ensures.flows) w _
    (c.price_of-price.ensures.price (along-of w.laid.sound (c.deref-5.ensures.0 ∙ c.order-sales.ensures.ordered ∙ sym (c.deref-3.ensures.0 ∙ c.order-sales.ensures.ordered) ∙ w.laid.rising)) w.traded)

pub maxima-maxima-requires-clause-capacities_small : goal.maxima-maxima-requires-clause-capacities_small
maxima-maxima-requires-clause-capacities_small c = small c.args.capacities.now c.told-capacities c.requires.capacities_small

pub returns-clause-lowered : goal.returns-clause-lowered
returns-clause-lowered c =
    let m = first-matched c.requires.sound c.deref.ensures.0 c.order-sales.ensures.ordered c.deref-2.ensures.0 c.order-purchases.ensures.ordered c.match_offers-volume.ensures.matched in
    market-lowered m c.withdraw-end.ensures.lowered

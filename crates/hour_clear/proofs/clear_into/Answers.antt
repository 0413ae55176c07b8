use Rattle.std.proofs.Common.{arith, refl, ap, ◌≡◌, ◌++◌, length, List, map, take, Some}
use mathlib.Core.Path.{◌∙◌, sym, subst}
use mathlib.Core.Bool.{true, false}
use lib.ListN.{length-take}
use Rattle.hour_offers.specs.declared.Offer.{Offer}
use Rattle.hour_offers.specs.declared.Execution.{Execution}
use Rattle.hour_offers.specs.View.{offers_in, executions_in}
use Rattle.hour_borders.specs.Flows.{ExecutionFlows}
use Rattle.hour_market.specs.Parts.{MarketCleared}
use Rattle.hour_offers.proofs.SoundLaws.{unmatched-of}
use Rattle.listed.specs.View.{listed}
use Rattle.hour.specs.View.{fresh_in, hour_in}
use Rattle.hour.specs.Ready.{is_in_range, figures_in_range}
use Rattle.hour.proofs.RangeLaws.{range-holds, offers-sound, executions-in-range, capacities-small}
use Rattle.hour_clear.proofs.ClearLaws.{enough-said, figures-said, listed-front}
use Rattle.hour_clear.proofs.clear_into.Goals as goal

pub execution_flows-before-requires-clause-in_range : goal.execution_flows-before-requires-clause-in_range
execution_flows-before-requires-clause-in_range c =
    rw (c.as_slice-then-in_range-2.ensures.value, c.uncut.ensures.uncut, c.as_slice-then-in_range.ensures.value) (executions-in-range (range-holds c.args.h.now (sym c.in_range.ensures ∙ c.if-in_range.true)))

pub clear-market-requires-clause-sound : goal.clear-market-requires-clause-sound
unfolding hour_in listed
clear-market-requires-clause-sound c =
    rw (c.fresh.ensures.fresh, c.as_slice.ensures.value) (unmatched-of (offers-sound (range-holds c.args.h.now (sym c.in_range.ensures ∙ c.if-in_range.true))))

pub clear-market-requires-clause-capacities_small : goal.clear-market-requires-clause-capacities_small
clear-market-requires-clause-capacities_small c w l = omega (arith, capacities-small (range-holds c.args.h.now (sym c.in_range.ensures ∙ c.if-in_range.true)) w)

pub cut-bilateral-requires-clause-in_range : goal.cut-bilateral-requires-clause-in_range
unfolding listed
cut-bilateral-requires-clause-in_range c =
    rw (c.uncut.ensures.uncut, c.as_slice-then-in_range.ensures.value) (executions-in-range (range-holds c.args.h.now (sym c.in_range.ensures ∙ c.if-in_range.true)))

pub returns-then-in_range : goal.returns-then-in_range
unfolding hour_in figures_in_range listed
returns-then-in_range c =
    let h = c.args.h.now in
    let passed : is_in_range h ≡ true = sym c.in_range.ensures ∙ c.if-in_range.true in
    let ranges = range-holds h passed in
    let before = c.execution_flows-before in
    let held = c.fresh.new.fresh in
    let own = c.uncut.new.uncut in
    let os = c.clear-market.new.offers in
    let xs = c.cut-bilateral.new.executions in
    let same : listed own ≡ listed h.executions = c.uncut.ensures.uncut ∙ c.as_slice-then-in_range.ensures.value in
    let offers : offers_in (listed held) ≡ (hour_in h).offers = c.fresh.ensures.fresh ∙ ap (λ (l : List Offer). map fresh_in l) c.as_slice.ensures.value in
    let flows : ExecutionFlows before.result (executions_in (listed h.executions)) = subst (λ (l : List Execution). ExecutionFlows before.result (executions_in l)) (c.as_slice-then-in_range-2.ensures.value ∙ same) before.ensures.flows in
    let m : MarketCleared (hour_in h).offers h.capacities (executions_in (listed h.executions)) (offers_in os) c.clear-market.result =
    subst (λ o. MarketCleared o h.capacities (executions_in (listed h.executions)) (offers_in os) c.clear-market.result) offers (c.clear-market.ensures.market_cleared (executions_in (listed h.executions)) flows) in
    let cut = rw same at (c.cut-bilateral.ensures.cut (offers_in os) c.clear-market.ensures.flows (rw same flows) (rw same (enough-said ranges os m))) in
    let long : held.count ≡ length os = omega (arith, c.clear-market.auto.offers, length-take held.count held.items, c.fresh.ensures.count, c.as_slice.ensures.fits) in
    let wide : own.count ≡ length xs = omega (arith, c.cut-bilateral.auto.executions, length-take own.count own.items, c.uncut.ensures.count, c.as_slice-then-in_range.ensures.fits) in
    let cuts = listed-front 128 xs _ own.count wide in
    let said =
    figures-said ranges os m _ (record { items = xs ++ _; count = own.count }) c.cut-bilateral.result (listed-front 128 os _ held.count long) (ap executions_in cuts ∙ cut) (omega arith) (omega arith) c.clear-market.ensures.flows (omega arith)
    (rw cuts (c.cut-bilateral.ensures.flows (rw same flows))) in
    rw passed (ap Some said)

pub returns-else-in_range : goal.returns-else-in_range
unfolding figures_in_range
returns-else-in_range c = let failed : is_in_range c.args.h.now ≡ false = sym c.in_range.ensures ∙ c.if-in_range.false in rw failed refl

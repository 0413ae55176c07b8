use Rattle.std.proofs.Common.{rules, map, sym, unwrap_or}
use mathlib.Core.Path.{ap, ◌∙◌}
use lib.Dec.{eqb}
use Rattle.rules.proofs.ElementLaws.{all-every}
use Rattle.rules.proofs.IndexLaws.{map-all}
use Rattle.rules.proofs.ListLaws.{all_map}
use Rattle.hour_offers.specs.declared.Offer.{Offer}
use Rattle.hour_offers.specs.declared.Execution.{Execution}
use Rattle.hour_offers.specs.View.{offer_in, execution_in}
use Rattle.hour.specs.declared.Figures.{Figures}
use Rattle.hour_borders.specs.Directions.{published_in}
use Rattle.listed.specs.View.{listed}
use Rattle.hour.specs.View.{figures_in, figures_as, padded}
use Rattle.session.specs.declared.Unit.{Unit}
use Rattle.session.specs.Laid.{pad}
use Rattle.clear_store.specs.Shown.{cleared_as}
use Rattle.clear_store.specs.declared.portions.Portion.{Portion}
use Rattle.clear_store.proofs.SumLaws.{kept-sum, maxima-as, cleared-same}
use Rattle.clear_store.proofs.SlotLaws.{of-holders}
use Rattle.clear_store.proofs.stored.Goals as goal

-- what an offer and an execution have for their units
abbrev of-offer : Offer → Portion
of-offer o = record { unit = o.holder.unit; energy = o.matched }

abbrev of-execution : Execution → Portion
of-execution x = record { unit = x.holder.unit; energy = x.energy }

pub of-matched-requires-clause-ranged : goal.of-matched-requires-clause-ranged
of-matched-requires-clause-ranged c = rw c.as_slice.ensures.value (all_map (λ x k p h. search rules) c.requires.1)

pub of-executed-requires-clause-ranged : goal.of-executed-requires-clause-ranged
of-executed-requires-clause-ranged c = rw c.as_slice-2.ensures.value (all_map (λ x k p h. search rules) c.requires.2)

pub returns : goal.returns
unfolding cleared_as figures_in figures_as padded
returns c = λ w.
    let f = c.args.figures.now in
    let us = c.args.units.now in
    let os = c.as_slice in
    let xs = c.as_slice-2 in
    cleared-same
    (ap (λ (g : Figures). g.market) w)
    (ap (λ (g : Figures). g.bilateral) w)
    (c.plain.ensures ∙ (ap (λ (g : Figures). map (λ o. unwrap_or o 0) g.maxima) w ∙ maxima-as (published_in f.maxima)))
    (c.by_unit.ensures ∙ ap (pad 64 0) (map-all _ _ (all-every (λ (u : Unit).
    c.of-matched.ensures of-offer (all-every (λ x p h. search rules) os.result.now) u.number
    ∙ rw os.ensures.value (of-holders of-offer u.number (listed f.offers) ∙ sym (kept-sum offer_in (λ o. o.matched) (λ o. eqb o.holder.unit u.number) (listed f.offers)))) us)))
    (c.by_unit-2.ensures ∙ ap (pad 64 0) (map-all _ _ (all-every (λ (u : Unit).
    c.of-executed.ensures of-execution (all-every (λ x p h. search rules) xs.result.now) u.number
    ∙ rw xs.ensures.value (of-holders of-execution u.number (listed f.executions) ∙ sym (kept-sum execution_in (λ x. x.energy) (λ x. eqb x.holder.unit u.number) (listed f.executions)))) us)))

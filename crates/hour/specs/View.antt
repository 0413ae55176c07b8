-- An hour as the code has it, read as the rules' hour; the rules' figures as the code has them, and read back.
use Rattle.std.specs.Prelude.{ℕ, ◌+◌, ◌/◌, ◌%◌, Bool, false, cond, ◌&&◌, List, [], ◌∷◌, map, eqb, Option, Some, None}
use Rattle.std.specs.Bool.{beq}
use Rattle.rules.specs.Lists.{from}
use Rattle.rules.specs.Match as M
use Rattle.rules.specs.Borders as B
use Rattle.rules.specs.Clearing as C
use Rattle.hour_offers.specs.declared.Holder.{Holder}
use Rattle.hour_offers.specs.declared.Offer.{Offer}
use Rattle.hour_offers.specs.declared.Execution.{Execution}
use Rattle.hour_offers.specs.View.{holder_in, offers_in, executions_in}
use Rattle.hour_borders.specs.Directions.{published_in}
use Rattle.session.specs.Image.{by_direction}
use Rattle.listed.specs.View.{listed, listed_as}
use Rattle.hour.specs.declared.Hour.{Hour}
use Rattle.hour.specs.declared.Figures.{Figures}

-- an offer before its hour is cleared, whatever stands as matched
abbrev pub fresh_in : Offer → M.Offer
fresh_in o = record { holder = holder_in o.holder; price = o.price; offered = o.offered; matched = 0 }

-- the rules' hour
unfoldable pub hour_in : Hour → C.Hour
hour_in h = record {
  capacities = published_in h.capacities;
  offers = map fresh_in (listed h.offers);
  executions = executions_in (listed h.executions);
}

-- the rules' records as the code has them
abbrev pub holder_as : M.Holder → Holder
holder_as x = record { number = x.number; unit = x.unit; border = x.border; purchase = x.purchase; legacy = x.legacy; loss = x.loss }

abbrev pub offer_as : M.Offer → Offer
offer_as o = record { holder = holder_as o.holder; price = o.price; offered = o.offered; matched = o.matched }

abbrev pub execution_as : B.Execution → Execution
execution_as x = record { holder = holder_as x.holder; energy = x.energy }

-- what stands behind an offer or an execution that is the last
abbrev pub no_holder : Holder
no_holder = record { number = 0; unit = 0; border = 0; purchase = false; legacy = false; loss = 0 }

abbrev pub no_offer : Offer
no_offer = record { holder = no_holder; price = 0; offered = 0; matched = 0 }

abbrev pub no_execution : Execution
no_execution = record { holder = no_holder; energy = 0 }

-- the energy of a direction among those of some directions
unfoldable pub energy_among : List B.Directed → ℕ → Bool → Option ℕ
energy_among [] border export = None
energy_among (d ∷ ds) border export = cond (eqb d.border border && beq d.export export) (Some d.energy) (energy_among ds border export)

-- the energies of some directions, each at its index
unfoldable pub laid_by_direction : List B.Directed → List (Option ℕ)
laid_by_direction ds = map (λ d. energy_among ds (d / 2 + 1) (eqb (d % 2) 0)) (from 0 8)

-- the rules' figures as clearing gives them, with nothing behind their lists; maxima and flows by direction
unfoldable pub figures_as : C.Figures → Figures
figures_as x = record {
  offers = listed_as 128 no_offer (map offer_as x.offers);
  executions = listed_as 128 no_execution (map execution_as x.executions);
  maxima = laid_by_direction x.maxima;
  market = by_direction (λ border export. B.flow (λ o. o.holder) (λ o. o.matched) border export x.offers);
  bilateral = by_direction (λ border export. B.flow (λ x. x.holder) (λ x. x.energy) border export x.executions);
  steps = x.steps;
  price = x.price;
}

-- figures with nothing behind their lists, whatever stood there
unfoldable pub padded : Figures → Figures
padded f = record f { offers = listed_as 128 no_offer (listed f.offers); executions = listed_as 128 no_execution (listed f.executions) }

-- read back
unfoldable pub figures_in : Figures → C.Figures
figures_in f = record {
  offers = offers_in (listed f.offers);
  executions = executions_in (listed f.executions);
  maxima = published_in f.maxima;
  steps = f.steps;
  price = f.price;
}

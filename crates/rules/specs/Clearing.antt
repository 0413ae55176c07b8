-- "Clearing, hour by hour": one hour, and the day.
use Rattle.std.specs.Prelude.{ℕ, Bool, true, false, not, List, [], ◌∷◌, ◌++◌, map, ltb}
use Rattle.std.proofs.Math.Option.{some, none}
use Rattle.rules.specs.Lists.{keep, sum_of, from, hourly}
use Rattle.rules.specs.Units.{Registered, Published, Capacities, unit_loss, capacity_of, unit_of}
use Rattle.rules.specs.Lodging.{Lodgement, energy_at}
use Rattle.rules.specs.Book.{Book, hours}
use Rattle.rules.specs.Closing.{accepted_at}
use Rattle.rules.specs.Match.{Holder, Offer, match_all, hour_price}
use Rattle.rules.specs.Borders.{Directed, Execution}
use Rattle.rules.specs.Split.{maximum_of}
use Rattle.rules.specs.Withdrawal.{withdraw}
use Rattle.rules.specs.Executions.{cut_all}

-- What an hour is cleared from: the published capacities, the accepted offers and executions, by rising lodging number.
pub record Hour : Type 0 where
  pub capacities : List Directed
  pub offers : List Offer
  pub executions : List Execution

-- What clearing gives in an hour: the offers as last matched, the executions after cuts, the market maxima, the count of
-- withdrawal steps and the price.
pub record Figures : Type 0 where
  pub offers : List Offer
  pub executions : List Execution
  pub maxima : List Directed
  pub steps : ℕ
  pub price : ℕ

-- first match, Split, withdrawal while a balance passes its maximum, cut of executions
unfoldable pub clear_hour : Hour → Figures
clear_hour x =
    let first = match_all x.offers in
    let maxima = map (maximum_of first x.executions) x.capacities in
    let final = withdraw maxima first in
    record {
      offers = final.offers;
      executions = cut_all final.offers x.capacities x.executions;
      maxima = maxima;
      steps = final.steps;
      price = hour_price final.offers;
    }

-- The hour as the book has it

-- by the units and the losses
unfoldable pub holder_of : List Registered → List ℕ → Lodgement → Holder
holder_of us losses l =
    let u = (unit_of us l.key.unit).unit in
    record { number = l.number; unit = u.number; border = u.border; purchase = u.purchase; legacy = u.legacy; loss = unit_loss losses u }

unfoldable pub offer_at : List Registered → List ℕ → ℕ → Lodgement → Offer
offer_at us losses h l = record { holder = holder_of us losses l; price = hourly l.prices h; offered = energy_at l h; matched = 0 }

unfoldable pub execution_at : List Registered → List ℕ → ℕ → Lodgement → Execution
execution_at us losses h l = record { holder = holder_of us losses l; energy = energy_at l h }

-- a direction's capacity in an hour. "Absent means no maximum"
unfoldable pub published : ℕ → ℕ → Bool → Published → List Directed
published h border export none = []
published h border export (some es) = record { border = border; export = export; energy = hourly es h } ∷ []

unfoldable pub border_capacities : Capacities → ℕ → ℕ → List Directed
border_capacities cs h border = published h border true (capacity_of cs border true) ++ published h border false (capacity_of cs border false)

-- the published capacities of the four borders in an hour
unfoldable pub capacities_at : Capacities → ℕ → List Directed
capacities_at cs h = border_capacities cs h 1 ++ (border_capacities cs h 2 ++ (border_capacities cs h 3 ++ border_capacities cs h 4))

-- an hour of the day, from the lodgements accepted at closing that name it
unfoldable pub hour_of_day : Book → List Lodgement → ℕ → Hour
hour_of_day b accepted h =
    let named = keep (λ l. ltb 0 (energy_at l h)) accepted in
    record {
      capacities = capacities_at b.capacities h;
      offers = map (offer_at b.units b.losses h) (keep (λ l. not l.key.execution) named);
      executions = map (execution_at b.units b.losses h) (keep (λ l. l.key.execution) named);
    }

unfoldable pub figures_at : Book → ℕ → Figures
figures_at b h = clear_hour (hour_of_day b (accepted_at b) h)

-- "The count of withdrawal steps, summed over the hours"
unfoldable pub day_steps : Book → ℕ
day_steps b = let accepted = accepted_at b in sum_of (λ h. (clear_hour (hour_of_day b accepted h)).steps) (from 1 (hours b))

unfoldable pub unfold_clearing : Unit {0}
unfolding clear_hour holder_of offer_at execution_at published border_capacities capacities_at hour_of_day figures_at day_steps
unfold_clearing = tt

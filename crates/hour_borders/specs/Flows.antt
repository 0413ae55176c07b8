-- What holders have by direction, and arrays of eight that carry the flows of the rules' lists.
use Rattle.std.specs.Prelude.{ℕ, ◌≤◌, ◌<◌, ◌≡◌, Bool, List, get_or, Some}
use Rattle.rules.specs.Units.{max_energy, direction}
use Rattle.rules.specs.Match.{Offer}
use Rattle.rules.specs.Borders.{Execution, at_border, flow}
use Rattle.rules.specs.Split.{legacy_flow}
use Rattle.hour_offers.specs.declared.Holder.{Holder}
use Rattle.hour_offers.specs.View.{holder_in}
use Rattle.hour_share.specs.declared.Amount.{Amount}
use Rattle.hour_borders.specs.Directions.{own_direction}

-- what an energy of a holder counts for at its border, in the direction in which it runs
abbrev pub amount_of : Holder → ℕ → Amount
amount_of h energy = record { direction = own_direction h.border h.purchase; energy = at_border (holder_in h) energy }

-- an amount that can be counted in its direction, if it has one
pub record Countable (a : Amount) : Type 0 where
  pub direction : (d : ℕ) → a.direction ≡ Some d → d < 8
  pub energy : a.energy ≤ max_energy

-- numbers two of which can be added
abbrev pub Small : List ℕ → Type 0
Small a = (d : ℕ) → get_or a d 0 < 2147483648

-- an array of eight has the market flows of a list of offers at the four borders
abbrev pub MarketFlows : List ℕ → List Offer → Type 0
MarketFlows f os = (b : ℕ) (e : Bool) → 0 < b → b < 5 → get_or f (direction b e) 0 ≡ flow (λ o. o.holder) (λ o. o.matched) b e os

-- the matched legacy flows
abbrev pub LegacyFlows : List ℕ → List Offer → Type 0
LegacyFlows f os = (b : ℕ) (e : Bool) → 0 < b → b < 5 → get_or f (direction b e) 0 ≡ legacy_flow b e os

-- the flows of a list of executions
abbrev pub ExecutionFlows : List ℕ → List Execution → Type 0
ExecutionFlows f xs = (b : ℕ) (e : Bool) → 0 < b → b < 5 → get_or f (direction b e) 0 ≡ flow (λ x. x.holder) (λ x. x.energy) b e xs

-- "Units and notices": units, their notices, the limits and the ceiling.
use Rattle.std.specs.Prelude.{ℕ, ◌+◌, ◌*◌, ◌-◌, ◌/◌, min, ◌≤◌, ◌≡◌, ◌↔◌, Bool, true, false, cond, not, ◌&&◌, ◌||◌, List, [], ◌∷◌, ◌++◌, map, ltb, eqb, length, get_or}
use Rattle.std.specs.Bool.{beq}
use Rattle.std.proofs.Math.Option.{Option, some, none}
use Rattle.rules.specs.Lists.{any, first, hourly}

-- "Energy is in tenths of MWh, 0 to 99,999."
abbrev pub max_energy : ℕ
max_energy = 99999

-- "Price is in hundredths of a euro per MWh, 0 to 18,030."
abbrev pub max_price : ℕ
max_price = 18030

-- K2: "Each border 1 to 4 gets a loss l, 0 to 2,000, in hundredths of a percent"
abbrev pub max_loss : ℕ
max_loss = 2000

-- numbers of units and agents, "each 1 to 65,535", and of an execution's contract
unfoldable pub bad_number : ℕ → Bool
bad_number n = eqb n 0 || ltb 65535 n

-- A unit. `purchase` is its side: false for a sale, true for a purchase.
pub record TradingUnit : Type 0 where
  pub number : ℕ
  pub agent : ℕ
  pub border : ℕ  -- 0 domestic, 1 France, 2 Andorra, 3 Portugal, 4 Morocco
  pub purchase : Bool
  pub maximum : ℕ
  pub legacy : Bool  -- "a legacy mark for contracts older than Law 54/97"
  pub rights : Bool  -- marked "with rights"

unfoldable pub domestic : TradingUnit → Bool
domestic u = eqb u.border 0

unfoldable pub french : TradingUnit → Bool
french u = eqb u.border 1

-- 5, range: "a value outside its range, or a legacy mark on a domestic unit"; K1: "a mark on a unit of another border as 5"
unfoldable pub bad_unit : TradingUnit → Bool
bad_unit u =
    bad_number u.number || bad_number u.agent || ltb 4 u.border || ltb max_energy u.maximum
    || (u.legacy && domestic u) || (u.rights && not (french u))

-- "An agent has one unit per border 1 to 4 and side (001); domestic units are not so limited." K1: "number 8 counts marked and unmarked units apart"
unfoldable pub is_second_to : TradingUnit → TradingUnit → Bool
is_second_to u v =
    not (domestic u) && eqb u.agent v.agent && eqb u.border v.border && beq u.purchase v.purchase
    && beq u.rights v.rights

-- a French unit of this agent and side
unfoldable pub french_of : ℕ → Bool → TradingUnit → Bool
french_of agent purchase u = french u && eqb u.agent agent && beq u.purchase purchase

-- "each is absent, or H energies": one direction of a capacity notice, by hour
abbrev pub Published : Type 0
Published = Option (List ℕ)

-- "A capacity notice covers the 4 borders in 2 directions": export and import of border 1, of border 2, of 3, of 4
abbrev pub Capacities : Type 0
Capacities = List Published

-- What is set for the lines at the borders: the capacities of the last notice, and the losses, by border; the first, of no border, is 0.
pub record Lines : Type 0 where
  pub capacities : Capacities
  pub losses : List ℕ

-- 5, range: a border outside 1 to 4, or a loss above 2,000
unfoldable pub bad_loss : ℕ → ℕ → Bool
bad_loss border l = eqb border 0 || ltb 4 border || ltb max_loss l

unfoldable pub loss_of : List ℕ → ℕ → ℕ
loss_of losses border = get_or losses border 0

-- "exporters there must bring the losses too": a purchase unit has the loss of its border, and a sale unit none
unfoldable pub unit_loss : List ℕ → TradingUnit → ℕ
unit_loss losses u = cond u.purchase (loss_of losses u.border) 0

-- "At a border a sale is an import, a purchase an export": a direction is a Bool, true for export
unfoldable pub direction : ℕ → Bool → ℕ
direction border export = (border - 1) * 2 + cond export 0 1

unfoldable pub capacity_of : Capacities → ℕ → Bool → Published
capacity_of cs border export = get_or cs (direction border export) none

-- 4, hour: "a notice not of H hours"; what is absent has no hours
unfoldable pub not_of_hours : ℕ → Published → Bool
not_of_hours H none = false
not_of_hours H (some es) = not (eqb (length es) H)

-- 5, range: an energy above 99,999
unfoldable pub bad_energies : List ℕ → Bool
bad_energies es = any (λ e. ltb max_energy e) es

unfoldable pub bad_published : Published → Bool
bad_published none = false
bad_published (some es) = bad_energies es

-- A registered unit with its last notice, "H available energies for one unit", and its agent's on its side, "H energies for one agent and side"
pub record Registered : Type 0 where
  pub unit : TradingUnit
  pub available : Option (List ℕ)
  pub rights : Option (List ℕ)  -- of a French unit, its agent's rights on its side, as last accepted (`RightsLast` of Rights.antt)

-- "without one, the maximum is available"
unfoldable pub available_at : Registered → ℕ → ℕ
available_at r h = elim r.available [
  | none ↦ r.unit.maximum
  | some es ↦ hourly es h
]

-- "without a notice they are 0"
unfoldable pub rights_at : Registered → ℕ → ℕ
rights_at r h = elim r.rights [
  | none ↦ 0
  | some es ↦ hourly es h
]

unfoldable pub both_at : ℕ → Published → Published → Option ℕ
both_at h none i = none
both_at h (some e) none = none
both_at h (some e) (some i) = some (hourly e h + hourly i h)

-- "at a border with both directions published, the sum of the two capacities". Not one direction's alone.
unfoldable pub border_sum : Capacities → ℕ → ℕ → Option ℕ
border_sum cs border h = cond (eqb border 0) none (both_at h (capacity_of cs border true) (capacity_of cs border false))

-- A limit of a unit: its number in the table and its energy in an hour, none where it does not apply.
pub record Limit : Type 0 where
  pub number : ℕ
  pub at : ℕ → Option ℕ

-- "its maximum (limit 10)"
unfoldable pub maximum_limit : Registered → Limit
maximum_limit r = record { number = 10; at = λ h. some r.unit.maximum }

-- "its available energy (limit 11)"
unfoldable pub available_limit : Registered → Limit
available_limit r = record { number = 11; at = λ h. some (available_at r h) }

-- the limits that a unit has of its own
unfoldable pub own_limits : Registered → List Limit
own_limits r = maximum_limit r ∷ available_limit r ∷ []

-- K2: "the border sum becomes (sum × (10,000 + l)) / 10,000 rounded down". (Document 002: "incrementada en el porcentaje
-- de pérdidas", increased by the percentage of the losses.)
unfoldable pub increased : ℕ → ℕ → ℕ
increased l s = s * (10000 + l) / 10000

-- "rounded down": the greatest number that is no more than the quotient (`increased-rounded` of proofs/CrossingLaws.antt)
abbrev pub IncreasedRounded : Type 0
IncreasedRounded = (l s n : ℕ) → (n ≤ increased l s) ↔ (n * 10000 ≤ s * (10000 + l))

-- where there is a sum
unfoldable pub increased_sum : ℕ → Option ℕ → Option ℕ
increased_sum l none = none
increased_sum l (some s) = some (increased l s)

-- "lessened by them, never below 0"
unfoldable pub lessened : ℕ → Option ℕ → Option ℕ
lessened n none = none
lessened n (some s) = some (s - n)

-- "at a border with both directions published, the sum of the two capacities (limit 12)"; K1: "An unmarked one's border sum is
-- lessened by them": an unmarked French one's, since others have no rights (`foreign` of Sound.antt). K2: "For a purchase unit the border sum becomes [..],
-- before rights come off"
unfoldable pub border_limit : Lines → Registered → Limit
border_limit ls r = record {
  number = 12;
  at = λ h. lessened (cond r.unit.rights 0 (rights_at r h)) (increased_sum (unit_loss ls.losses r.unit) (border_sum ls.capacities r.unit.border h));
}

-- what limit 12 is where the border sum is s
pub record BorderLimited (ls : Lines) (r : Registered) (h s : ℕ) : Type 0 where
  -- "For a purchase unit the border sum becomes (sum × (10,000 + l)) / 10,000 rounded down, before rights come off."
  pub purchase : r.unit.purchase ≡ true → (border_limit ls r).at h ≡ some (increased (loss_of ls.losses r.unit.border) s - cond r.unit.rights 0 (rights_at r h))
  -- a sale unit's stays
  pub sale : r.unit.purchase ≡ false → (border_limit ls r).at h ≡ some (s - cond r.unit.rights 0 (rights_at r h))

-- `border_limit` is that: the theorem `border-limited` of proofs/RightsLaws.antt
abbrev pub LimitsIncreased : Type 0
LimitsIncreased = (ls : Lines) (r : Registered) (h s : ℕ) → border_sum ls.capacities r.unit.border h ≡ some s → BorderLimited ls r h s

-- "A marked unit's ceiling takes in the agent's rights" (limit 15)
unfoldable pub rights_limit : Registered → Limit
rights_limit r = record { number = 15; at = λ h. cond r.unit.rights (some (rights_at r h)) none }

-- those that it has by its border, 15 "after 12"
unfoldable pub border_limits : Lines → Registered → List Limit
border_limits ls r = border_limit ls r ∷ rights_limit r ∷ []

-- a unit's limits, in the table's order
unfoldable pub limits : Lines → Registered → List Limit
limits ls r = own_limits r ++ border_limits ls r

unfoldable pub passes : ℕ → Option ℕ → Bool
passes e none = false
passes e (some limit) = ltb limit e

unfoldable pub least_of : ℕ → List (Option ℕ) → ℕ
least_of n [] = n
least_of n (none ∷ ls) = least_of n ls
least_of n (some l ∷ ls) = min l (least_of n ls)

-- "The ceiling of a unit in an hour is the least of" its limits there. ("Ceiling" is document 01's term.) K1: "The ceilings that agents are promised
-- now include this."
unfoldable pub ceiling : Lines → Registered → ℕ → ℕ
ceiling ls r h = least_of r.unit.maximum (map (λ l. l.at h) (limits ls r))

-- the entry of a unit number; of one that is not registered, a unit with nothing
unfoldable pub has_number : ℕ → Registered → Bool
has_number n r = eqb r.unit.number n

abbrev pub nobody : Registered
nobody = record { unit = record { number = 0; agent = 0; border = 0; purchase = false; maximum = 0; legacy = false; rights = false }; available = none; rights = none }

unfoldable pub unit_of : List Registered → ℕ → Registered
unit_of us n = first (has_number n) nobody us

unfoldable pub is_registered : List Registered → ℕ → Bool
is_registered us n = any (has_number n) us

unfoldable pub unfold_units : Unit {0}
unfolding bad_number domestic french bad_unit is_second_to french_of bad_loss loss_of unit_loss direction capacity_of not_of_hours bad_energies bad_published available_at rights_at both_at border_sum maximum_limit available_limit own_limits increased increased_sum lessened border_limit rights_limit border_limits limits passes least_of ceiling has_number unit_of is_registered
unfold_units = tt

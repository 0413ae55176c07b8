-- An hour's lodgements of both kinds together, by their units; and the tests of them.
use Rattle.std.specs.Prelude.{ℕ, ◌+◌, Bool, true, false, cond, not, ◌&&◌, ◌||◌, List, [], ◌∷◌, ◌++◌, map, length, ltb, leb, eqb, Option, Some, None}
use Rattle.std.specs.Bool.{beq}
use Rattle.std.proofs.Math.Option as O
use Rattle.rules.specs.Lists.{keep, any, sum_of}
use Rattle.rules.specs.Units.{max_energy, passes, increased_sum}
use Rattle.rules.specs.Match.{Offer}
use Rattle.rules.specs.Borders.{Directed, Execution}
use Rattle.rules.specs.Clearing as C
use Rattle.hour.specs.View.{energy_among}

-- Lodgements

-- an offer as an execution is: its holder and its energy
abbrev pub lodgement_of : Offer → Execution
lodgement_of o = record { holder = o.holder; energy = o.offered }

-- the hour's lodgements: its offers, then its executions
unfoldable pub lodgements_of : C.Hour → List Execution
lodgements_of x = map lodgement_of x.offers ++ x.executions

-- the energy of a unit's lodgements
unfoldable pub unit_energy : List Execution → ℕ → ℕ
unit_energy xs u = sum_of (λ x. x.energy) (keep (λ x. eqb x.holder.unit u) xs)

-- Limit 12

unfoldable pub both_of : Option ℕ → Option ℕ → O.Option ℕ
both_of None i = O.none
both_of (Some e) None = O.none
both_of (Some e) (Some i) = O.some (e + i)

-- "at a border with both directions published, the sum of the two capacities (limit 12)"
unfoldable pub line_in : List Directed → ℕ → O.Option ℕ
line_in cs border = both_of (energy_among cs border true) (energy_among cs border false)

-- Pairs

-- an element and a later one of which a test holds
unfoldable pub any_pair : {A : Type 0} → (A → A → Bool) → List A → Bool
any_pair p [] = false
any_pair p (x ∷ xs) = any (p x) xs || any_pair p xs

-- those that have no later one of which a test holds with them: of equal ones the last
unfoldable pub last_ones : {A : Type 0} → (A → A → Bool) → List A → List A
last_ones p [] = []
last_ones p (x ∷ xs) = cond (any (p x) xs) (last_ones p xs) (x ∷ last_ones p xs)

unfoldable pub same_unit : Execution → Execution → Bool
same_unit x y = eqb x.holder.unit y.holder.unit

-- one unit's number with two borders, sides or marks
unfoldable pub other_unit : Execution → Execution → Bool
other_unit x y =
    eqb x.holder.unit y.holder.unit && (not (eqb x.holder.border y.holder.border) || (not (beq x.holder.purchase y.holder.purchase) || not (beq x.holder.legacy y.holder.legacy)))

-- one border and side with two losses
unfoldable pub other_loss : Execution → Execution → Bool
other_loss x y = eqb x.holder.border y.holder.border && (beq x.holder.purchase y.holder.purchase && not (eqb x.holder.loss y.holder.loss))

-- two lodgements that no session has: of one number, or with what one unit, or one border and side, does not have twice
unfoldable pub clash : Execution → Execution → Bool
clash x y = eqb x.holder.number y.holder.number || (other_unit x y || other_loss x y)

-- an energy that no unit of a border and a loss has: above the largest maximum, or above limit 12
unfoldable pub beyond : List Directed → ℕ → ℕ → ℕ → Bool
beyond cs border loss energy = ltb max_energy energy || passes energy (increased_sum loss (line_in cs border))

-- the energy of a lodgement's unit
unfoldable pub is_over : List Directed → List Execution → Execution → Bool
is_over cs xs x = beyond cs x.holder.border x.holder.loss (unit_energy xs x.holder.unit)

-- 64 units at most, each with one border, side and mark, one loss for a border's purchases, and no more energy than a unit can have
unfoldable pub lodgements_possible : List Directed → List Execution → Bool
lodgements_possible cs xs = leb (length (last_ones same_unit xs)) 64 && (not (any_pair clash xs) && not (any (is_over cs xs) xs))

-- The tests of an hour's parts.
use Rattle.std.specs.Prelude.{ℕ, Bool, true, not, ◌&&◌, ◌||◌, List, [], ◌∷◌, ltb, leb, eqb, map, Option, Some, None}
use Rattle.std.specs.List.{list_all}
use Rattle.rules.specs.Units.{max_energy, max_price, max_loss, bad_number}
use Rattle.rules.specs.Match as R
use Rattle.rules.specs.Borders as B
use Rattle.hour_offers.specs.declared.Offer.{Offer}
use Rattle.hour_offers.specs.declared.Execution.{Execution}
use Rattle.hour_offers.specs.View.{offer_in, execution_in}

-- a number within a range
unfoldable pub within : ℕ → ℕ → ℕ → Bool
within least most x = leb least x && leb x most

-- no loss, or that of a purchase at a border
unfoldable pub loss_within : R.Holder → Bool
loss_within x = eqb x.loss 0 || (x.purchase && (not (eqb x.border 0) && leb x.loss max_loss))

-- a lodging number, a unit's number, its border, its legacy mark and its loss that a session has together, borders going from `first` to 4
unfoldable pub holder_within : ℕ → R.Holder → Bool
holder_within first x =
    not (bad_number x.number) && not (bad_number x.unit) && within first 4 x.border && not (x.legacy && eqb x.border 0) && loss_within x

-- the same, and a price and an energy that a lodgement has in an hour that it names
unfoldable pub offer_within : R.Offer → Bool
offer_within o = holder_within 0 o.holder && leb o.price max_price && within 1 max_energy o.offered

unfoldable pub execution_within : B.Execution → Bool
execution_within x = holder_within 1 x.holder && within 1 max_energy x.energy

-- numbers of which each is above the one before
unfoldable pub rises : List ℕ → Bool
rises [] = true
rises (n ∷ []) = true
rises (n ∷ m ∷ ms) = ltb n m && rises (m ∷ ms)

-- none, or one within its range
unfoldable pub capacity_within : Option ℕ → Bool
capacity_within None = true
capacity_within (Some energy) = leb energy max_energy

-- by rising lodging number, each within its ranges
unfoldable pub lodged_within : {A : Type 0} → (A → Bool) → (A → ℕ) → List A → Bool
lodged_within is_within number xs = list_all is_within xs && rises (map number xs)

abbrev pub offer_number : Offer → ℕ
offer_number o = o.holder.number

abbrev pub execution_number : Execution → ℕ
execution_number x = x.holder.number

abbrev pub offers_within : List Offer → Bool
offers_within os = lodged_within (λ o. offer_within (offer_in o)) offer_number os

abbrev pub executions_within : List Execution → Bool
executions_within xs = lodged_within (λ x. execution_within (execution_in x)) execution_number xs

-- each published capacity is within its range
unfoldable pub capacities_within : List (Option ℕ) → Bool
capacities_within cs = list_all capacity_within cs

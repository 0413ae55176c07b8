-- "When the gate says no": the table's rows and the one that is given.
use Rattle.std.specs.Prelude.{ℕ, suc, Bool, cond, not, List, [], ◌∷◌, eqb}
use Rattle.std.proofs.Math.Option.{Option, some, none}
use Rattle.rules.specs.Lists.{lowest}

-- A row of the table as it stands for one call: its number, whether it applies and, for a limit passed (10, 11, 12, 15), the hour.
pub record Row : Type 0 where
  pub number : ℕ
  pub hour : ℕ
  pub applies : Bool

-- "otherwise the hour is 0"
unfoldable pub row : ℕ → Bool → Row
row n b = record { number = n; hour = 0; applies = b }

-- "for 10 to 12 the lowest hour in which that limit is passed", of hours 1 to H; K1: 15 too ("lowest hour given")
unfoldable pub limit_row : ℕ → ℕ → (ℕ → Bool) → Row
limit_row n H passed = record { number = n; hour = lowest passed H; applies = not (eqb (lowest passed H) 0) }

-- Rows stand in the table's order, and the first that applies is given. (Document 01: "The lowest applicable number is given"; K1 has instead: "Places, not
-- numbers, now give the order.")
unfoldable pub first_row : List Row → Option Row
first_row [] = none
first_row (r ∷ rs) = cond r.applies (some r) (first_row rs)

-- The table's order: its numbers, row by row. K1: 15 stands "after 12".
unfoldable pub table_order : List ℕ
table_order = 1 ∷ 2 ∷ 3 ∷ 4 ∷ 5 ∷ 6 ∷ 7 ∷ 8 ∷ 9 ∷ 10 ∷ 11 ∷ 12 ∷ 15 ∷ 13 ∷ 14 ∷ []

-- the place of a number in an order, counted from 1; after the last for one that is not there
unfoldable pub place_in : List ℕ → ℕ → ℕ
place_in [] n = 1
place_in (m ∷ ms) n = cond (eqb m n) 1 (suc (place_in ms n))

-- a row's place in the table
unfoldable pub place_of : Row → ℕ
place_of r = place_in table_order r.number

-- What is answered where a value is asked for: a refusal (number and hour), or the value.
pub data Outcome (A : Type 0) : Type 0 where
  refused : ℕ → ℕ → Outcome A
  given : A → Outcome A

unfoldable pub unless : {A : Type 0} → Option Row → A → Outcome A
unless none a = given a
unless (some r) a = refused r.number r.hour

-- the value, unless a row applies
unfoldable pub outcome : {A : Type 0} → List Row → A → Outcome A
outcome rows a = unless (first_row rows) a

unfoldable pub unfold_refusals : Unit {0}
unfolding row limit_row first_row table_order place_in place_of unless outcome
unfold_refusals = tt

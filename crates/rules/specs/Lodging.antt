-- "Lodging and annulling": keys, standing lodgements, hiding, and what a lodgement is judged by.
use Rattle.std.specs.Prelude.{ℕ, ◌+◌, Bool, true, false, cond, not, ◌&&◌, List, [], ◌∷◌, map, ltb, eqb}
use Rattle.std.specs.Bool.{beq}
use Rattle.rules.specs.Lists.{keep, any, sum_of, from, hourly}
use Rattle.rules.specs.Refusals.{Row, limit_row}
use Rattle.rules.specs.Units.{TradingUnit, Registered, Limit, Lines, limits, maximum_limit, passes, domestic}
use Rattle.rules.specs.Message.{Key, Fields, map_width, names}

-- A standing lodgement. Energies and prices are by hour, 25 of each, 0 in an hour that it does not name.
pub record Lodgement : Type 0 where
  pub key : Key
  pub number : ℕ  -- the lodging number
  pub energies : List ℕ
  pub prices : List ℕ

unfoldable pub energy_at : Lodgement → ℕ → ℕ
energy_at l h = hourly l.energies h

-- Hiding

-- two keys that agree but for the default mark
unfoldable pub same_but_default : Key → Key → Bool
same_but_default a b = beq a.execution b.execution && eqb a.unit b.unit && eqb a.contract b.contract

unfoldable pub same_key : Key → Key → Bool
same_key a b = same_but_default a b && beq a.default b.default

-- "A normal lodgement, while it stands, hides the default one that agrees with it in the rest of the key"
unfoldable pub hides : Key → Key → Bool
hides a b = same_but_default a b && not a.default && b.default

unfoldable pub is_hidden : List Lodgement → Lodgement → Bool
is_hidden standing l = any (λ k. hides k.key l.key) standing

-- "a hidden one [..] enters no sum"
unfoldable pub unhidden : List Lodgement → List Lodgement
unhidden standing = keep (λ l. not (is_hidden standing l)) standing

unfoldable pub stands : List Lodgement → Key → Bool
stands standing k = any (λ l. same_key l.key k) standing

-- the lodgements without "any lodgement of its key"
unfoldable pub without : Key → List Lodgement → List Lodgement
without k standing = keep (λ l. not (same_key l.key k)) standing

-- Judging

-- "a normal offer's energy plus that of all unhidden executions of its unit", "a normal execution's plus the unit's
-- unhidden offer [..], other executions not counted": the unit's unhidden lodgements of the other kind
unfoldable pub beside : List Lodgement → Key → List Lodgement
beside standing k = keep (λ l. eqb l.key.unit k.unit && not (beq l.key.execution k.execution)) (unhidden standing)

-- the energy by which a message is judged in an hour: "A default lodgement is judged by its own energy"
unfoldable pub judged_at : List Lodgement → Fields → ℕ → ℕ
judged_at standing m h = hourly m.energies h + cond m.key.default 0 (sum_of (λ l. energy_at l h) (beside standing m.key))

-- "against limits 10, 11, 12", since K1 against 15 too, a default one "against 10 only"
unfoldable pub judged_by : Lines → Registered → Bool → List Limit
judged_by ls r true = maximum_limit r ∷ []
judged_by ls r false = limits ls r

-- In an hour that is named, an energy passes a limit. (A named hour is one with energy: named energies are 1 to 99,999.)
unfoldable pub passed_at : List ℕ → (ℕ → ℕ) → Limit → ℕ → Bool
passed_at named load l h = not (eqb (hourly named h) 0) && passes (load h) (l.at h)

-- a row of the table for each limit, with "the lowest hour in which that limit is passed"
unfoldable pub limit_rows : ℕ → List ℕ → (ℕ → ℕ) → List Limit → List Row
limit_rows H named load ls = map (λ l. limit_row l.number H (passed_at named load l)) ls

-- 4, hour: "hour outside 1 to H": the map names an hour beyond H
unfoldable pub names_beyond : ℕ → ℕ → Bool
names_beyond H map = any (λ h. ltb H h && names map h) (from 1 map_width)

-- 6, unit: "domestic for an execution". "Executions need a border unit."
unfoldable pub domestic_execution : Key → TradingUnit → Bool
domestic_execution k u = k.execution && domestic u

unfoldable pub unfold_lodging : Unit {0}
unfolding energy_at same_but_default same_key hides is_hidden unhidden stands without beside judged_at judged_by passed_at limit_rows names_beyond domestic_execution
unfold_lodging = tt

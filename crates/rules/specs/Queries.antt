-- "Queries": verdicts after closing, figures after clearing, and their refusals.
use Rattle.std.specs.Prelude.{ℕ, Bool, cond, not, ◌&&◌, ◌||◌, List, [], ◌∷◌, ltb, eqb, ℤ, pos}
use Rattle.std.specs.Bool.{beq}
use Rattle.rules.specs.Lists.{keep, any, sum_of}
use Rattle.rules.specs.Refusals.{Row, row, Outcome, outcome}
use Rattle.rules.specs.Hours.{not_an_hour}
use Rattle.rules.specs.Units.{bad_number, is_registered}
use Rattle.rules.specs.Book.{Book, hours}
use Rattle.rules.specs.Closing.{Verdict, judgements, verdict_among}
use Rattle.rules.specs.Borders.{Directed, market_balance, execution_balance}
use Rattle.rules.specs.Executions.{bilateral_maximum}
use Rattle.rules.specs.Clearing.{figures_at, capacities_at}

pub data Query : Type 0 where
  verdict : ℕ → Query  -- of a lodging number
  matched : ℕ → ℕ → Query  -- of a unit in an hour
  executed : ℕ → ℕ → Query  -- of a unit in an hour
  market : ℕ → ℕ → Query  -- the final market balance of a border in an hour
  bilateral : ℕ → ℕ → Query  -- the final balance of its executions
  market_max : ℕ → Bool → ℕ → Query  -- of a border and direction (true for export) in an hour
  bilateral_max : ℕ → Bool → ℕ → Query
  price : ℕ → Query  -- of an hour

-- what a query is answered with: a verdict, or a number, absent for a maximum without capacity
pub data Shown : Type 0 where
  judged : Verdict → Shown
  number : ℤ → Shown
  absent : Shown

-- Refusals, in the table's order

-- 2, gate: "a figure before clearing"; 4, hour: "hour outside 1 to H"
unfoldable pub figure_rows : Book → ℕ → List Row → List Row
figure_rows b h rows = row 2 (not b.cleared) ∷ row 4 (not_an_hour (hours b) h) ∷ rows

-- 5, range, and 6, unit: "unregistered"
unfoldable pub unit_rows : Book → ℕ → List Row
unit_rows b u = row 5 (bad_number u) ∷ row 6 (not (is_registered b.units u)) ∷ []

-- 5, range: "a border 1 to 4"
unfoldable pub border_rows : ℕ → List Row
border_rows border = row 5 (eqb border 0 || ltb 4 border) ∷ []

unfoldable pub is_standing : Book → ℕ → Bool
is_standing b n = any (λ l. eqb l.number n) b.standing

-- of a verdict 2, gate: "a verdict before closing"; 13, absent: "lodging number (0 too) not standing at closing"
unfoldable pub query_rows : Book → Query → List Row
query_rows b (verdict n) = row 2 (not b.closed) ∷ row 13 (not (is_standing b n)) ∷ []
query_rows b (matched u h) = figure_rows b h (unit_rows b u)
query_rows b (executed u h) = figure_rows b h (unit_rows b u)
query_rows b (market border h) = figure_rows b h (border_rows border)
query_rows b (bilateral border h) = figure_rows b h (border_rows border)
query_rows b (market_max border export h) = figure_rows b h (border_rows border)
query_rows b (bilateral_max border export h) = figure_rows b h (border_rows border)
query_rows b (price h) = figure_rows b h []

-- Figures. K2: a unit's are energies, a border's balances and maxima border figures.

-- "a unit's matched (by the hour's last match, as the price) [..] energy in an hour"
unfoldable pub matched_at : Book → ℕ → ℕ → ℕ
matched_at b u h = sum_of (λ o. o.matched) (keep (λ o. eqb o.holder.unit u) (figures_at b h).offers)

-- "and executed energy": after cuts
unfoldable pub executed_at : Book → ℕ → ℕ → ℕ
executed_at b u h = sum_of (λ x. x.energy) (keep (λ x. eqb x.holder.unit u) (figures_at b h).executions)

-- the figure of a border and direction among those of the published ones
unfoldable pub directed_at : (Directed → ℤ) → ℕ → Bool → List Directed → Shown
directed_at f border export [] = absent
directed_at f border export (d ∷ ds) =
    cond (eqb d.border border && beq d.export export) (number (f d)) (directed_at f border export ds)

unfoldable pub shown : Book → Query → Shown
shown b (verdict n) = judged (verdict_among (judgements b) n)
shown b (matched u h) = number (pos (matched_at b u h))
shown b (executed u h) = number (pos (executed_at b u h))
shown b (market border h) = number (market_balance border (figures_at b h).offers)
shown b (bilateral border h) = number (execution_balance border (figures_at b h).executions)
shown b (market_max border export h) = directed_at (λ m. pos m.energy) border export (figures_at b h).maxima
shown b (bilateral_max border export h) =
    directed_at (bilateral_maximum (figures_at b h).offers) border export (capacities_at b.capacities h)
shown b (price h) = number (pos (figures_at b h).price)

-- a query's answer: the figure, or its refusal
unfoldable pub query : Book → Query → Outcome Shown
query b q = outcome (query_rows b q) (shown b q)

unfoldable pub unfold_queries : Unit {0}
unfolding figure_rows unit_rows border_rows is_standing query_rows matched_at executed_at directed_at shown query
unfold_queries = tt

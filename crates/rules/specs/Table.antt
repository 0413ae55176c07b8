-- "When the gate says no", of everything that the gate can be asked: its rows stand in the table's order, it is refused by the first of them that
-- applies, and it is refused where one applies.
use Rattle.std.specs.Prelude.{ℕ, ◌≤◌, ◌<◌, ◌≡◌, true, false, List, [], ◌∷◌, length}
use Rattle.rules.specs.Lists.{All, Some, Pairwise}
use Rattle.rules.specs.Refusals.{Row, table_order, place_of, refused}
use Rattle.rules.specs.Hours.{Date, Clock, date_row, hours_at, clock_rows, clock_at, hour_rows, hour_at}
use Rattle.rules.specs.Units.{Registered, Lines, limits}
use Rattle.rules.specs.Message.{Fields, read_rows, read, write_rows, write}
use Rattle.rules.specs.Lodging.{limit_rows}
use Rattle.rules.specs.Book.{Book}
use Rattle.rules.specs.Queries.{Query, query_rows, query}
use Rattle.rules.specs.DayBook.{Call, refusal, rows_of, effect, opening}

-- rows in the table's order: each is one of the table's, and stands there after those that it follows here
pub record Ordered (rows : List Row) : Type 0 where
  pub known : All (λ r. place_of r ≤ length table_order) rows
  pub rising : Pairwise (λ q r. place_of q < place_of r) rows

-- Refused by a number and its hour: they are of a row that applies, and no row that applies stands before it in the table. (Document 01: "The lowest
-- applicable number is given"; K1 has instead: "Places, not numbers, now give the order.")
pub record RefusedBy (rows : List Row) (n h : ℕ) : Type 0 where
  pub given : Row
  pub number : given.number ≡ n
  pub hour : given.hour ≡ h
  pub among : Some (λ r. r ≡ given) rows
  pub applies : given.applies ≡ true
  pub first : All (λ r. r.applies ≡ true → place_of given ≤ place_of r) rows

-- a call or query with its rows; `Refused n h` says that it is refused by number n and hour h
pub record Refuses (rows : List Row) (Refused : ℕ → ℕ → Type 0) : Type 0 where
  pub ordered : Ordered rows
  pub first : (n h : ℕ) → Refused n h → RefusedBy rows n h
  -- and what is not refused breaks no rule
  pub unrefused : ((n h : ℕ) → Refused n h → ⊥) → All (λ r. r.applies ≡ false) rows

pub record InTableOrder : Type 0 where
  -- opening, and the questions about a date
  pub opens : (d : Date) → Refuses (date_row d ∷ []) (λ n h. (opening d).answer ≡ refusal n h)
  pub hours : (d : Date) → Refuses (date_row d ∷ []) (λ n h. hours_at d ≡ refused n h)
  pub clocks : (d : Date) (hour : ℕ) → Refuses (clock_rows d hour) (λ n h. clock_at d hour ≡ refused n h)
  pub names : (d : Date) (c : Clock) → Refuses (hour_rows d c) (λ n h. hour_at d c ≡ refused n h)
  -- reader and writer
  pub reading : (bytes : List ℕ) → Refuses (read_rows bytes) (λ n h. read bytes ≡ refused n h)
  pub writing : (room : ℕ) (m : Fields) → Refuses (write_rows room m) (λ n h. write room m ≡ refused n h)
  -- "A call that breaks a rule is refused", and so is a query
  pub calls : (b : Book) (c : Call) → Refuses (rows_of b c) (λ n h. (effect b c).answer ≡ refusal n h)
  pub queries : (b : Book) (q : Query) → Refuses (query_rows b q) (λ n h. query b q ≡ refused n h)
  -- a verdict's limits ("chosen as below"): `Chosen` of specs/Demands.antt says that the first is given
  pub verdicts : (H : ℕ) (named : List ℕ) (load : ℕ → ℕ) (ls : Lines) (r : Registered) → Ordered (limit_rows H named load (limits ls r))

-- The rows that a message's fields are judged by, and the room that a message not refused by them finds.
use Rattle.std.specs.Prelude.{ℕ, ◌<◌, ◌≡◌, Bool, true, ◌&&◌, ◌||◌, List, ◌∷◌, leb, is_none}
use Rattle.std.proofs.Math.Option.{Option, some}
use Rattle.std.specs.declared.option.Option as O
use Rattle.std.specs.declared.result.Result.{Result}
use Rattle.std.specs.declared.result.Result.TheVariants.{Ok, Err}
use Rattle.rules.specs.Rows.{number_of}
use Rattle.rules.specs.declared.row.Row as Code
use Rattle.rules.specs.Refusals.{Row, row, first_row}
use Rattle.rules.specs.Units as U
use Rattle.rules.specs.Message.{Fields, bad_map, bad_fields}
use Rattle.rules.specs.Lodging.{judged_at, judged_by, limit_rows, names_beyond}
use Rattle.rules.specs.Book.{Book, hours, lines_of}
use Rattle.rules.specs.DayBook.{bad_holder, full}
use Rattle.message.specs.View.{fields_in}
use Rattle.message.specs.declared.Fields as M
use Rattle.answer.specs.declared.Refusal.{Refusal}
use Rattle.session.specs.Image.{image}
use Rattle.session.specs.Parts.{Within, said, given_by}
use Rattle.session.specs.declared.Key.{Key}
use Rattle.session.specs.declared.Session.{Session}
use Rattle.lodge_keys.specs.Keys.{key_index, left_of}

-- an index and a number are free once the key's lodgement is dropped
pub record Room (s : Session) (k : Key) : Type 0 where
  pub within : Within s
  pub index : left_of s.standing (key_index s k) < 128
  pub number : s.last < 65535

-- "128 lodgements and none of this key; 65,535 accepted", by the index of the key's lodgement
unfoldable pub full_at : ℕ → ℕ → O.Option ℕ → Bool
full_at n last at = (leb 128 n && is_none at) || leb 65535 last

-- the table's rows from 4 to 9, energies up to `top`, and those after them
unfoldable pub field_rows : Book → ℕ → Fields → List Row → List Row
field_rows b top m rest =
    row 4 (bad_map m.map || names_beyond (hours b) m.map) ∷ row 5 (bad_fields top m) ∷ row 6 (bad_holder b m.key) ∷ row 9 (full b m.key) ∷ rest

-- those are limits 10 to 12 and 15
unfoldable pub last_rows : Book → Fields → List Row
last_rows b m = limit_rows (hours b) m.energies (judged_at b.standing m) (judged_by (lines_of b) (U.unit_of b.units m.key.unit) m.key.default)

-- the row that a judgement refuses by, or the first of those after it
abbrev pub or_later : {A : Type 0} → List Row → Result A Code.Row → Option Row
or_later rest = elim [
  | Ok a ↦ first_row rest
  | Err e ↦ some (row (number_of e) true)
]

-- the first four give the row, where one of them applies
abbrev pub GivesRow : {A : Type 0} → Session → ℕ → M.Fields → Result A Code.Row → Type 0
GivesRow s top m r = (b : Book) → s ≡ image b → (rest : List Row) → first_row (field_rows b top (fields_in m) rest) ≡ or_later rest r

-- a judgement of them by the limits
abbrev pub JudgesLimits : Session → Fields → Result (Unit {0}) Refusal → Type 0
JudgesLimits s m j = (b : Book) → s ≡ image b → said j ≡ given_by (first_row (last_rows b m))

-- What the parts of a query promise to each other: of use inside the crates of the queries only.
use Rattle.std.specs.Prelude.{ℕ, ◌-◌, ◌≤◌, ◌<◌, ◌≡◌, true}
use Rattle.std.specs.declared.result.Result.{Result}
use Rattle.rules.specs.declared.row.Row as Code
use Rattle.rules.specs.Refusals.{first_row}
use Rattle.rules.specs.Book.{Book}
use Rattle.rules.specs.Queries.{Query, query_rows, shown}
use Rattle.answer.specs.Told.{value_told}
use Rattle.answer.specs.declared.Response.{Response}
use Rattle.session.specs.Image.{image, Sound}
use Rattle.session.specs.Parts.{Within, refused_by, by_row, given_by}
use Rattle.session.specs.declared.Session.{Session}

-- a judgement is the first of the query's rows that applies
abbrev pub Judges : {A : Type 0} → Session → Query → Result A Code.Row → Type 0
Judges s q j = (b : Book) → Sound b → s ≡ image b → refused_by by_row j ≡ given_by (first_row (query_rows b q))

-- what is shown is the query's, where none of its rows applies
abbrev pub Shows : Session → Query → Response → Type 0
Shows s q r = (b : Book) → Sound b → s ≡ image b → r ≡ value_told (shown b q)

-- what no row refuses: an hour of a cleared day, whose figures have this index
pub record HourFits (s : Session) (hour at : ℕ) : Type 0 where
  pub within : Within s
  pub cleared : s.cleared ≡ true
  pub low : 0 < hour
  pub high : hour ≤ s.hours
  pub index : at ≡ hour - 1

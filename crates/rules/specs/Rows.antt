-- The table's number and word of a row that the code names.
use Rattle.std.specs.Prelude.{ℕ, ◌≡◌, ◌≤◌, ◌<◌, List, Result, MatchResult, codes}
use Rattle.rules.specs.declared.row.Row.{Row}
use Rattle.rules.specs.declared.row.UnknownRow.{UnknownRow}
use Rattle.rules.specs.declared.row.Row.TheVariants.{Date, Gate, Form, Hour, Range, Unit, Taken, Second, Full, Maximum, Available, Border, Absent, Short, Rights}

abbrev pub number_of : Row → ℕ
number_of = elim [
  | Date ↦ 1
  | Gate ↦ 2
  | Form ↦ 3
  | Hour ↦ 4
  | Range ↦ 5
  | Unit ↦ 6
  | Taken ↦ 7
  | Second ↦ 8
  | Full ↦ 9
  | Maximum ↦ 10
  | Available ↦ 11
  | Border ↦ 12
  | Absent ↦ 13
  | Short ↦ 14
  | Rights ↦ 15
]

abbrev pub word_of : Row → List ℕ
word_of = elim [
  | Date ↦ codes "date"
  | Gate ↦ codes "gate"
  | Form ↦ codes "form"
  | Hour ↦ codes "hour"
  | Range ↦ codes "range"
  | Unit ↦ codes "unit"
  | Taken ↦ codes "taken"
  | Second ↦ codes "second"
  | Full ↦ codes "full"
  | Maximum ↦ codes "maximum"
  | Available ↦ codes "available"
  | Border ↦ codes "border"
  | Absent ↦ codes "absent"
  | Short ↦ codes "short"
  | Rights ↦ codes "rights"
]

-- the row with this number, or the number where the table has no such row
abbrev pub RowOf : ℕ → Result Row UnknownRow → Type 0
RowOf n r = MatchResult r (λ row. number_of row ≡ n) (λ e. (e.0 ≡ n) × (1 ≤ n → 15 < n))

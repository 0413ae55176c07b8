-- A refusal as the code has it: the table's row by its word.
use Rattle.rules.specs.declared.row.Row.{Row}
use Rattle.answer.specs.declared.Refusal.{Refusal}

-- "otherwise the hour is 0"
abbrev pub of_row : Row → Refusal
of_row row = record { row = row; hour = 0 }

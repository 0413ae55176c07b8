-- How the crate's structs say what the rules' definitions say.
use Rattle.std.specs.Prelude.{ℕ, false, List, length, replicate, Result, Ok, Err}
use Rattle.rules.specs.Refusals.{Outcome, refused, given}
use Rattle.rules.specs.Message as M
use Rattle.rules.specs.Rows.{number_of}
use Rattle.rules.specs.declared.row.Row.{Row}
use Rattle.message.specs.declared.Fields.{Fields}
use Rattle.message.specs.declared.Reading.{Reading}
use Rattle.message.specs.declared.Written.{Written}

abbrev pub fields_in : Fields → M.Fields
fields_in m = record {
  key = record { execution = m.execution; default = m.default; unit = m.unit; contract = m.contract };
  map = m.map;
  energies = m.energies;
  prices = m.prices;
}

abbrev pub fields_as : M.Fields → Fields
fields_as m = record {
  execution = m.key.execution;
  default = m.key.default;
  reserved = 0;
  unit = m.key.unit;
  contract = m.key.contract;
  map = m.map;
  energies = m.energies;
  prices = m.prices;
}

-- "Other fields of a refusal are 0"
abbrev pub no_fields : Fields
no_fields = record { execution = false; default = false; reserved = 0; unit = 0; contract = 0; map = 0; energies = replicate 25 0; prices = replicate 25 0 }

-- the reading of a message's outcome
unfoldable pub reading_as : Outcome M.Fields → Reading
reading_as (given m) = record {
  row = 0;
  fields = fields_as m;
}
reading_as (refused n h) = record { row = n; fields = no_fields }

-- the count of an outcome of writing
unfoldable pub written_as : Outcome (List ℕ) → Written
written_as (given bytes) = record { row = 0; reserved = 0; count = length bytes }
written_as (refused n h) = record { row = n; reserved = 0; count = 0 }

-- a reader's and a writer's answer as the rules' outcome: beside 3, 4, 5 and 14 stands no hour
abbrev pub outcome_of : {A B : Type 0} → (A → B) → Result A Row → Outcome B
outcome_of f = elim [ Ok a ↦ given (f a) | Err row ↦ refused (number_of row) 0 ]

-- the same as C has it
abbrev pub reading_of : Result Fields Row → Reading
reading_of = elim [ Ok m ↦ record { row = 0; fields = m } | Err row ↦ record { row = number_of row; fields = no_fields } ]

abbrev pub written_of : Result ℕ Row → Written
written_of = elim [ Ok n ↦ record { row = 0; reserved = 0; count = n } | Err row ↦ record { row = number_of row; reserved = 0; count = 0 } ]

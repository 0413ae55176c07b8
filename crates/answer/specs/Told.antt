-- Document 01's number and values for each answer of a call, `told`, of a query, `shown`, and of a question about a date, `counted` and `named`, as
-- the plain struct that C is handed.
use Rattle.std.specs.Prelude.{ℕ, Bool, false, eqb, ℤ, pos}
use Rattle.rules.specs.Refusals as R
use Rattle.rules.specs.Hours as H
use Rattle.rules.specs.Closing as C
use Rattle.rules.specs.Queries as Q
use Rattle.rules.specs.DayBook as D
use Rattle.rules.specs.Rows.{number_of}
use Rattle.answer.specs.declared.Refusal.{Refusal}
use Rattle.answer.specs.declared.Response.{Response}
use Rattle.answer.specs.declared.ClockName.{ClockName}

-- What a kind says. "Other fields of a refusal are 0", and so are those that another kind does not say.

abbrev pub plain : ℕ → Response
plain kind = record { kind = kind; row = 0; hour = 0; reserved = 0; value = pos 0; count = 0 }

abbrev pub by_row : ℕ → ℕ → ℕ → Response
by_row kind row hour = record { kind = kind; row = row; hour = hour; reserved = 0; value = pos 0; count = 0 }

abbrev pub valued : ℕ → ℤ → Response
valued kind z = record { kind = kind; row = 0; hour = 0; reserved = 0; value = z; count = 0 }

-- The kinds

abbrev pub accepted : Response
accepted = plain 0

abbrev pub refused : ℕ → ℕ → Response
refused row hour = by_row 1 row hour

abbrev pub refusal : Refusal → Response
refusal r = refused (number_of r.row) r.hour

abbrev pub numbered : ℕ → Response
numbered n = valued 2 (pos n)

abbrev pub steps : ℕ → Response
steps n = record { kind = 3; row = 0; hour = 0; reserved = 0; value = pos 0; count = n }

abbrev pub hidden : Response
hidden = plain 4

abbrev pub limit : ℕ → ℕ → Response
limit row hour = by_row 5 row hour

abbrev pub figure : ℤ → Response
figure z = valued 6 z

abbrev pub absent : Response
absent = plain 7

unfoldable pub is_refusal : Response → Bool
is_refusal r = eqb r.kind 1

-- What calls and queries answer

unfoldable pub told : D.Answer → Response
told (D.refusal row hour) = refused row hour
told D.done = accepted
told (D.numbered n) = numbered n
told (D.steps n) = steps n

unfoldable pub verdict_told : C.Verdict → Response
verdict_told C.accepted = accepted
verdict_told C.hidden = hidden
verdict_told (C.limit row hour) = limit row hour

unfoldable pub value_told : Q.Shown → Response
value_told (Q.judged v) = verdict_told v
value_told (Q.number z) = figure z
value_told Q.absent = absent

unfoldable pub shown : R.Outcome Q.Shown → Response
shown (R.refused row hour) = refused row hour
shown (R.given a) = value_told a

-- What questions about a date answer: a number; a clock name with its mark, which has no hour beside its row

unfoldable pub counted : R.Outcome ℕ → Response
counted (R.refused row hour) = refused row hour
counted (R.given n) = figure (pos n)

abbrev pub unnamed : ℕ → ClockName
unnamed row = record { row = row; name = 0; second = false; reserved = 0; reserved2 = 0 }

abbrev pub clock_told : H.Clock → ClockName
clock_told c = record { row = 0; name = c.name; second = c.second; reserved = 0; reserved2 = 0 }

unfoldable pub named : R.Outcome H.Clock → ClockName
named (R.refused row hour) = unnamed row
named (R.given c) = clock_told c

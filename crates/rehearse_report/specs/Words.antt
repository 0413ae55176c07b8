-- What the gate says, in words (docs/REHEARSAL.md, "Answers").
use Rattle.std.specs.Prelude.{ℕ, zero, suc, List, [], ◌∷◌, ◌++◌, Option, Some, None, slice_get, codes, decimal}
use Rattle.std.specs.Fmt.{signed_decimal}
use Rattle.rules.specs.declared.row.Row.{Row}
use Rattle.rules.specs.declared.row.Row.TheVariants.{Date, Gate, Form, Hour, Range, Unit, Taken, Second, Full, Maximum, Available, Border, Absent, Short, Rights}
use Rattle.rules.specs.Rows.{word_of}
use Rattle.answer.specs.declared.Response.{Response}
use Rattle.answer.specs.declared.Kind.{Kind}
use Rattle.answer.specs.declared.Kind.TheVariants as K
use Rattle.answer.specs.Kinds.{kind_of}

-- the rows of the refusal table by their numbers, number 1 first
abbrev pub table : List Row
table = Date ∷ Gate ∷ Form ∷ Hour ∷ Range ∷ Unit ∷ Taken ∷ Second ∷ Full ∷ Maximum ∷ Available ∷ Border ∷ Absent ∷ Short ∷ Rights ∷ []

-- its row of a number, if there is one
abbrev pub row_of : ℕ → Option Row
row_of zero = None
row_of (suc n) = slice_get table n

abbrev pub words_of : Option Row → List ℕ
words_of None = []
words_of (Some row) = codes " " ++ word_of row

-- " maximum"
abbrev pub row_words : ℕ → List ℕ
row_words n = words_of (row_of n)

-- " hour 3", and nothing of hour 0
abbrev pub hour_words : ℕ → List ℕ
hour_words zero = []
hour_words (suc n) = codes " hour " ++ decimal (suc n)

-- "10 maximum hour 3"
abbrev pub reason_words : ℕ → ℕ → List ℕ
reason_words row hour = decimal row ++ (row_words row ++ hour_words hour)

-- by the kind of an answer
abbrev pub said : Option Kind → Response → List ℕ
said (Some K.Accepted) r = codes "accepted"
said (Some K.Refused) r = codes "refused " ++ reason_words r.row r.hour
said (Some K.Numbered) r = codes "number " ++ signed_decimal r.value
said (Some K.Steps) r = codes "steps " ++ decimal r.count
said (Some K.Hidden) r = codes "hidden"
said (Some K.Limit) r = codes "limit " ++ reason_words r.row r.hour
said (Some K.Figure) r = signed_decimal r.value
said (Some K.Absent) r = codes "none"
said None r = codes "steps " ++ decimal r.count

abbrev pub told_words : Response → List ℕ
told_words r = said (kind_of r.kind) r

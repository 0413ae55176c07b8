-- What stands in the cells of the tables.
use Rattle.std.specs.Prelude.{eqb, cond, ℤ, Option, Some, None}
use Rattle.answer.specs.declared.Response.{Response}

-- the number of a figure, which is kind 6
abbrev pub number_in : Response → Option ℤ
number_in r = cond (eqb r.kind 6) (Some r.value) None

-- A reader's and a writer's answers as the rules' outcomes, and as C has them.
use Rattle.std.proofs.Common.{◌≡◌, ap, refl, Result, Ok, Err, IfOk}
use Rattle.rules.specs.Refusals.{Outcome}
use Rattle.rules.specs.Message as M
use Rattle.rules.specs.declared.row.Row.{Row}
use Rattle.message.specs.declared.Fields.{Fields}
use Rattle.message.specs.View.{fields_in, outcome_of, reading_of, reading_as}

pub reading-same : (r : Result Fields Row) (o : Outcome M.Fields) → o ≡ outcome_of fields_in r → IfOk r (λ m. m.reserved ≡ 0) → reading_of r ≡ reading_as o
unfolding reading_as
reading-same (Ok m) o e z = rw e (ap (λ n. record { row = 0; fields = record m { reserved = n } }) z)
reading-same (Err row) o e z = rw e refl

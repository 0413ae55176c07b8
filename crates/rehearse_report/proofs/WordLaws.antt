-- The word of a row that was read by its number.
use Rattle.std.proofs.Common.{ℕ, zero, suc, ◌≡◌, ◌≤◌, ◌<◌, [], refl, sym, ap, subst, arith}
use Rattle.rules.specs.declared.row.Row.{Row}
use Rattle.rules.specs.declared.row.Row.TheVariants.{Date, Gate, Form, Hour, Range, Unit, Taken, Second, Full, Maximum, Available, Border, Absent, Short, Rights}
use Rattle.rules.specs.Rows.{number_of}
use Rattle.std.specs.Prelude.{Some}
use Rattle.std.proofs.lemmas.Option.{slice_get_past}
use Rattle.rehearse_report.specs.Words.{table, words_of, row_words}

found : (row : Row) → words_of (Some row) ≡ row_words (number_of row)
found = elim [
  | Date ↦ refl
  | Gate ↦ refl
  | Form ↦ refl
  | Hour ↦ refl
  | Range ↦ refl
  | Unit ↦ refl
  | Taken ↦ refl
  | Second ↦ refl
  | Full ↦ refl
  | Maximum ↦ refl
  | Available ↦ refl
  | Border ↦ refl
  | Absent ↦ refl
  | Short ↦ refl
  | Rights ↦ refl
]

pub named : (row : Row) (n : ℕ) → number_of row ≡ n → words_of (Some row) ≡ row_words n
named row n e = subst (λ k. words_of (Some row) ≡ row_words k) e (found row)

pub unnamed : (n : ℕ) → (1 ≤ n → 15 < n) → [] ≡ row_words n
unnamed zero h = refl
unnamed (suc k) h = sym (ap words_of (slice_get_past table k (omega (arith, h (omega arith)))))

pub ruleset word_laws = (named, unnamed)

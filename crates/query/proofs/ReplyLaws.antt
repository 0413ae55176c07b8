-- The ways out of a query.
use Prim.Native.Nat.{ℕ}
use mathlib.Core.Path.{◌≡◌, refl, ap, sym, ◌∙◌}
use mathlib.Core.Option.{Option, some, none, some-ne-none, some-injective}
use Rattle.rules.specs.Refusals.{Row, first_row, unless, outcome}
use Rattle.rules.specs.Book.{Book}
use Rattle.rules.specs.Queries as Q
use Rattle.rules.specs.Queries.{Query, Shown, query, query_rows}
use Rattle.answer.specs.Told.{shown, value_told, refusal}
use Rattle.answer.specs.Refused.{of_row}
use Rattle.answer.specs.declared.Response.{Response}
use Rattle.session.specs.Parts.{by_row, given_by}
use Rattle.session.specs.declared.Session.{Session}
use Rattle.std.specs.declared.result.Result.{Result}
use Rattle.std.specs.declared.result.Result.TheVariants.{Ok, Err}
use Rattle.rules.specs.declared.row.Row as Code
use Rattle.query.specs.Replies.{Answered}
use Rattle.query.specs.Parts.{Judges, Shows}

-- Refused, or shown

refused_as : (x : Code.Row) (a : Shown) (o : Option Row) → some (by_row x) ≡ given_by o → refusal (of_row x) ≡ shown (unless o a)
unfolding unless shown given_by
refused_as x a none q = absurd (some-ne-none _ q)
refused_as x a (some r) q = let p = some-injective _ _ q in rw (ap (λ (t : ℕ × ℕ). t.0) p, ap (λ (t : ℕ × ℕ). t.1) p)

shown-as : (a : Shown) (o : Option Row) → none ≡ given_by o → value_told a ≡ shown (unless o a)
unfolding unless shown given_by
shown-as a none q = refl
shown-as a (some r) q = absurd (some-ne-none _ (sym q))

module _ {A : Type 0} (s : Session) (q : Query) (j : Result A Code.Row) (judges : Judges s q j) where
  pub out-refused : (x : Code.Row) → j ≡ Err x → Answered s q (refusal (of_row x))
  unfolding query outcome
  out-refused x k b sound e = refused_as x (Q.shown b q) (first_row (query_rows b q)) (rw k at (judges b sound e))

  pub out-shown : (a : A) (r : Response) → j ≡ Ok a → Shows s q r → Answered s q r
  unfolding query outcome
  out-shown a r k f b sound e = f b sound e ∙ shown-as (Q.shown b q) (first_row (query_rows b q)) (rw k at (judges b sound e))

-- queries with the same rows are refused alike
abbrev pub SameRows : Query → Query → Type 0
SameRows p q = (b : Book) → query_rows b p ≡ query_rows b q

-- so a judgement of the one is a judgement of the other
pub judged-alike : {A : Type 0} (s : Session) (p q : Query) (j : Result A Code.Row) → SameRows p q → Judges s p j → Judges s q j
judged-alike s p q j same judges b sound e = rw (← (same b)) (judges b sound e)

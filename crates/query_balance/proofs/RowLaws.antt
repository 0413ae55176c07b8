-- Refusals of a border's figure: each way out.
use Prim.Native.Nat.{ℕ, zero, suc, ◌≤◌, ◌<◌}
use mathlib.Core.Path.{◌≡◌, refl, sym}
use mathlib.Core.Bool.{true, false, false≢true}
use native.Mathlib.Omega.{arith}
use lib.Dec.{eqb, ltb}
use Rattle.rules.proofs.BoolLaws.{neither}
use borrow.Author.Tests.{ltb-false}
use Rattle.rules.specs.Refusals.{row, first_row}
use Rattle.rules.specs.Book.{Book}
use Rattle.rules.specs.Queries as Q
use Rattle.session.specs.Image.{image, Sound}
use Rattle.session.specs.declared.Session.{Session}
use Rattle.session.specs.Parts.{given_by}
use Rattle.std.specs.declared.result.Result.{Result}
use Rattle.std.specs.declared.result.Result.TheVariants.{Ok, Err}
use Rattle.rules.specs.declared.row.Row as Code
use Rattle.rules.specs.declared.row.Row.TheVariants.{Range}
use Rattle.query_balance.specs.declared.Balance.{Balance}
use Rattle.query_balance.specs.declared.Balance.TheVariants.{Market, Bilateral}
use Rattle.query_balance.specs.Parts.{bad_border, balance_query}
use Rattle.query.specs.Parts.{Judges}
use Rattle.query.proofs.RowLaws.{front, behind}
use Rattle.query.proofs.ReplyLaws.{SameRows}

pub a-border : (border : ℕ) → bad_border border ≡ false → (0 < border) × (border ≤ 4)
a-border zero k = absurd (false≢true (sym k))
a-border (suc n) k = (omega arith, ltb-false 4 (suc n) (neither (eqb (suc n) 0) (ltb 4 (suc n)) k).1)

module _ (s : Session) (border h : ℕ) (j : Result ℕ Code.Row) (judges : Judges s (Q.price h) j) where
  -- a judgement of a border is the table's
  abbrev ByTable : Result ℕ Code.Row → Type 0
  ByTable k = Judges s (Q.market border h) k

  pub border-front : (x : Code.Row) → j ≡ Err x → ByTable (Err x)
  unfolding Q.query_rows
  border-front x d b sound e = front b h (Q.border_rows border) (rw d at (judges b sound e))

  module _ (at : ℕ) (clear : j ≡ Ok at) where
    border-rows : (b : Book) → Sound b → s ≡ image b → first_row (Q.query_rows b (Q.market border h)) ≡ first_row (Q.border_rows border)
    unfolding Q.query_rows
    border-rows b sound e = behind b h (Q.border_rows border) (rw clear at (judges b sound e))

    pub border-5 : bad_border border ≡ true → ByTable (Err Range)
    unfolding Q.border_rows row first_row given_by
    border-5 k b sound e = rw (border-rows b sound e, k)

    pub border-0 : (of : ℕ) → bad_border border ≡ false → ByTable (Ok of)
    unfolding Q.border_rows row first_row given_by
    border-0 of k b sound e = rw (border-rows b sound e, k)

-- both balances of a border are refused alike
pub balance-rows : (balance : Balance) (border h : ℕ) → SameRows (Q.market border h) (balance_query balance border h)
unfolding Q.query_rows
balance-rows Market border h b = refl
balance-rows Bilateral border h b = refl

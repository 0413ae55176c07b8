-- Refusals of a figure in an hour: each way out.
use Prim.Native.Nat.{ℕ, zero, suc, ◌≤◌, ◌<◌}
use mathlib.Core.Path.{◌≡◌, refl, ap, sym, ◌∙◌}
use mathlib.Core.Bool.{true, false, false≢true}
use mathlib.Core.List.{List, []}
use mathlib.Core.Option.{some, none, some-ne-none}
use lib.Dec.{eqb, ltb}
use native.Mathlib.Omega.{arith}
use borrow.Author.Tests.{eqb-false, ltb-false}
use Rattle.rules.specs.Refusals.{Row, row, first_row}
use Rattle.rules.specs.Hours.{not_an_hour}
use Rattle.rules.specs.Book.{Book, hours}
use Rattle.rules.specs.Queries as Q
use Rattle.rules.proofs.BoolLaws.{by_bool, neither}
use Rattle.session.specs.Image.{image, Sound}
use Rattle.session.specs.Parts.{within, given_by}
use Rattle.session.specs.declared.Session.{Session}
use Rattle.std.specs.declared.result.Result.{Result}
use Rattle.std.specs.declared.result.Result.TheVariants.{Ok, Err}
use Rattle.rules.specs.declared.row.Row as Code
use Rattle.rules.specs.declared.row.Row.TheVariants.{Gate, Hour}
use Rattle.session.proofs.ImageLaws.{image-within, hours-as, cleared-as}
use Rattle.query.specs.Parts.{Judges}

above : (n : ℕ) → (n ≡ 0 → ⊥) → 0 < n
above zero f = absurd (f refl)
above (suc n) f = omega arith

-- not a session that the calls leave: anything may be said of it
pub unsound : (s : Session) {C : Type 0} → within s ≡ false → (b : Book) → Sound b → s ≡ image b → C
unsound s w b sound e = absurd (false≢true (sym w ∙ (ap within e ∙ image-within b sound)))

-- Hours

pub an-hour : (H h : ℕ) → not_an_hour H h ≡ false → (0 < h) × (h ≤ H)
unfolding not_an_hour
an-hour H h k = let z = neither (eqb h 0) (ltb H h) k in (above h (eqb-false h 0 z.0), ltb-false H h z.1)

module _ (s : Session) (h : ℕ) where
  -- a judgement of an hour is the table's
  abbrev ByTable : Result ℕ Code.Row → Type 0
  ByTable j = Judges s (Q.price h) j

  pub hour-unsound : within s ≡ false → ByTable (Err Gate)
  hour-unsound w b sound e = unsound s w b sound e

  pub hour-2 : s.cleared ≡ false → ByTable (Err Gate)
  unfolding Q.query_rows Q.figure_rows row first_row given_by
  hour-2 k b sound e = rw (cleared-as s b e, k)

  pub hour-4 : s.cleared ≡ true → not_an_hour s.hours h ≡ true → ByTable (Err Hour)
  unfolding Q.query_rows Q.figure_rows row first_row given_by
  hour-4 k n b sound e = rw (hours-as s b e, n, cleared-as s b e, k)

  pub hour-0 : (at : ℕ) → s.cleared ≡ true → not_an_hour s.hours h ≡ false → ByTable (Ok at)
  unfolding Q.query_rows Q.figure_rows row first_row given_by
  hour-0 at k n b sound e = rw (hours-as s b e, n, cleared-as s b e, k)

-- Rows after those of the hour

module _ (b : Book) (h : ℕ) (rows : List Row) where
  -- a row of the hour is given in front of them
  pub front : {x : ℕ × ℕ} → some x ≡ given_by (first_row (Q.figure_rows b h [])) → some x ≡ given_by (first_row (Q.figure_rows b h rows))
  unfolding Q.figure_rows row first_row given_by
  front {x} q =
      by_bool b.cleared
      (λ c. by_bool (not_an_hour (hours b) h) (λ t. rw (t, c) (rw (t, c) at q)) (λ t. absurd (some-ne-none x (rw (t, c) at q))))
      (λ c. rw c (rw c at q))

  -- where none of the hour is, they are
  pub behind : none ≡ given_by (first_row (Q.figure_rows b h [])) → first_row (Q.figure_rows b h rows) ≡ first_row rows
  unfolding Q.figure_rows row first_row given_by
  behind q =
      by_bool b.cleared
      (λ c. by_bool (not_an_hour (hours b) h) (λ t. absurd (some-ne-none (4, 0) (sym (rw (t, c) at q)))) (λ t. rw (t, c)))
      (λ c. absurd (some-ne-none (2, 0) (sym (rw c at q))))

-- Losses: each way out.
use Prim.Native.Nat.{ℕ, ◌<◌}
use mathlib.Core.Path.{◌≡◌, refl}
use mathlib.Core.Bool.{true, false}
use native.Mathlib.Omega.{arith}
use lib.ListN.{set}
use borrow.Author.Tests.{ltb-false}
use Rattle.rules.specs.Refusals.{row, first_row}
use Rattle.rules.specs.Units as U
use Rattle.rules.specs.Book as B
use Rattle.rules.specs.DayBook as D
use Rattle.rules.proofs.BoolLaws.{neither}
use Rattle.session.specs.Image.{image, verdicts_in, hours_in}
use Rattle.session_changes.specs.Changes.{with_losses, loss_with}
use Rattle.session_changes.specs.Effects.{done}
use Rattle.answer.specs.Told.{told, is_refusal, accepted}
use Rattle.session.specs.Parts.{JudgesRow, given_by, Entered}
use Rattle.set_loss.specs.Losses.{loss_in}
use Rattle.set_loss.specs.declared.Loss.{Loss}
use Rattle.std.specs.declared.result.Result.{Result}
use Rattle.std.specs.declared.result.Result.TheVariants.{Ok, Err}
use Rattle.rules.specs.declared.row.Row as R
use Rattle.rules.specs.declared.row.Row.TheVariants.{Gate, Range}
use Rattle.session.specs.declared.Session.{Session}
use Rattle.session.proofs.ImageLaws.{closed-as}
use Rattle.session.proofs.StepLaws.{open_row}
use Rattle.session.proofs.SoundLaws.{open-stage}

-- Judging

module _ (s : Session) (l : Loss) where
  -- the judgement is the table's
  abbrev ByTable : Result (Unit {0}) R.Row → Type 0
  ByTable j = JudgesRow s (loss_in l) j

  pub loss-2 : s.closed ≡ true → ByTable (Err Gate)
  unfolding D.rows_of D.gate_row D.call_rows D.change_row row first_row given_by
  loss-2 h b e = rw (closed-as s b e, h)

  pub loss-5 : s.closed ≡ false → U.bad_loss l.border l.loss ≡ true → ByTable (Err Range)
  unfolding D.rows_of D.gate_row D.call_rows D.change_row row first_row given_by
  loss-5 h k b e = rw (k, closed-as s b e, h)

  pub loss-0 : s.closed ≡ false → U.bad_loss l.border l.loss ≡ false → ByTable (Ok tt)
  unfolding D.rows_of D.gate_row D.call_rows D.change_row row first_row given_by
  loss-0 h k b e = rw (k, closed-as s b e, h)

-- Entering

-- a border that row 5 lets through is an index of the losses
pub border-fits : (border l : ℕ) → U.bad_loss border l ≡ false → border < 5
unfolding U.bad_loss
border-fits border l h = omega (arith, ltb-false 4 border (neither _ _ (neither _ _ h).0).1)

-- a loss in the book is one in its image
loss-image : (b : B.Book) (border l : ℕ) → b.closed ≡ false → b.cleared ≡ false → with_losses (image b) (set b.losses border l) ≡ image (D.applied b (D.loss border l))
unfolding image verdicts_in hours_in D.applied D.with_losses B.hours
loss-image b border l k c = rw (k, c)

pub loss-entered : (s : Session) (l : Loss)
    → Entered s (loss_in l) (done loss_with s (record { change = record { at = l.border; loss = l.loss }; answer = accepted }))
unfolding image told is_refusal D.reply D.rows_of D.gate_row D.call_rows
loss-entered s l = record {
  book = λ b sound o e.
      let early = open_row b _ o in
      record { answer = refl; session = rw e (loss-image b l.border l.loss early (open-stage b sound early)) };
  fine = refl;
}

-- Lodging: a message that is entered.
use Prim.Native.Nat.{ℕ}
use mathlib.Core.Path.{◌≡◌}
use mathlib.Core.List.{List}
use Rattle.rules.specs.Message.{message_of}
use Rattle.rules.specs.DayBook as D
use Rattle.message.specs.View.{fields_in}
use Rattle.message.specs.declared.Fields.{Fields}
use Rattle.session.specs.Parts.{Entered}
use Rattle.session.specs.declared.Session.{Session}
use Rattle.session.specs.declared.Effect.{Effect}
use Rattle.session.proofs.StepLaws.{open_row}
use Rattle.lodge.specs.Entries.{EnteredFields}

pub lodge-entered : (s : Session) (bytes : List ℕ) (m : Fields) → fields_in m ≡ message_of bytes → (r : Effect) → EnteredFields s m r → Entered s (D.lodge bytes) r
unfolding D.rows_of D.gate_row D.call_rows D.lodge_rows D.applied D.reply
lodge-entered s bytes m said r n = record {
  book = λ b sound o e. rw (← said) (n.book b sound (open_row b _ o) e);
  fine = n.fine;
}

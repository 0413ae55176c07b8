-- A message that is written and then lodged.
use Rattle.std.proofs.Common.{◌≡◌, refl, ℕ, ◌≤◌, List, length, take, drop}
use native.Mathlib.Omega.{arith}
use Rattle.std.proofs.lemmas.List.{length-append}
use Rattle.std.proofs.Math.Seq.{take-append_seam}
use Rattle.rules.specs.Refusals.{Outcome, refused, given}
use Rattle.rules.specs.Rows.{number_of}
use Rattle.rules.specs.declared.row.Row as Code
use Rattle.rules.specs.declared.row.Row.TheVariants as R
use Rattle.rules.specs.Message as M
use Rattle.rules.specs.Message.{buffer_after}
use Rattle.rules.specs.DayBook as D
use Rattle.rules.proofs.MessageLaws.{of-writes}
use Rattle.answer.specs.Told as T
use Rattle.answer.specs.declared.Response.{Response}
use Rattle.message.specs.View.{written_as}
use Rattle.message_writer.proofs.WriteLaws.{none_told}
use Rattle.session.specs.Steps.{Met}
use Rattle.session.specs.declared.Session.{Session}
use Rattle.rehearse_lines.specs.Runs.{Lodges}

-- no row's number is 0
number_some : (row : Code.Row) → 1 ≤ number_of row
number_some R.Date = omega arith
number_some R.Gate = omega arith
number_some R.Form = omega arith
number_some R.Hour = omega arith
number_some R.Range = omega arith
number_some R.Unit = omega arith
number_some R.Taken = omega arith
number_some R.Second = omega arith
number_some R.Full = omega arith
number_some R.Maximum = omega arith
number_some R.Available = omega arith
number_some R.Border = omega arith
number_some R.Absent = omega arith
number_some R.Short = omega arith
number_some R.Rights = omega arith

pub count-fits : (o : Outcome (List ℕ)) (old : List ℕ) → (written_as o).count ≤ length (buffer_after o old)
unfolding written_as buffer_after
count-fits (given bytes) old = omega (arith, length-append bytes (drop (length bytes) old))
count-fits (refused n h) old = omega arith

pub lodges-refused : (o : Outcome (List ℕ)) (row : Code.Row) → number_of row ≡ (written_as o).row → (s : Session) (a : Response) → a ≡ T.refused (number_of row) 0 → Lodges s o s a
unfolding written_as
lodges-refused (given bytes) row k s a e = absurd (omega (arith, number_some row, k))
lodges-refused (refused n h) row k s a e = (rw (← k) e, refl)

pub written-given : (room : ℕ) (m : M.Fields) → (written_as (M.write room m)).row ≡ 0 → M.write room m ≡ given (M.encode (M.form_for m) m)
written-given room m t =
    let r = none_told room m t in
    of-writes room m (M.encode (M.form_for m) m) (record { map = r.0.map; fields = r.0.values; fits = r.1; same = refl })

pub lodges-given : (o : Outcome (List ℕ)) (old : List ℕ) {bytes : List ℕ} → o ≡ given bytes → (s t : Session) (a : Response)
    → Met s (D.lodge (take (written_as o).count (buffer_after o old))) (record { session = t; answer = a }) → Lodges s o t a
unfolding written_as buffer_after
lodges-given o old {bytes} e s t a met = rw e (rw (e, take-append_seam bytes (drop (length bytes) old)) at met)

-- Closing the session is closing its book.
use Prim.Native.Nat.{ℕ, ◌+◌}
use mathlib.Core.Path.{◌≡◌, refl, sym, ap, ◌∙◌}
use mathlib.Core.Bool.{true, false}
use mathlib.Core.List.{List, [], map}
use lib.ListN.{length}
use Rattle.rules.specs.Refusals.{row, first_row}
use Rattle.rules.specs.Book.{Book, hours, frozen}
use Rattle.rules.specs.Closing as C
use Rattle.rules.specs.DayBook as D
use Rattle.rules.proofs.BookLaws.{frozen-judgements}
use Rattle.session.specs.Laid.{pad}
use Rattle.session.specs.Image.{image, Sound, verdict_as, no_verdict, verdicts_in, hours_in}
use Rattle.answer.specs.Told.{told, is_refusal}
use Rattle.session_changes.specs.Changes.{with_verdicts}
use Rattle.session.specs.Parts.{JudgesRow, given_by, Entered}
use Rattle.session.specs.declared.Session.{Session}
use Rattle.session.specs.declared.Verdict.{Verdict}
use Rattle.std.specs.Prelude.{Ok, Err}
use Rattle.std.specs.declared.result.Result.{Result}
use Rattle.rules.specs.declared.row.Row as Code
use Rattle.rules.specs.declared.row.Row.TheVariants.{Gate}
use Rattle.session.proofs.ImageLaws.{closed-as, standing-as}
use Rattle.session.proofs.SoundLaws.{open-stage}
use Rattle.session.proofs.StepLaws.{open_row}
use Rattle.close_order.specs.Passes.{ClosingAt}
use Rattle.close.specs.Closed.{closed_effect}
use Rattle.close_judge.proofs.ClassLaws.{reached-next, reached-end}
use Rattle.close_order.proofs.RoomLaws.{closing_at, reached-at}

-- 2: "closing [..] twice"
module _ (s : Session) where
  abbrev pub ByTable : Result (Unit {0}) Code.Row → Type 0
  ByTable j = JudgesRow s D.close j

  pub close-2 : s.closed ≡ true → ByTable (Err Gate)
  unfolding D.rows_of D.gate_row D.call_rows D.change_row row first_row given_by
  close-2 h b e = rw (closed-as s b e, h)

  pub close-0 : s.closed ≡ false → ByTable (Ok tt)
  unfolding D.rows_of D.gate_row D.call_rows D.change_row row first_row given_by
  close-0 h b e = rw (closed-as s b e, h)

-- the verdicts are those of the book before closing
stage-verdicts : (b : Book) → C.verdicts (D.with_stage b true b.cleared) ≡ C.verdicts b
unfolding C.verdicts D.with_stage frozen
stage-verdicts b = ap (λ js. map (λ l. C.verdict_among js l.number) b.standing) (frozen-judgements (D.with_stage b true b.cleared) b refl)

stage-image : (b : Book) → b.cleared ≡ false → with_verdicts (image b) true (pad 128 no_verdict (map verdict_as (C.verdicts (D.with_stage b true b.cleared)))) ≡ image (D.with_stage b true b.cleared)
unfolding image verdicts_in hours_in D.with_stage hours
stage-image b c = rw c

close-image : (b : Book) → b.cleared ≡ false → with_verdicts (image b) true (pad 128 no_verdict (map verdict_as (C.verdicts b))) ≡ image (D.applied b D.close)
unfolding D.applied
close-image b c = ap (λ vs. with_verdicts (image b) true (pad 128 no_verdict (map verdict_as vs))) (sym (stage-verdicts b)) ∙ stage-image b c

module _ (s : Session) where
  abbrev Stands : ℕ → ℕ → List Verdict → List (List ℕ) → Type 0
  Stands class i vs room = (b : Book) → Sound b → s ≡ image b → ClosingAt s b class i vs room

  -- a class from its last index to its first
  abbrev Turned : ℕ → List Verdict → List (List ℕ) → List Verdict → List (List ℕ) → Type 0
  Turned class vs room r rest = (b : Book) → Sound b → s ≡ image b → ClosingAt s b class s.standing vs room → ClosingAt s b class 0 r rest

  -- a class stands at its last index where the one before it has passed all
  turned-next : (class next : ℕ) (vs : List Verdict) (room : List (List ℕ)) → next ≡ class + 1 → Stands class 0 vs room → Stands next s.standing vs room
  turned-next class next vs room h f b sound e =
      let x = f b sound e in
      closing_at (rw (← standing-as s b e) (reached-next b class next vs h (reached-at x))) x.left

  pub close-entered : (vs xs ys zs : List Verdict) (room rest last end : List (List ℕ))
      → Stands 0 s.standing vs room → Turned 0 vs room xs rest → Turned 1 xs rest ys last → Turned 2 ys last zs end → length zs ≡ 128
      → Entered s D.close (closed_effect s zs)
  unfolding told is_refusal D.reply D.rows_of D.gate_row D.call_rows
  close-entered vs xs ys zs room rest last end f p q r h = record {
    book = λ b sound o e.
        let x = turned-next 0 1 xs rest refl (λ b sound e. p b sound e (f b sound e)) in
        let y = turned-next 1 2 ys last refl (λ b sound e. q b sound e (x b sound e)) in
        let z = r b sound e (y b sound e) in
        record { answer = refl; session = rw (reached-end b zs h sound.ranges.standing.room (reached-at z), e) (close-image b (open-stage b sound (open_row b [] o))) };
    fine = refl;
  }

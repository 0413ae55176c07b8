-- A message that is read, by its form and its fields: each way out.
use Prim.Native.Nat.{ℕ}
use mathlib.Core.Path.{◌≡◌, refl, sym, ap, subst, ◌∙◌}
use mathlib.Core.Bool.{Bool, true, false}
use mathlib.Core.List.{List, ◌∷◌}
use mathlib.Core.Option.{some}
use Rattle.std.specs.Prelude.{Ok, Err, IfOk}
use Rattle.std.specs.declared.result.Result.{Result}
use Rattle.rules.specs.declared.row.Row as Code
use Rattle.rules.specs.declared.row.Row.TheVariants.{Gate, Form}
use Rattle.rules.specs.Refusals.{Row, row, first_row}
use Rattle.rules.specs.Message.{form_of, message_of, wrong_form, bad_fields, wrong_range}
use Rattle.rules.specs.Book.{Book}
use Rattle.rules.specs.DayBook as D
use Rattle.answer.specs.declared.Refusal.{Refusal}
use Rattle.session.specs.Image.{image}
use Rattle.session.specs.Parts.{Judges, JudgesRow, given_by, within}
use Rattle.session.specs.declared.Session.{Session}
use Rattle.session.proofs.ImageLaws.{closed-as}
use Rattle.session.proofs.StepLaws.{out-unsound, out-refused}
use Rattle.message.specs.View.{fields_in}
use Rattle.message.specs.declared.Fields.{Fields}
use Rattle.lodge_judge.specs.Judging.{field_rows, last_rows, GivesRow, JudgesLimits}
use Rattle.lodge_pending.specs.Awaiting.{Found, Refused, Pends}
use Rattle.lodge_pending.specs.declared.Pending.{Pending}

-- Rows

-- rows that do not apply are passed over
past : (t u : Bool) (rows : List Row) → t ≡ false → u ≡ false → first_row (row 2 t ∷ row 3 u ∷ rows) ≡ first_row rows
unfolding row first_row
past t u rows h k = rw (h, k)

-- a range judged of the message is one judged of its fields
pub ranges-as : (bytes : List ℕ) (m : Fields) {r : Bool} → fields_in m ≡ message_of bytes → r ≡ wrong_range bytes → r ≡ bad_fields (form_of bytes).top (fields_in m)
unfolding wrong_range
ranges-as bytes m said r = r ∙ ap (bad_fields (form_of bytes).top) (sym said)

module _ (s : Session) (bytes : List ℕ) where
  abbrev Refuses : Code.Row → Type 0
  Refuses r = JudgesRow {A = Unit {0}} s (D.lodge bytes) (Err r)

  lodge-2 : s.closed ≡ true → Refuses Gate
  unfolding D.rows_of D.gate_row D.call_rows D.lodge_rows D.change_row row first_row given_by
  lodge-2 h b e = rw (closed-as s b e, h)

  lodge-3 : s.closed ≡ false → wrong_form bytes ≡ true → Refuses Form
  unfolding D.rows_of D.gate_row D.call_rows D.lodge_rows D.change_row row first_row given_by
  lodge-3 h f b e = rw (f, closed-as s b e, h)

  refused : (r : Code.Row) → Refuses r → Refused s bytes r
  refused r j x same = out-refused s (D.lodge bytes) x _ refl (λ b e. ap some same ∙ j b e)

  -- not a session that calls leave
  pub pends-unsound : within s ≡ false → Pends s bytes (Err Gate)
  pends-unsound h x same = out-unsound s (D.lodge bytes) x _ refl h

  pub pends-2 : s.closed ≡ true → Pends s bytes (Err Gate)
  pends-2 h = refused Gate (lodge-2 h)

  pub pends-3 : s.closed ≡ false → wrong_form bytes ≡ true → Pends s bytes (Err Form)
  pends-3 h f = refused Form (lodge-3 h f)

  -- read
  module _ (m : Fields) (o : s.closed ≡ false) (f : wrong_form bytes ≡ false) (said : fields_in m ≡ message_of bytes) where
    abbrev top : ℕ
    top = (form_of bytes).top

    -- its rows are those of its fields
    rows_as : (b : Book) → s ≡ image b → first_row (D.rows_of b (D.lodge bytes)) ≡ first_row (field_rows b top (fields_in m) (last_rows b (fields_in m)))
    unfolding D.rows_of D.gate_row D.call_rows D.lodge_rows D.change_row field_rows last_rows wrong_range
    rows_as b e =
        past b.closed (wrong_form bytes) (field_rows b top (message_of bytes) (last_rows b (message_of bytes))) (closed-as s b e ∙ o) f
        ∙ ap (λ n. first_row (field_rows b top n (last_rows b n))) (sym said)

    given : (r : Code.Row) → GivesRow {A = Pending} s top m (Err r) → Refuses r
    unfolding row given_by
    given r g b e = sym (ap given_by (rows_as b e ∙ g b e (last_rows b (fields_in m))))

    left : (p : Pending) → GivesRow s top m (Ok p) → (j : Result (Unit {0}) Refusal) → JudgesLimits s (fields_in m) j → Judges s (D.lodge bytes) j
    left p g j l b e = l b e ∙ sym (ap given_by (rows_as b e ∙ g b e (last_rows b (fields_in m))))

    pub pends-read : (r : Result Pending Code.Row) → GivesRow s top m r → IfOk r (Found s m) → Pends s bytes r
    pends-read (Err r) g h = refused r (given r g)
    pends-read (Ok p) g h = record {
      ready = h.ready;
      good = h.good;
      left = λ j l. left p g j (subst (λ (k : Fields). JudgesLimits s (fields_in k) j) h.fields l);
      fields = ap fields_in h.fields ∙ said;
    }

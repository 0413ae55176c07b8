-- The ways out of a call.
use Prim.Native.Nat.{ℕ}
use mathlib.Core.Path.{◌≡◌, refl, sym, ap, ◌∙◌}
use mathlib.Core.Bool.{false, false≢true}
use mathlib.Core.Option.{Option, some, none, some-ne-none, some-injective}
use mathlib.Core.List.{List, ◌∷◌}
use Rattle.rules.proofs.RefusalLaws.{accepted-rows}
use Rattle.rules.proofs.ListLaws.{all_head}
use Rattle.rules.specs.Refusals.{Row, row, first_row}
use Rattle.rules.specs.Book.{Book}
use Rattle.rules.specs.DayBook as D
use Rattle.session.specs.Image.{image}
use Rattle.rules.specs.Rows.{number_of}
use Rattle.answer.specs.Told.{told, refusal}
use Rattle.answer.specs.declared.Refusal.{Refusal}
use Rattle.session.specs.Steps.{Met, As}
use Rattle.session.specs.Parts.{within, given_by, Entered, refused_with}
use Rattle.session.specs.declared.Session.{Session}
use Rattle.session.specs.declared.Effect.{Effect}
use Rattle.session.proofs.ImageLaws.{image-within}

refused_as : (b : Book) (c : D.Call) (s : Session) (x : Refusal) (o : Option Row) → some (number_of x.row, x.hour) ≡ given_by o → s ≡ image b → As (D.effect_of b c o) (refusal x) s
unfolding told D.effect_of given_by
refused_as b c s x none q e = absurd (some-ne-none _ q)
refused_as b c s x (some r) q e =
    let p = some-injective _ _ q in
    record { answer = rw (ap (λ (t : ℕ × ℕ). t.0) p, ap (λ (t : ℕ × ℕ). t.1) p); session = e }

-- refused: the judgement is the book's
pub out-refused : (s : Session) (c : D.Call) (x : Refusal) (r : Effect) → r ≡ refused_with s x → ((b : Book) → s ≡ image b → some (number_of x.row, x.hour) ≡ given_by (first_row (D.rows_of b c))) → Met s c r
unfolding D.effect
out-refused s c x r q j =
    rw q (record { book = λ b sound e. refused_as b c s x (first_row (D.rows_of b c)) (j b e) e; kept = λ _. refl })

-- not a session that calls leave
pub out-unsound : (s : Session) (c : D.Call) (x : Refusal) (r : Effect) → r ≡ refused_with s x → within s ≡ false → Met s c r
out-unsound s c x r q w =
    rw q (record { book = λ b sound e. absurd (false≢true (sym w ∙ (ap within e ∙ image-within b sound))); kept = λ _. refl })

pub clear_none : (o : Option Row) → none ≡ given_by o → o ≡ none
unfolding given_by
clear_none none q = refl
clear_none (some r) q = absurd (some-ne-none _ (sym q))

-- accepted
pub out-entered : (s : Session) (c : D.Call) (r : Effect) → ((b : Book) → s ≡ image b → none ≡ given_by (first_row (D.rows_of b c))) → Entered s c r → Met s c r
unfolding D.effect D.effect_of
out-entered s c r j n = record {
  book = λ b sound e. let o = clear_none (first_row (D.rows_of b c)) (j b e) in rw o (n.book b sound o e);
  kept = λ y. absurd (false≢true (sym n.fine ∙ y));
}

-- a change that no row refuses is before closing
pub open_row : (b : Book) (rows : List Row) → first_row (D.change_row b ∷ rows) ≡ none → b.closed ≡ false
unfolding D.change_row row
open_row b rows h = all_head (accepted-rows (D.change_row b ∷ rows) h)

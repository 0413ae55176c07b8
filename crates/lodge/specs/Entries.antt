-- What entering a message makes of the session.
use Rattle.std.specs.Prelude.{suc, ◌≡◌, false, [], ◌∷◌, ◌++◌}
use Rattle.rules.specs.Message as M
use Rattle.rules.specs.Lodging as L
use Rattle.rules.specs.Book.{Book}
use Rattle.rules.specs.DayBook as D
use Rattle.message.specs.View.{fields_in}
use Rattle.message.specs.declared.Fields.{Fields}
use Rattle.session.specs.Image.{image, Sound}
use Rattle.answer.specs.Told.{is_refusal}
use Rattle.session.specs.Steps.{As}
use Rattle.session.specs.declared.Session.{Session}
use Rattle.session.specs.declared.Effect.{Effect}

-- "lodging drops any lodgement of its key, enters its own under the next number and answers that"
abbrev pub lodged : Book → M.Key → L.Lodgement → D.Effect
lodged b k l = record { book = D.with_standing b (L.without k b.standing ++ (l ∷ [])) (suc b.last); answer = D.numbered (suc b.last) }

pub record EnteredFields (s : Session) (m : Fields) (r : Effect) : Type 0 where
  pub book : (b : Book) → Sound b → b.closed ≡ false → s ≡ image b
      → As (lodged b (fields_in m).key (D.entry (fields_in m) (suc b.last))) r.answer r.session
  pub fine : is_refusal r.answer ≡ false

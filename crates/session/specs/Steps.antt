-- What every call promises.
use Rattle.std.specs.Prelude.{◌≡◌, true}
use Rattle.rules.specs.Hours as H
use Rattle.rules.specs.Book.{Book}
use Rattle.rules.specs.DayBook as D
use Rattle.answer.specs.Told.{told, is_refusal}
use Rattle.answer.specs.declared.Response.{Response}
use Rattle.session.specs.Image.{image, Sound}
use Rattle.session.specs.declared.Session.{Session}
use Rattle.session.specs.declared.Effect.{Effect}
use Rattle.session.specs.declared.Opened.{Opened}

-- answer and session are those of an effect on the book
pub record As (t : D.Effect) (a : Response) (s : Session) : Type 0 where
  pub answer : a ≡ told t.answer
  pub session : s ≡ image t.book

-- The promise of every call: on a session that stands for a sound book, the book's effect; on any session, a refusal
-- hands it back. ("nothing is promised of another": there the answer is free.)
pub record Met (s : Session) (c : D.Call) (r : Effect) : Type 0 where
  pub book : (b : Book) → Sound b → s ≡ image b → As (D.effect b c) r.answer r.session
  pub kept : is_refusal r.answer ≡ true → r.session ≡ s

-- the promise of opening
abbrev pub Opens : H.Date → Opened → Type 0
Opens d r = As (D.opening d) r.answer r.session

-- What every query promises.
use Rattle.std.specs.Prelude.{◌≡◌}
use Rattle.rules.specs.Book.{Book}
use Rattle.rules.specs.Queries.{Query, query}
use Rattle.answer.specs.Told.{shown}
use Rattle.answer.specs.declared.Response.{Response}
use Rattle.session.specs.Image.{image, Sound}
use Rattle.session.specs.declared.Session.{Session}

-- The promise of every query: on a session that stands for a sound book, the book's answer. ("nothing is promised of another":
-- there the response is free.)
abbrev pub Answered : Session → Query → Response → Type 0
Answered s q r = (b : Book) → Sound b → s ≡ image b → r ≡ shown (query b q)

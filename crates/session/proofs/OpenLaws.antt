-- Opening: each way out.
use mathlib.Core.Path.{◌≡◌}
use mathlib.Core.Bool.{true, false}
use Rattle.rules.specs.Refusals.{row, first_row}
use Rattle.rules.specs.Hours as H
use Rattle.rules.specs.Book.{fresh}
use Rattle.rules.specs.DayBook as D
use Rattle.session.specs.Image.{image}
use Rattle.answer.specs.Told.{told, accepted, refused}
use Rattle.answer.specs.declared.Response.{Response}
use Rattle.session.specs.Steps.{As}
use Rattle.session.specs.declared.Session.{Session}

pub open-1 : (d : H.Date) (a : Response) (s : Session) → H.is_date d ≡ false → a ≡ refused 1 0 → s ≡ image (fresh (record { year = 2002; month = 1; day = 1 })) → As (D.opening d) a s
unfolding D.opening D.opened_with H.date_row row first_row told
open-1 d a s h q e = rw h (record { answer = q; session = e })

pub open-0 : (d : H.Date) (a : Response) (s : Session) → H.is_date d ≡ true → a ≡ accepted → s ≡ image (fresh d) → As (D.opening d) a s
unfolding D.opening D.opened_with H.date_row row first_row told
open-0 d a s h q e = rw h (record { answer = q; session = e })

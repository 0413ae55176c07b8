-- Opening and every call leave a sound book.
use mathlib.Core.Path.{◌≡◌, sym, ◌∙◌}
use mathlib.Core.Bool.{false, false≢true}
use Rattle.rules.specs.Hours as H
use Rattle.rules.specs.Book as B
use Rattle.rules.specs.DayBook as D
use Rattle.rules.specs.Sound as R
use Rattle.rules.proofs.BookLaws as L
use Rattle.rules.proofs.BoolLaws.{by_bool}
use Rattle.session.specs.Image.{Sound}

pub opening-sound : (d : H.Date) → Sound (D.opening d).book
opening-sound d = record { ranges = L.opening-sound d; directions = L.opening-directions d }

pub effect-sound : (b : B.Book) (c : D.Call) → R.WellTyped c → Sound b → Sound (D.effect b c).book
effect-sound b c w s = record { ranges = L.effect-sound b c s.ranges; directions = L.effect-directions b c w s.directions }

-- an open book is not cleared
pub open-stage : (b : B.Book) → Sound b → b.closed ≡ false → b.cleared ≡ false
open-stage b s h = by_bool b.cleared (λ e. absurd (false≢true (sym h ∙ s.ranges.stage e))) (λ e. e)

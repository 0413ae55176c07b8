-- What a session's hours come to.
use Rattle.std.specs.Prelude.{ℕ, suc, ◌≡◌, true, List, map}
use Rattle.rules.specs.Lists.{sum_of, from}
use Rattle.rules.specs.Book.{Book}
use Rattle.rules.specs.Clearing as C
use Rattle.session.specs.declared.HourFigures.{HourFigures}
use Rattle.session.specs.declared.Session.{Session}
use Rattle.session.specs.Laid.{pad}
use Rattle.session.specs.Image.{Sound, image, no_figures, figures_as}
use Rattle.clear.specs.declared.HourEnd.{HourEnd}

-- the hour at index k of a session that stands for a closed book
abbrev pub HourAs : Session → ℕ → HourEnd → Type 0
HourAs s k r = (b : Book) → Sound b → b.closed ≡ true → s ≡ image b → (r.figures ≡ figures_as b (suc k)) × (r.steps ≡ (C.figures_at b (suc k)).steps)

-- its first n hours
abbrev pub HoursAs : Session → ℕ → List HourFigures → ℕ → Type 0
HoursAs s n figures steps =
    (b : Book) → Sound b → b.closed ≡ true → s ≡ image b
    → (figures ≡ pad 25 no_figures (map (figures_as b) (from 1 n))) × (steps ≡ sum_of (λ h. (C.figures_at b h).steps) (from 1 n))

-- What calls change of a session.
use Rattle.std.specs.Prelude.{ℕ, zero, suc, ◌+◌, ◌≤◌, ◌<◌, Bool, true, List, [], ◌∷◌, set}
use Rattle.session.specs.declared.Notice.{Notice}
use Rattle.session.specs.declared.Unit.{Unit}
use Rattle.session.specs.declared.Lodgement.{Lodgement}
use Rattle.session.specs.declared.Energies.{Energies}
use Rattle.session.specs.declared.Verdict.{Verdict}
use Rattle.session.specs.declared.HourFigures.{HourFigures}
use Rattle.session.specs.declared.Session.{Session}
use Rattle.session.specs.Image.{no_notice}
use Rattle.session_changes.specs.declared.RegistryChange.{RegistryChange}
use Rattle.session_changes.specs.declared.NoticeChange.{NoticeChange}
use Rattle.session_changes.specs.declared.RightsChange.{RightsChange}
use Rattle.session_changes.specs.declared.LossChange.{LossChange}
use Rattle.session_changes.specs.declared.StandingChange.{StandingChange}
use Rattle.session_changes.specs.declared.ClosingChange.{ClosingChange}
use Rattle.session_changes.specs.declared.ClearingChange.{ClearingChange}

-- Sessions with other parts

abbrev pub with_lodgements : Session → ℕ → List Lodgement → List Energies → ℕ → Session
with_lodgements s n ls es last = record s { standing = n; lodgements = ls; energies = es; last = last }

abbrev pub with_registry : Session → ℕ → List Unit → List Notice → List Notice → Session
with_registry s n us ns rs = record s { enrolled = n; units = us; notices = ns; rights = rs }

abbrev pub with_notices : Session → List Notice → Session
with_notices s ns = record s { notices = ns }

abbrev pub with_rights : Session → List Notice → Session
with_rights s rs = record s { rights = rs }

abbrev pub with_losses : Session → List ℕ → Session
with_losses s ls = record s { losses = ls }

abbrev pub with_verdicts : Session → Bool → List Verdict → Session
with_verdicts s closed vs = record s { closed = closed; verdicts = vs }

abbrev pub with_figures : Session → Bool → List HourFigures → Session
with_figures s cleared fs = record s { cleared = cleared; figures = fs }

-- Units and their notices

abbrev pub registry_with : Session → RegistryChange → Session
registry_with s c = with_registry s (c.at + 1) (set s.units c.at c.unit) (set s.notices c.at no_notice) (set s.rights c.at c.rights)

abbrev pub notice_with : Session → NoticeChange → Session
notice_with s c = with_notices s (set s.notices c.at c.notice)

abbrev pub rights_with : Session → RightsChange → Session
rights_with s c = with_rights s (set (set s.rights c.at c.rights) c.also c.rights)

-- its indices are indices of the array
pub record Granted (c : RightsChange) : Type 0 where
  pub at : c.at < 64
  pub also : c.also < 64

-- Losses

abbrev pub loss_with : Session → LossChange → Session
loss_with s c = with_losses s (set s.losses c.at c.loss)

-- Standing lodgements

-- the elements after index `from`, up to index `to`, each one index forward
unfoldable pub moved : {A : Type 0} → ℕ → ℕ → List A → List A
moved zero zero l = l
moved zero (suc to) [] = []
moved zero (suc to) (x ∷ []) = x ∷ []
moved zero (suc to) (x ∷ y ∷ l) = y ∷ moved zero to (y ∷ l)
moved (suc from) zero l = l
moved (suc from) (suc to) [] = []
moved (suc from) (suc to) (x ∷ l) = x ∷ moved from to l

abbrev pub standing_with : Session → StandingChange → Session
standing_with s c =
    with_lodgements s c.standing (set (moved c.from c.to s.lodgements) c.at c.lodgement) (set (moved c.from c.to s.energies) c.at c.energies) c.last

-- its indices are indices of the array
pub record Indexed (c : StandingChange) : Type 0 where
  pub forward : c.from ≤ c.to
  pub to : c.to < 128
  pub at : c.at < 128

-- Verdicts and figures

abbrev pub closed_with : Session → ClosingChange → Session
closed_with s c = with_verdicts s true c.verdicts

abbrev pub cleared_with : Session → ClearingChange → Session
cleared_with s c = with_figures s true c.figures

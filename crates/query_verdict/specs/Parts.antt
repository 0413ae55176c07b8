-- What the parts of a verdict's query promise to each other.
use Rattle.std.specs.Prelude.{ℕ, ◌<◌, Bool, true, cond, ◌≡◌, List, length, eqb, get_or, take, position, Some}
use Rattle.session.specs.Image.{no_lodgement}
use Rattle.session.specs.Parts.{Within}
use Rattle.session.specs.declared.Session.{Session}
use Rattle.session.specs.declared.Lodgement.{Lodgement}
use Rattle.session.specs.declared.Verdict.{Verdict}
use Rattle.answer.specs.Told.{accepted, hidden, limit}
use Rattle.answer.specs.declared.Response.{Response}

-- whether a lodgement has a number
abbrev pub lodged : ℕ → Lodgement → Bool
lodged n l = eqb l.number n

-- the numbers of some lodgements rise, as those of a sound book's standing ones do
abbrev pub number_at : List Lodgement → ℕ → ℕ
number_at ls i = (get_or ls i no_lodgement).number

abbrev pub Rising : List Lodgement → Type 0
Rising ls = (i j : ℕ) → i < j → j < length ls → number_at ls i < number_at ls j

-- what no row refuses: a lodging number that stands, of a closed gate; its verdict has this index
pub record VerdictFits (s : Session) (number at : ℕ) : Type 0 where
  pub within : Within s
  pub closed : s.closed ≡ true
  pub inside : at < length (take s.standing s.lodgements)
  pub found : Rising (take s.standing s.lodgements) → position (lodged number) (take s.standing s.lodgements) ≡ Some at

-- what a verdict is told as
unfoldable pub told_as : Verdict → Response
told_as v = cond v.accepted accepted (cond (eqb v.limit 0) hidden (limit v.limit v.hour))

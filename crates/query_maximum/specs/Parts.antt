-- What the parts of a maximum's query promise to each other.
use Rattle.std.specs.Prelude.{ℕ, ◌+◌, ◌≡◌, Bool, not, ℤ, pos, get_or}
use Rattle.std.specs.Bool.{then_some}
use Rattle.std.proofs.Math.IntN.{sub_ℕ}
use Rattle.rules.specs.Units as U
use Rattle.rules.specs.Queries as Q
use Rattle.session.specs.Bare.{bare_notice}
use Rattle.session.specs.declared.Session.{Session}
use Rattle.session.specs.declared.Notice.{Notice}
use Rattle.session.specs.declared.HourFigures.{HourFigures}
use Rattle.query_balance.specs.Parts.{BorderFits}
use Rattle.query_maximum.specs.declared.Asked.{Asked}
use Rattle.query_maximum.specs.declared.Maximum.{Maximum}
use Rattle.query_maximum.specs.declared.Maximum.TheVariants.{Market, Bilateral}

-- the last notice of a direction's capacity
abbrev pub notice_of : Session → ℕ → Bool → Notice
notice_of s border export = get_or s.capacities (U.direction border export) bare_notice

-- what no row refuses: a direction of the four borders in an hour of a cleared day, and where what it asks for stands
pub record DirectionFits (s : Session) (border : ℕ) (export : Bool) (hour : ℕ) (p : Asked) : Type 0 where
  pub borders : BorderFits s border hour p.at
  pub direction : p.direction ≡ U.direction border export
  pub other : p.other ≡ U.direction border (not export)
  pub capacity : p.capacity ≡ then_some (notice_of s border export).given (get_or (notice_of s border export).energies p.at 0)

-- the query of a maximum, and its figure where the capacity's energy is given
abbrev pub maximum_query : Maximum → ℕ → Bool → ℕ → Q.Query
maximum_query = elim [
  | Market ↦ λ border export hour. Q.market_max border export hour
  | Bilateral ↦ λ border export hour. Q.bilateral_max border export hour
]

abbrev pub maximum_of : Maximum → HourFigures → Asked → ℕ → ℤ
maximum_of = elim [
  | Market ↦ λ x p energy. pos (get_or x.maxima p.direction 0)
  | Bilateral ↦ λ x p energy. sub_ℕ (energy + get_or x.market p.other 0) (get_or x.market p.direction 0)
]

-- What the parts of an energy's query promise to each other.
use Rattle.std.specs.Prelude.{ℕ, ◌<◌, ◌≡◌, get_or}
use Rattle.rules.specs.Queries as Q
use Rattle.session.specs.Parts.{unit_index}
use Rattle.session.specs.declared.Session.{Session}
use Rattle.session.specs.declared.HourFigures.{HourFigures}
use Rattle.query.specs.Parts.{HourFits}
use Rattle.query_unit.specs.declared.Energy.{Energy}
use Rattle.query_unit.specs.declared.Energy.TheVariants.{Matched, Executed}
use Rattle.query_unit.specs.declared.Indices.{Indices}

-- what no row refuses: a registered unit, which has this index, in an hour of a cleared day
pub record UnitFits (s : Session) (unit hour : ℕ) (p : Indices) : Type 0 where
  pub hours : HourFits s hour p.hour
  pub index : p.unit ≡ unit_index s unit
  pub registered : p.unit < s.enrolled

-- the query of an energy, and where it is read
abbrev pub energy_query : Energy → ℕ → ℕ → Q.Query
energy_query = elim [
  | Matched ↦ λ unit hour. Q.matched unit hour
  | Executed ↦ λ unit hour. Q.executed unit hour
]

abbrev pub energy_of : Energy → HourFigures → ℕ → ℕ
energy_of = elim [
  | Matched ↦ λ figures unit. get_or figures.matched unit 0
  | Executed ↦ λ figures unit. get_or figures.executed unit 0
]

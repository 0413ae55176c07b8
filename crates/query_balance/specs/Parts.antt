-- What the parts of a balance's query promise to each other.
use Rattle.std.specs.Prelude.{ℕ, ◌≤◌, ◌<◌, Bool, ◌||◌, List, eqb, ltb}
use Rattle.rules.specs.Queries as Q
use Rattle.session.specs.declared.Session.{Session}
use Rattle.session.specs.declared.HourFigures.{HourFigures}
use Rattle.query.specs.Parts.{HourFits}
use Rattle.query_balance.specs.declared.Balance.{Balance}
use Rattle.query_balance.specs.declared.Balance.TheVariants.{Market, Bilateral}

-- 5, range: no border 1 to 4
abbrev pub bad_border : ℕ → Bool
bad_border border = eqb border 0 || ltb 4 border

-- what no row refuses: one of the four borders in an hour of a cleared day, whose figures have this index
pub record BorderFits (s : Session) (border hour at : ℕ) : Type 0 where
  pub hours : HourFits s hour at
  pub low : 0 < border
  pub high : border ≤ 4

-- the query of a balance, and the energies that it is made of
abbrev pub balance_query : Balance → ℕ → ℕ → Q.Query
balance_query = elim [
  | Market ↦ λ border hour. Q.market border hour
  | Bilateral ↦ λ border hour. Q.bilateral border hour
]

abbrev pub balance_of : Balance → HourFigures → List ℕ
balance_of = elim [
  | Market ↦ λ figures. figures.market
  | Bilateral ↦ λ figures. figures.bilateral
]

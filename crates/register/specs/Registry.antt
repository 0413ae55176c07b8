-- Searches among units.
use Rattle.std.specs.Prelude.{ℕ, Bool, ◌&&◌, List, get_or}
use Rattle.std.specs.declared.option.Option.{Option}
use Rattle.std.specs.declared.option.Option.TheVariants.{Some, None}
use Rattle.rules.specs.Units.{TradingUnit, is_second_to, french, french_of}
use Rattle.session.specs.Image.{unit_in, no_notice}
use Rattle.session.specs.declared.Unit.{Unit}
use Rattle.session.specs.declared.Notice.{Notice}

-- one of the agent, border, side and mark of u
abbrev pub beside_unit : TradingUnit → Unit → Bool
beside_unit u v = is_second_to u (unit_in v)

-- a French unit of the agent and side of u, if u is French
abbrev pub shares_rights : TradingUnit → Unit → Bool
shares_rights u v = french u && french_of u.agent u.purchase (unit_in v)

-- the rights of the unit at an index, or none
abbrev pub rights_from : List Notice → Option ℕ → Notice
rights_from rs = elim [
  | Some at ↦ get_or rs at no_notice
  | None ↦ no_notice
]

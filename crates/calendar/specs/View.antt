-- What a caller's structs say.
use Rattle.std.specs.Prelude.{ℕ, cond, eqb, Some, None}
use Rattle.std.specs.declared.option.Option.{Option}
use Rattle.rules.specs.Hours as H
use Rattle.calendar.specs.declared.Date.{Date}
use Rattle.calendar.specs.declared.Clock.{Clock}

abbrev pub date_in : Date → H.Date
date_in d = record { year = d.year; month = d.month; day = d.day }

abbrev pub clock_in : Clock → H.Clock
clock_in c = record { name = c.name; second = c.second }

-- the rules' hour, 0 where the day lacks it
abbrev pub hour_if_any : ℕ → Option ℕ
hour_if_any h = cond (eqb h 0) None (Some h)

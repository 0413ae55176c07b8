-- What a unit, its notices and the capacities of a session say, and the judgement by their limits.
use Rattle.std.specs.Prelude.{ℕ, Bool, cond, not, List, [], ◌∷◌, map, replicate, Some, None}
use Rattle.std.proofs.Math.Option.{Option, some, none}
use Rattle.rules.specs.Lists.{hourly}
use Rattle.rules.specs.Refusals.{first_row}
use Rattle.rules.specs.Rows.{number_of}
use Rattle.rules.specs.declared.row.Row.TheVariants.{Maximum, Available, Border, Rights}
use Rattle.rules.specs.Units.{Registered, Lines, unit_loss, border_sum, increased_sum, lessened}
use Rattle.rules.specs.Units as U
use Rattle.rules.specs.Lodging.{judged_by, limit_rows}
use Rattle.session.specs.Image.{unit_in}
use Rattle.session.specs.Parts.{given_by}
use Rattle.session.specs.declared.Unit.{Unit}
use Rattle.session.specs.declared.Notice.{Notice}
use Rattle.judge_limits.specs.declared.Limit.{Limit}
use Rattle.std.specs.declared.option.Option as O
use Rattle.std.specs.Option.{option_map_or}

-- a notice that the session keeps: absent, or its energies
unfoldable pub notice_in : Notice → Option (List ℕ)
notice_in n = cond n.given (some n.energies) none

-- a unit with its notices, of unavailability and of rights
abbrev pub registered_in : Unit → Notice → Notice → Registered
registered_in u n g = record { unit = unit_in u; available = notice_in n; rights = notice_in g }

-- the lines, by the session's capacities and losses
abbrev pub lines_in : List Notice → List ℕ → Lines
lines_in cs losses = record { capacities = map notice_in cs; losses = losses }

-- The judgement: the first of the limits that is passed, with the lowest hour in which it is.
unfoldable pub judged_in : Unit → Notice → Notice → List Notice → List ℕ → Bool → ℕ → List ℕ → (ℕ → ℕ) → Option (ℕ × ℕ)
judged_in u n g cs losses only H own load = given_by (first_row (limit_rows H own load (judged_by (lines_in cs losses) (registered_in u n g) only)))

-- what a unit's border sum is lessened by in an hour: its rights, or nothing for a marked one
unfoldable pub taken_off : Unit → Notice → ℕ → ℕ
taken_off u g h = cond u.rights 0 (cond g.given (hourly g.energies h) 0)

-- limit 12 of a unit in an hour: the border sum with its loss, then less its rights
unfoldable pub line_at : Unit → Notice → List Notice → List ℕ → ℕ → Option ℕ
line_at u g cs losses h = lessened (taken_off u g h) (increased_sum (unit_loss losses (unit_in u)) (border_sum (map notice_in cs) u.border h))

-- a limit by hour in an hour, none where it does not apply
unfoldable pub limit_at : O.Option (List ℕ) → ℕ → Option ℕ
limit_at b h = option_map_or (λ (es : List ℕ). some (hourly es h)) b none

-- A list of limits

-- a limit, as the rules have it
abbrev pub limit_in : Limit → U.Limit
limit_in l = record { number = number_of l.row; at = limit_at l.by_hour }

-- limit 10: all that a default lodgement is judged by, "against 10 only"
unfoldable pub maximum_limit_for : Unit → Limit
maximum_limit_for u = record { row = Maximum; by_hour = Some (replicate 25 u.maximum) }

-- a unit's own limits
unfoldable pub own_limits_for : Unit → Notice → List Limit
own_limits_for u n = maximum_limit_for u ∷ record { row = Available; by_hour = Some (cond n.given n.energies (replicate 25 u.maximum)) } ∷ []

-- those that it has by its border, with its line (limit 12); limit 15 is a marked unit's
unfoldable pub border_limits_for : Unit → Notice → O.Option (List ℕ) → List Limit
border_limits_for u g line =
    record { row = Border; by_hour = line }
    ∷ record { row = Rights; by_hour = cond (not u.rights) None (Some (cond g.given g.energies (replicate 25 0))) }
    ∷ []

-- the judgement by some limits: the first that is passed, with the lowest hour in which it is
unfoldable pub first_passed : List Limit → ℕ → List ℕ → (ℕ → ℕ) → Option (ℕ × ℕ)
first_passed ls H own load = given_by (first_row (limit_rows H own load (map limit_in ls)))

-- a judgement, and where it refuses nothing another
unfoldable pub else_by : Option (ℕ × ℕ) → Option (ℕ × ℕ) → Option (ℕ × ℕ)
else_by none o = o
else_by (some r) o = some r

-- "Hours of the day": dates, the number of hours of a day, clock names.
use Rattle.std.specs.Prelude.{ℕ, zero, suc, ◌+◌, ◌*◌, ◌-◌, ◌/◌, ◌%◌, Bool, cond, not, ◌&&◌, ◌||◌, List, [], ◌∷◌, leb, ltb, eqb}
use Rattle.std.specs.Bool.{beq}
use Rattle.rules.specs.Lists.{lowest}
use Rattle.rules.specs.Refusals.{Row, row, Outcome, outcome}

pub record Date : Type 0 where
  pub year : ℕ
  pub month : ℕ
  pub day : ℕ

-- "Gregorian": a leap year is a multiple of 4, but of centuries only each fourth
unfoldable pub leap : ℕ → Bool
leap y = (eqb (y % 4) 0 && not (eqb (y % 100) 0)) || eqb (y % 400) 0

unfoldable pub days_of_month : ℕ → ℕ → ℕ
days_of_month y m =
    cond (eqb m 2) (cond (leap y) 29 28)
    (cond (eqb m 4 || eqb m 6 || eqb m 9 || eqb m 11) 30 31)

-- "Dates run from 2002-01-01 to 2099-12-31, Gregorian."
unfoldable pub is_date : Date → Bool
is_date d =
    leb 2002 d.year && leb d.year 2099
    && leb 1 d.month && leb d.month 12
    && leb 1 d.day && leb d.day (days_of_month d.year d.month)

-- days of the year y in its first m months
unfoldable pub days_before : ℕ → ℕ → ℕ
days_before y zero = 0
days_before y (suc m) = days_before y m + days_of_month y (suc m)

-- the day's number, 1 on 0001-01-01 of the Gregorian calendar, which is a Monday
unfoldable pub day_number : Date → ℕ
day_number d =
    let y = d.year - 1 in
    y * 365 + y / 4 - y / 100 + y / 400 + days_before d.year (d.month - 1) + d.day

-- a Sunday with no other in the rest of its month
unfoldable pub last_sunday : Date → Bool
last_sunday d = eqb (day_number d % 7) 0 && ltb (days_of_month d.year d.month) (d.day + 7)

-- "the last Sunday of March has H = 23 hours, the last Sunday of October 25, other days 24"
unfoldable pub hours_of : Date → ℕ
hours_of d =
    cond (eqb d.month 3 && last_sunday d) 23
    (cond (eqb d.month 10 && last_sunday d) 25 24)

-- A clock name with its mark: the starting local hour, and whether it is marked "second".
pub record Clock : Type 0 where
  pub name : ℕ
  pub second : Bool

-- "on 24 hours h−1; on 23, h−1 up to hour 2, then h; on 25, h−1 up to hour 3, then h−2"
unfoldable pub clock_name : ℕ → ℕ → ℕ
clock_name H h =
    cond (eqb H 23) (cond (leb h 2) (h - 1) h)
    (cond (eqb H 25) (cond (leb h 3) (h - 1) (h - 2))
    (h - 1))

-- "Hours 3 and 4 of a 25-hour day are both named 2, the first unmarked, the second marked "second"."
unfoldable pub clock_of : ℕ → ℕ → Clock
clock_of H h = record { name = clock_name H h; second = eqb H 25 && eqb h 4 }

unfoldable pub same_clock : Clock → Clock → Bool
same_clock a b = eqb a.name b.name && beq a.second b.second

-- "Name plus mark gives back the hour": the hour of 1 to H that has this clock; 0 where the day lacks it
unfoldable pub hour_of : ℕ → Clock → ℕ
hour_of H c = lowest (λ h. same_clock (clock_of H h) c) H

-- "Hours are numbered 1 to H": what is not among them
unfoldable pub not_an_hour : ℕ → ℕ → Bool
not_an_hour H h = eqb h 0 || ltb H h

-- 1, date: "not a date in the range"
unfoldable pub date_row : Date → Row
date_row d = row 1 (not (is_date d))

-- the number of hours of a date
unfoldable pub hours_at : Date → Outcome ℕ
hours_at d = outcome (date_row d ∷ []) (hours_of d)

-- the clock name and mark of an hour of a date. 4, hour: "hour outside 1 to H"
unfoldable pub clock_rows : Date → ℕ → List Row
clock_rows d h = date_row d ∷ row 4 (not_an_hour (hours_of d) h) ∷ []

unfoldable pub clock_at : Date → ℕ → Outcome Clock
clock_at d h = outcome (clock_rows d h) (clock_of (hours_of d) h)

-- the hour of a clock name and mark of a date. 4, hour: "clock name the day lacks"
unfoldable pub hour_rows : Date → Clock → List Row
hour_rows d c = date_row d ∷ row 4 (eqb (hour_of (hours_of d) c) 0) ∷ []

unfoldable pub hour_at : Date → Clock → Outcome ℕ
hour_at d c = outcome (hour_rows d c) (hour_of (hours_of d) c)

unfoldable pub unfold_hours : Unit {0}
unfolding leap days_of_month is_date days_before day_number last_sunday hours_of clock_name clock_of same_clock hour_of not_an_hour date_row hours_at clock_rows clock_at hour_rows hour_at
unfold_hours = tt

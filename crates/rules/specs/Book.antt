-- "Day book": what it keeps.
use Rattle.std.specs.Prelude.{ℕ, Bool, false, List, [], replicate}
use Rattle.std.proofs.Math.Option.{none}
use Rattle.rules.specs.Hours.{Date, hours_of}
use Rattle.rules.specs.Units.{Registered, Capacities, Lines, Limit, limits, ceiling, unit_of}
use Rattle.rules.specs.Lodging.{Lodgement}

-- "It keeps what the rules ask of accepted calls: units, last notices, standing lodgements with their numbers, the last
-- number, whether closed or cleared." A unit's last unavailability notice stands with the unit, and with a
-- French one its agent's last rights on its side; standing lodgements are
-- in the order of their numbers. ("Day book" is document 01's term.) K2: and the losses, five of them, by border; the first, of no border, is 0 for ever.
pub record Book : Type 0 where
  pub date : Date
  pub units : List Registered
  pub capacities : Capacities
  pub standing : List Lodgement
  pub last : ℕ
  pub closed : Bool
  pub cleared : Bool
  pub losses : List ℕ

unfoldable pub hours : Book → ℕ
hours b = hours_of b.date

-- what is set for the lines
abbrev pub lines_of : Book → Lines
lines_of b = record { capacities = b.capacities; losses = b.losses }

-- the limits of a unit number by its notices and the lines
unfoldable pub limits_of : Book → ℕ → List Limit
limits_of b u = limits (lines_of b) (unit_of b.units u)

-- and the ceiling in an hour
unfoldable pub ceiling_of : Book → ℕ → ℕ → ℕ
ceiling_of b u h = ceiling (lines_of b) (unit_of b.units u) h

-- "A fresh session follows from the date only: no units, no notices, no lodgements." "It starts open and empty." K2, of a loss: "it starts at 0."
unfoldable pub fresh : Date → Book
fresh d = record { date = d; units = []; capacities = replicate 8 none; standing = []; last = 0; closed = false; cleared = false; losses = replicate 5 0 }

-- What closing freezes: all that the book keeps but whether it is closed or cleared. Verdicts and figures follow from it alone.
pub record Frozen : Type 0 where
  pub date : Date
  pub units : List Registered
  pub capacities : Capacities
  pub standing : List Lodgement
  pub last : ℕ
  pub losses : List ℕ

unfoldable pub frozen : Book → Frozen
frozen b = record { date = b.date; units = b.units; capacities = b.capacities; standing = b.standing; last = b.last; losses = b.losses }

unfoldable pub unfold_book : Unit {0}
unfolding hours limits_of ceiling_of fresh frozen
unfold_book = tt

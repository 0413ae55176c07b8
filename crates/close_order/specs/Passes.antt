-- The classes of a closing: what each is handed and hands on.
use Rattle.std.specs.Prelude.{ℕ, suc, ◌+◌, ◌<◌, ◌≡◌, Bool, true, false, cond, List, [], map, get_or, take}
use Rattle.rules.specs.Lists.{from, sum_of}
use Rattle.rules.specs.Book.{Book}
use Rattle.session.specs.Image.{image, verdict_as, no_verdict}
use Rattle.session.specs.Parts.{unit_index}
use Rattle.close_order.specs.declared.Class.{Class}
use Rattle.close_order.specs.declared.Class.TheVariants.{Normal, Default, Offers}
use Rattle.session.specs.declared.Key.{Key}
use Rattle.session.specs.declared.Verdict.{Verdict}
use Rattle.session.specs.declared.Session.{Session}
use Rattle.judge_loads.specs.Loads.{marked, energy_in}
use Rattle.close_ceilings.specs.Ceilings.{ceiling_at}
use Rattle.close_judge.specs.Classes.{has_passed, class_at, verdict_at, is_taken, counts_at}

-- "normal executions, default executions, offers"
unfoldable pub class_in : Key → Class
class_in k = cond k.execution (cond k.default Default Normal) Offers

-- a class by its number
abbrev pub number_of : Class → ℕ
number_of = elim [
  | Normal ↦ 0
  | Default ↦ 1
  | Offers ↦ 2
]

-- whether the index is taken
abbrev pub TakesAt : Session → ℕ → ℕ → Bool → Type 0
TakesAt s class i r = (b : Book) → s ≡ image b → r ≡ is_taken b class i

-- Where a closing stands

-- of a unit in an hour, counted from 0: the room that is left
abbrev pub room_on : Session → List (List ℕ) → ℕ → ℕ → ℕ
room_on s room unit h = get_or (get_or room (unit_index s unit) []) h 0

-- the energy accepted so far
unfoldable pub accepted_on : Session → List Verdict → ℕ → ℕ → ℕ
accepted_on s vs unit h =
    sum_of (energy_in (suc h)) (marked (map (counts_at unit vs s.lodgements) (from 0 128)) (take s.standing s.energies))

-- and the ceiling
abbrev pub ceiling_on : Session → ℕ → ℕ → ℕ
ceiling_on s unit h = ceiling_at s.units s.notices s.rights s.capacities s.losses (unit_index s unit) h

-- A closing that stands at index i of a class (0 normal executions, 1 default executions, 2 offers): verdicts and room.
pub record ClosingAt (s : Session) (b : Book) (class i : ℕ) (vs : List Verdict) (room : List (List ℕ)) : Type 0 where
  -- "Unhidden lodgements are taken in this order: normal executions, default executions, offers; within each, latest number
  -- first": those of the earlier classes, and of this one those from the last index down to i, have the book's verdicts
  pub passed : (j : ℕ) → has_passed (class_at b) class i j ≡ true → get_or vs j no_verdict ≡ verdict_as (verdict_at b j)
  -- and the others have none yet
  pub waiting : (j : ℕ) → has_passed (class_at b) class i j ≡ false → get_or vs j no_verdict ≡ no_verdict
  -- "Each is accepted unless in an hour it names its energy, plus that of those accepted before it on its unit, passes the
  -- ceiling": the room is what those accepted so far leave under the ceiling
  pub left : (unit h : ℕ) → unit_index s unit < s.enrolled → h < s.hours → room_on s room unit h + accepted_on s vs unit h ≡ ceiling_on s unit h

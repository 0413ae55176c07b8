-- How far a closing has come, and what the session's verdicts are there.
use Rattle.std.specs.Prelude.{ℕ, ◌+◌, ◌≡◌, Bool, true, false, not, ◌&&◌, ◌||◌, List, [], map, ltb, leb, eqb, length, get_or, take, Some, None}
use Rattle.rules.specs.Lists.{from}
use Rattle.judge_loads.specs.Loads.{marked}
use Rattle.std.specs.declared.option.Option as O
use Rattle.std.specs.Option.{option_eq}
use Rattle.rules.specs.Lodging as L
use Rattle.rules.specs.Book.{Book}
use Rattle.rules.specs.Closing as C
use Rattle.rules.specs.Demands.{class_of}
use Rattle.session.specs.Image.{image, Sound, verdict_as, no_verdict, no_lodgement}
use Rattle.close_holders.specs.Holders.{holder_of}
use Rattle.session.specs.declared.Lodgement.{Lodgement}
use Rattle.session.specs.declared.Verdict.{Verdict}
use Rattle.session.specs.declared.Session.{Session}
use Rattle.std.proofs.Math.Option.{Option, some, none}

-- By classes, the last index first

-- "within each, latest number first": a closing at index i of a class has passed the earlier classes, and of this one the indices from i on
unfoldable pub has_passed : (ℕ → ℕ) → ℕ → ℕ → ℕ → Bool
has_passed classes class i j = ltb (classes j) class || (eqb (classes j) class && leb i j)

-- The verdicts of a closing there.
pub record ReachedBy (classes : ℕ → ℕ) (given : ℕ → C.Verdict) (class i : ℕ) (vs : List Verdict) : Type 0 where
  -- an index that is passed has its verdict
  pub passed : (j : ℕ) → has_passed classes class i j ≡ true → get_or vs j no_verdict ≡ verdict_as (given j)
  -- and another has none yet
  pub waiting : (j : ℕ) → has_passed classes class i j ≡ false → get_or vs j no_verdict ≡ no_verdict

-- The book's side

-- a lodgement that is read beyond the standing ones
abbrev pub beyond : L.Lodgement
beyond = record { key = record { execution = false; default = false; unit = 0; contract = 0 }; number = 0; energies = []; prices = [] }

-- the standing lodgement at an index
abbrev pub standing_at : Book → ℕ → L.Lodgement
standing_at b i = get_or b.standing i beyond

-- "closing gives each standing one its verdict": that of an index
abbrev pub verdict_at : Book → ℕ → C.Verdict
verdict_at b i = get_or (C.verdicts b) i C.hidden

-- an index is taken in a class (0 normal executions, 1 default executions, 2 offers) if it is of that class and unhidden
unfoldable pub is_taken : Book → ℕ → ℕ → Bool
is_taken b class i = eqb (class_of (standing_at b i)) class && not (L.is_hidden b.standing (standing_at b i))

-- the class of an index
unfoldable pub class_at : Book → ℕ → ℕ
class_at b i = class_of (standing_at b i)

-- these verdicts are those of a closing that stands at index i of a class
abbrev pub Reached : Book → ℕ → ℕ → List Verdict → Type 0
Reached b class i vs = ReachedBy (class_at b) (verdict_at b) class i vs

-- the index of each standing one's unit
abbrev pub HoldersOf : Session → List (O.Option ℕ) → Type 0
HoldersOf s holders = holders ≡ map (holder_of (take s.enrolled s.units)) (take s.standing s.lodgements)

-- What judging a lodgement promises

-- the verdict of an index that is taken, by those before it
abbrev pub JudgesAt : Session → List Verdict → ℕ → Verdict → Type 0
JudgesAt s vs i r =
    (b : Book) (class : ℕ) → Sound b → s ≡ image b → Reached b class (i + 1) vs → is_taken b class i ≡ true → r ≡ verdict_as (verdict_at b i)

-- The code's side

-- "those accepted before it on its unit"
unfoldable pub counts_on : ℕ → Verdict → Lodgement → Bool
counts_on unit v l = v.accepted && eqb l.key.unit unit

unfoldable pub counts_at : ℕ → List Verdict → List Lodgement → ℕ → Bool
counts_at unit vs ls j = counts_on unit (get_or vs j no_verdict) (get_or ls j no_lodgement)

-- the same by the index of the unit
unfoldable pub held_at : ℕ → List Verdict → List (O.Option ℕ) → ℕ → Bool
held_at p vs holders j = (get_or vs j no_verdict).accepted && option_eq eqb (get_or holders j None) (Some p)

-- the indices of those that are held
abbrev pub accepted_for : ℕ → List Verdict → List (O.Option ℕ) → List ℕ
accepted_for p vs holders = marked (map (held_at p vs holders) (from 0 128)) (from 0 (length holders))

-- the units of which a lodgement is accepted are marked
abbrev pub Used : List Verdict → List (O.Option ℕ) → List Bool → Type 0
Used vs holders used = (j q : ℕ) → (get_or vs j no_verdict).accepted ≡ true → get_or holders j None ≡ Some q → get_or used q false ≡ true

-- a judgement by the limits as a verdict
unfoldable pub verdict_by : Option (ℕ × ℕ) → Verdict
verdict_by none = record { accepted = true; reserved = 0; reserved2 = 0; limit = 0; hour = 0 }
verdict_by (some r) = record { accepted = false; reserved = 0; reserved2 = 0; limit = r.0; hour = r.1 }

-- of one that no limit refuses
abbrev pub accepting : Verdict
accepting = verdict_by none

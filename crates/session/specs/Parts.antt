-- What the parts of a call promise to each other: of use inside the crates of the session only.
use Rattle.std.specs.Prelude.{ℕ, suc, ◌≤◌, ◌≡◌, Bool, false, cond, ◌&&◌, List, [], ◌∷◌, leb, eqb, take, get_or, position, option_map}
use Rattle.std.proofs.Math.Option.{Option, some, none}
use Rattle.std.specs.declared.option.Option as O
use Rattle.std.specs.declared.result.Result.{Result}
use Rattle.std.specs.declared.result.Result.TheVariants.{Ok, Err}
use Rattle.rules.specs.Rows.{number_of}
use Rattle.rules.specs.declared.row.Row as Code
use Rattle.rules.specs.Refusals.{Row, first_row}
use Rattle.rules.specs.Book.{Book}
use Rattle.rules.specs.DayBook as D
use Rattle.session.specs.Image.{image, Sound, no_unit}
use Rattle.answer.specs.Told.{refused, refusal, is_refusal}
use Rattle.answer.specs.declared.Refusal.{Refusal}
use Rattle.session.specs.Steps.{As}
use Rattle.session.specs.declared.Unit.{Unit}
use Rattle.session.specs.declared.Holder.{Holder}
use Rattle.session.specs.declared.Session.{Session}
use Rattle.session.specs.declared.Effect.{Effect}

-- Guard, judgement, entry

abbrev pub refused_as : Session → ℕ → ℕ → Effect
refused_as s row hour = record { session = s; answer = refused row hour }

abbrev pub refused_with : Session → Refusal → Effect
refused_with s r = record { session = s; answer = refusal r }

-- the row's number and hour that a judgement refuses by, if it does
abbrev pub refused_by : {A E : Type 0} → (E → ℕ × ℕ) → Result A E → Option (ℕ × ℕ)
refused_by of = elim [
  | Ok a ↦ none
  | Err e ↦ some (of e)
]

abbrev pub by_row : Code.Row → ℕ × ℕ
by_row r = (number_of r, 0)

abbrev pub by_refusal : Refusal → ℕ × ℕ
by_refusal r = (number_of r.row, r.hour)

-- what a judgement with an hour says
abbrev pub said : {A : Type 0} → Result A Refusal → Option (ℕ × ℕ)
said j = refused_by by_refusal j

-- and those of a row of the table
unfoldable pub given_by : Option Row → Option (ℕ × ℕ)
given_by none = none
given_by (some r) = some (r.number, r.hour)

-- a judgement is the first row of the table that applies; what is found on the way is its `Ok`. A row without an hour is one by itself.
abbrev pub JudgesBy : {A E : Type 0} → (E → ℕ × ℕ) → Session → D.Call → Result A E → Type 0
JudgesBy of s c j = (b : Book) → s ≡ image b → refused_by of j ≡ given_by (first_row (D.rows_of b c))

abbrev pub JudgesRow : {A : Type 0} → Session → D.Call → Result A Code.Row → Type 0
JudgesRow s c j = JudgesBy by_row s c j

abbrev pub Judges : {A : Type 0} → Session → D.Call → Result A Refusal → Type 0
Judges s c j = JudgesBy by_refusal s c j

-- a call's effect on a session, where no row refuses it
pub record Entered (s : Session) (c : D.Call) (r : Effect) : Type 0 where
  pub book : (b : Book) → Sound b → first_row (D.rows_of b c) ≡ none → s ≡ image b → As (record { book = D.applied b c; answer = D.reply b c }) r.answer r.session
  pub fine : is_refusal r.answer ≡ false

-- The guard: counts that fit their arrays

pub record Within (s : Session) : Type 0 where
  pub hours : s.hours ≤ 25
  pub enrolled : s.enrolled ≤ 64
  pub standing : s.standing ≤ 128
  pub last : s.last ≤ 65535

abbrev pub within : Session → Bool
within s = leb s.hours 25 && (leb s.enrolled 64 && (leb s.standing 128 && leb s.last 65535))

-- Searches among units

-- the index of the first that passes a test, or the count of all
unfoldable pub index_of : {A : Type 0} → (A → Bool) → List A → ℕ
index_of p [] = 0
index_of p (x ∷ xs) = cond (p x) 0 (suc (index_of p xs))

abbrev pub number_is : ℕ → Unit → Bool
number_is n u = eqb u.number n

-- the index of a unit among the registered ones, or their number
abbrev pub unit_index : Session → ℕ → ℕ
unit_index s unit = index_of (number_is unit) (take s.enrolled s.units)

-- the unit of a number among some: its index, and what stands there
abbrev pub held : List Unit → ℕ → O.Option Holder
held units number = option_map (λ at. record { at = at; unit = get_or units at no_unit }) (position (number_is number) units)

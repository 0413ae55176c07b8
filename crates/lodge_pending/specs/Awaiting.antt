-- A message that is read, before its energy is judged.
use Rattle.std.specs.Prelude.{ℕ, ◌<◌, ◌≡◌, false, List}
use Rattle.std.specs.declared.result.Result.{Result}
use Rattle.std.specs.declared.result.Result.TheVariants.{Ok, Err}
use Rattle.rules.specs.declared.row.Row as Code
use Rattle.rules.specs.Message.{message_of}
use Rattle.rules.specs.Book.{Book}
use Rattle.rules.specs.DayBook as D
use Rattle.message.specs.View.{fields_in}
use Rattle.message.specs.declared.Fields.{Fields}
use Rattle.answer.specs.declared.Refusal.{Refusal}
use Rattle.session.specs.Image.{image, key_in}
use Rattle.session.specs.Parts.{Within, Judges, refused_with, by_row, by_refusal}
use Rattle.session.specs.Steps.{Met}
use Rattle.session.specs.declared.Session.{Session}
use Rattle.listed.specs.View.{listed}
use Rattle.lodge_keys.specs.Keys.{key_for, key_index}
use Rattle.lodge_keys.specs.Holding.{FoundAt}
use Rattle.lodge_keys.specs.Beside.{marks_for, CountedOf}
use Rattle.lodge_judge.specs.Judging.{Room, JudgesLimits}
use Rattle.lodge_pending.specs.declared.Pending.{Pending}

-- what judging asks of a message once it is read
pub record Awaits (s : Session) (p : Pending) : Type 0 where
  pub within : Within s
  pub key : p.key ≡ key_for p.fields
  pub replaced : p.replaces ≡ key_index s p.key
  pub holder : FoundAt s p.fields.unit p.holder
  pub room : Room s p.key
  pub beside : CountedOf (marks_for s p.fields) s.standing (listed p.beside)
  pub notice : p.holder.at < 64

-- its unit may hold its key
abbrev pub HoldsIts : Session → Pending → Type 0
HoldsIts s p = (b : Book) → s ≡ image b → D.bad_holder b (key_in p.key) ≡ false

-- a message of the right form, by its fields
pub record Found (s : Session) (m : Fields) (p : Pending) : Type 0 where
  pub ready : Awaits s p
  pub good : HoldsIts s p
  pub fields : p.fields ≡ m

-- a message's bytes, read: its fields, of which the limits are left to judge
pub record Read (s : Session) (bytes : List ℕ) (p : Pending) : Type 0 where
  pub ready : Awaits s p
  pub good : HoldsIts s p
  pub left : (j : Result (Unit {0}) Refusal) → JudgesLimits s (fields_in p.fields) j → Judges s (D.lodge bytes) j
  pub fields : fields_in p.fields ≡ message_of bytes

-- or refused as the rules say
abbrev pub Refused : Session → List ℕ → Code.Row → Type 0
Refused s bytes r = (x : Refusal) → by_refusal x ≡ by_row r → Met s (D.lodge bytes) (refused_with s x)

abbrev pub Pends : Session → List ℕ → Result Pending Code.Row → Type 0
Pends s bytes = elim [
  | Ok p ↦ Read s bytes p
  | Err r ↦ Refused s bytes r
]

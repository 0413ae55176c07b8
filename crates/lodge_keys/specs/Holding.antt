-- The unit that a key names, as the session has it and as the book has it.
use Rattle.std.specs.Prelude.{ℕ, ◌≡◌, ◌<◌, true, false, get_or}
use Rattle.std.specs.declared.result.Result.{Result}
use Rattle.std.specs.declared.result.Result.TheVariants.{Ok, Err}
use Rattle.rules.specs.declared.row.Row.{Row}
use Rattle.rules.specs.declared.row.Row.TheVariants.{Unit}
use Rattle.rules.specs.Book.{Book}
use Rattle.rules.specs.DayBook.{bad_holder}
use Rattle.session.specs.Image.{image, key_in, no_unit}
use Rattle.session.specs.Parts.{unit_index}
use Rattle.session.specs.declared.Key.{Key}
use Rattle.session.specs.declared.Session.{Session}
use Rattle.session.specs.declared.Holder.{Holder}

-- a unit that is found by its number: where it stands, and what stands there
pub record FoundAt (s : Session) (number : ℕ) (h : Holder) : Type 0 where
  pub index : h.at ≡ unit_index s number
  pub inside : h.at < s.enrolled
  pub unit : h.unit ≡ get_or s.units h.at no_unit

-- it is the unit that holds the key
pub record Holding (s : Session) (k : Key) (h : Holder) : Type 0 where
  pub found : FoundAt s k.unit h
  pub good : (b : Book) → s ≡ image b → bad_holder b (key_in k) ≡ false

-- row 6
pub record NotHolding (s : Session) (k : Key) (r : Row) : Type 0 where
  pub row : r ≡ Unit
  pub bad : (b : Book) → s ≡ image b → bad_holder b (key_in k) ≡ true

abbrev pub HolderFor : Session → Key → Result Holder Row → Type 0
HolderFor s k = elim [
  | Ok h ↦ Holding s k h
  | Err r ↦ NotHolding s k r
]

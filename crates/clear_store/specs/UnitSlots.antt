-- The slot of each unit, by the two bytes of its number.
use Rattle.std.specs.Prelude.{ℕ, ◌+◌, ◌*◌, ◌/◌, ◌%◌, ◌≤◌, ◌<◌, ◌≡◌, List, get_or, length}
use Rattle.session.specs.declared.Unit.{Unit}
use Rattle.session.specs.Image.{no_unit}

-- the row of a number's last byte, 0 where no unit's number has it
unfoldable pub row_of : List ℕ → ℕ → ℕ
row_of rows n = get_or rows (n % 256) 0

-- the slot of a number: in its row at the byte before
unfoldable pub slot_of : (rows slots : List ℕ) → ℕ → ℕ
slot_of rows slots n = get_or slots (row_of rows n * 256 + n / 256 % 256) 0

-- the rows of k units: each is of one last byte
pub record Rows (k : ℕ) (rows : List ℕ) : Type 0 where
  pub few : (a : ℕ) → get_or rows a 0 ≤ k
  pub own : (a b : ℕ) → 0 < get_or rows a 0 → get_or rows a 0 ≡ get_or rows b 0 → a ≡ b

-- no unit behind the one at an index has the two last bytes of its number
abbrev pub Last : ℕ → List Unit → Type 0
Last i us = (j : ℕ) → i < j → j < length us → (get_or us j no_unit).number % 65536 ≡ (get_or us i no_unit).number % 65536 → ⊥

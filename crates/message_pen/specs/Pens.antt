-- Writing bits into a buffer of bytes: how far a message is written, and what the buffer holds once it is written out.
use Rattle.std.specs.Prelude.{ℕ, ◌+◌, ◌*◌, ◌/◌, ◌%◌, ◌^◌, ◌≤◌, ◌<◌, Bool, false, ◌≡◌, List, ◌++◌, length}
use Rattle.std.proofs.lemmas.List.Edits.{sets}
use Rattle.rules.specs.Units.{max_energy}
use Rattle.rules.specs.Message as M
use Rattle.message_pen.specs.declared.Page.{Page}
use Rattle.message_pen.specs.declared.Pen.{Pen}

-- the buffer with the last n bytes of v, highest first, from byte `at` on
unfoldable pub stored : List ℕ → ℕ → ℕ → ℕ → List ℕ
stored buf at v n = sets buf at (M.bytes_of (M.bits (n * 8) v))

-- the pen at the first bit
abbrev pub first : Pen
first = record { pos = 0; acc = 0 }

-- the buffer once bits `bs` follow those that are written and zero bits fill the last byte
unfoldable pub completed_at : List ℕ → Pen → List ℕ → List ℕ
completed_at buf p bs = sets buf (p.pos / 8) (M.bytes_of (M.bits (p.pos % 8) p.acc ++ bs))

abbrev pub completed : Page → List ℕ → List ℕ
completed p bs = completed_at p.buffer.now p.pen bs

-- w more bits find room in the buffer
pub record RoomAt (buf : List ℕ) (p : Pen) (w : ℕ) : Type 0 where
  pub byte : p.acc < 256
  pub within : p.pos + w ≤ length buf * 8
  pub small : p.pos + w < 2 ^ 32

abbrev pub Room : Page → ℕ → Type 0
Room p w = RoomAt p.buffer.now p.pen w

-- bits `bs` are appended: whatever follows, the buffer comes to hold the same
pub record AppendedAt (old : List ℕ) (p : Pen) (bs : List ℕ) (new : List ℕ) (r : Pen) : Type 0 where
  pub long : length new ≡ length old
  pub moved : r.pos ≡ p.pos + length bs
  pub byte : r.acc < 256
  pub same : (rest : List ℕ) → completed_at new r rest ≡ completed_at old p (bs ++ rest)

-- the page stays at its buffer, and bits `bs` are appended there
pub record Appended (p : Page) (bs : List ℕ) (r : Page) : Type 0 where
  pub same : r.buffer.ghost_name ≡ p.buffer.ghost_name
  pub at : AppendedAt p.buffer.now p.pen bs r.buffer.now r.pen

-- fields that are not refused
pub record InRanges (m : M.Fields) : Type 0 where
  pub map : M.bad_map m.map ≡ false
  pub values : M.bad_fields max_energy m ≡ false

-- the slots of the hours that a map names, energies having w bits
unfoldable pub slots_of : ℕ → M.Fields → ℕ → List ℕ
slots_of w m map = M.slots w m.key.execution (M.hour_bits map) m.energies m.prices

-- an energy and a price that a slot holds
pub record SlotFits (w : ℕ) (execution : Bool) (e p : ℕ) : Type 0 where
  pub energy : e < 2 ^ w
  pub price : p < 2 ^ M.price_width execution

-- the number that a slot's bits stand for
pub record SlotWord (w : ℕ) (execution : Bool) (e p v : ℕ) : Type 0 where
  pub small : v < 2 ^ M.slot_width w execution
  pub bits : M.bits (M.slot_width w execution) v ≡ M.slot w execution 1 e p

-- The head of a message, and what its slots are refused for.
use Rattle.std.specs.Prelude.{ℕ, zero, suc, ◌*◌, ◌^◌, ◌≤◌, ◌<◌, ◌≡◌, Bool, true, false, ◌||◌, List, [], ◌∷◌, eqb, length, drop, replicate}
use Rattle.rules.specs.Message.{Form, bits_of, field, price_width, head_width, slot_width, slots_end, set_bits, map_width, hour_bits, read_slots, is_execution, map_of}
use Rattle.message_ranges.specs.Slots.{bad_slot}
use Rattle.message.specs.declared.Fields.{Fields}

-- the fields before the slots, the hours blank
abbrev pub blank : List ℕ → Fields
blank bs = record {
  execution = is_execution bs;
  default = eqb (field 6 1 bs) 1;
  reserved = 0;
  unit = field 7 16 bs;
  contract = field 23 16 bs;
  map = map_of bs;
  energies = replicate 25 0;
  prices = replicate 25 0;
}

-- a set hour's energy or price is outside its range, the slots of a map's hours standing one after the other: energies of w bits,
-- at most `top`
unfoldable pub bad_slots : ℕ → ℕ → Bool → List ℕ → List ℕ → Bool
bad_slots w top x [] bs = false
bad_slots w top x (zero ∷ map) bs = bad_slots w top x map bs
bad_slots w top x (suc b ∷ map) bs =
    bad_slot top x true (field 0 w bs) (field w (price_width x) bs) || bad_slots w top x map (drop (slot_width w x) bs)

-- fields whose hours are to be filled in from a message: the bits of the slots are there, and the hours are blank
pub record ToFill (f : Form) (bytes : List ℕ) (m : Fields) : Type 0 where
  pub map : m.map < 2 ^ map_width
  pub there : slots_end f m.execution (set_bits m.map) ≤ 8 * length bytes
  pub energies : m.energies ≡ replicate 25 0
  pub prices : m.prices ≡ replicate 25 0

-- whether a named hour's energy or price is outside its range
abbrev pub bad_hours : Form → List ℕ → Fields → Bool
bad_hours f bytes m = bad_slots f.width f.top m.execution (hour_bits m.map) (drop (head_width f) (bits_of bytes))

-- the fields with every hour filled in
abbrev pub filled : Form → List ℕ → Fields → Fields
filled f bytes m = record m {
  energies = read_slots (field 0 f.width) (slot_width f.width m.execution) (hour_bits m.map) (drop (head_width f) (bits_of bytes));
  prices = read_slots (field f.width (price_width m.execution)) (slot_width f.width m.execution) (hour_bits m.map) (drop (head_width f) (bits_of bytes));
}

-- A message's fields taken one after the other by a reader that moves on through its bits.
use Rattle.std.specs.Prelude.{ℕ, suc, ◌+◌, ◌-◌, ◌^◌, ◌≤◌, min, ◌≡◌, Bool, List, [], ◌∷◌, eqb}
use Rattle.rules.specs.Message.{Form, Fields, field, fields_of, price_width, map_width, hour_bits, set_bits, slots_end}

-- w bits taken from bit `at` on: the number v, and the position after them. At most 32 are taken at once, of bits beyond the end there
-- are none, and the position stays at the last one that 64 bits hold.
abbrev pub Takes : List ℕ → ℕ → ℕ → ℕ → ℕ → Type 0
Takes bs at w v next = (v ≡ field at (min w 32) bs) × (next ≡ min (at + min w 32) (2 ^ 64 - 1))

-- an hour of the map: its energy of w bits and, for an offer, its price; one that is not set has no bits, and its energy and price are 0
pub data SlotTaken (bs : List ℕ) (w : ℕ) (x : Bool) (at : ℕ) : ℕ → ℕ → ℕ → ℕ → Type 0 where
  unset : SlotTaken bs w x at 0 0 0 at
  set : {b e p middle next : ℕ} → Takes bs at w e middle → Takes bs middle (price_width x) p next → SlotTaken bs w x at (suc b) e p next

-- "Then for each set hour, rising: energy 17, and for an offer price 15.": the hours of a map, their energies and prices, from bit `at` to `end`
pub data SlotsTaken (bs : List ℕ) (w : ℕ) (x : Bool) : List ℕ → ℕ → List ℕ → List ℕ → ℕ → Type 0 where
  none : {at : ℕ} → SlotsTaken bs w x [] at [] [] at
  more : {b at e p next end : ℕ} {map es ps : List ℕ} → SlotTaken bs w x at b e p next → SlotsTaken bs w x map next es ps end
      → SlotsTaken bs w x (b ∷ map) at (e ∷ es) (p ∷ ps) end

-- "form 4 bits (1); kind 2 [..]; default mark 1; unit 16; contract 16 [..]; hour map 25", the form's counterparty, and the slots: all fields
-- of a message of form f, from its first bit to `end`
pub data MessageTaken (f : Form) (bs : List ℕ) : Fields → ℕ → Type 0 where
  taken : {form kind mark unit contract map partner a b c d e g start end : ℕ} {energies prices : List ℕ}
      → Takes bs 0 4 form a → Takes bs a 2 kind b → Takes bs b 1 mark c → Takes bs c 16 unit d → Takes bs d 16 contract e
      → Takes bs e map_width map g → Takes bs g f.partner partner start
      → SlotsTaken bs f.width (eqb kind 1) (hour_bits map) start energies prices end
      → MessageTaken f bs (record { key = record { execution = eqb kind 1; default = eqb mark 1; unit = unit; contract = contract }; map = map; energies = energies; prices = prices }) end

-- what is taken so is what the rules read, of any message and of a form whose fields have at most 32 bits; the reader then stands at the
-- last slot's end. `fields-taken` of proofs/TakingLaws.antt proves it.
abbrev pub FieldsTaken : Type 0
FieldsTaken =
    (f : Form) (bs : List ℕ) (m : Fields) (end : ℕ) → f.width ≤ 32 → f.partner ≤ 32 → MessageTaken f bs m end
    → (m ≡ fields_of f bs) × (end ≡ slots_end f m.key.execution (set_bits m.map))

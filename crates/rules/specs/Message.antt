-- "The lodging message": its fields, its bits and bytes, reading and writing.
-- Bits are lists of 0 and 1, most significant first. The codec is stated over the form f of a message, slots over the width w of an energy.
use Rattle.std.specs.Prelude.{ℕ, zero, suc, ◌+◌, ◌*◌, ◌/◌, ◌%◌, ◌^◌, Bool, true, false, cond, not, ◌||◌, List, [], ◌∷◌, ◌++◌, leb, ltb, eqb, length, take, drop, replicate}
use Rattle.rules.specs.Lists.{any, sum, from, hourly, round_up}
use Rattle.rules.specs.Refusals.{Row, row, Outcome, refused, given, outcome}
use Rattle.rules.specs.Units.{max_energy, max_price, bad_number}

-- "A key is kind, default mark, unit and contract."
pub record Key : Type 0 where
  pub execution : Bool  -- the kind: "0 offer, 1 execution"
  pub default : Bool
  pub unit : ℕ
  pub contract : ℕ

-- What a message says. Energies and prices are by hour, 25 of each.
pub record Fields : Type 0 where
  pub key : Key
  pub map : ℕ  -- the hour map as the number its 25 bits stand for, hour 1 the highest
  pub energies : List ℕ
  pub prices : List ℕ

-- What a form of the message fixes.
pub record Form : Type 0 where
  pub number : ℕ
  pub width : ℕ  -- of an energy
  pub top : ℕ  -- the largest energy that it may say
  pub partner : ℕ  -- the bits of the counterparty, after the hour map

-- "form 4 bits (1)"; "energy 17"; "Named energies are 1 to 99,999"
abbrev pub form1 : Form
form1 = record { number = 1; width = 17; top = 99999; partner = 0 }

-- "for an offer price 15"
unfoldable pub price_width : Bool → ℕ
price_width true = 0
price_width false = 15

-- "hour map 25"
abbrev pub map_width : ℕ
map_width = 25

-- form 4, kind 2, default mark 1, unit 16, contract 16, hour map 25; then the counterparty
abbrev pub head_width : Form → ℕ
head_width f = 64 + f.partner

-- Bits

-- n as w bits, "most significant bit first"
unfoldable pub bits : ℕ → ℕ → List ℕ
bits zero n = []
bits (suc w) n = (n / 2 ^ w) % 2 ∷ bits w n

-- the number that bits stand for
unfoldable pub value : List ℕ → ℕ
value [] = 0
value (b ∷ bs) = b * 2 ^ length bs + value bs

-- the number in the w bits from bit `at` on
unfoldable pub field : ℕ → ℕ → List ℕ → ℕ
field at w bs = value (take w (drop at bs))

unfoldable pub bits_of : List ℕ → List ℕ
bits_of [] = []
bits_of (byte ∷ bytes) = bits 8 byte ++ bits_of bytes

-- the first n groups of eight bits, each as a byte
unfoldable pub groups : ℕ → List ℕ → List ℕ
groups zero bs = []
groups (suc n) bs = value (take 8 bs) ∷ groups n (drop 8 bs)

-- "Zero bits fill the last byte."
unfoldable pub bytes_of : List ℕ → List ℕ
bytes_of bs = groups (round_up (length bs) 8) (bs ++ replicate 7 0)

unfoldable pub bit : Bool → ℕ
bit true = 1
bit false = 0

-- The hour map

-- 1 for each hour of the map that is set, "its first bit hour 1"
unfoldable pub hour_bits : ℕ → List ℕ
hour_bits map = bits map_width map

unfoldable pub names : ℕ → ℕ → Bool
names map h = eqb (hourly (hour_bits map) h) 1

-- "The number of set bits n"
unfoldable pub set_bits : ℕ → ℕ
set_bits map = sum (hour_bits map)

-- the bits of one named hour
unfoldable pub slot_width : ℕ → Bool → ℕ
slot_width w execution = w + price_width execution

-- the bits up to the end of the last of n slots
abbrev pub slots_end : Form → Bool → ℕ → ℕ
slots_end f execution n = head_width f + n * slot_width f.width execution

-- "The number of set bits n fixes the length: 8 + 4n bytes, or 8 + 17n/8 rounded up."
unfoldable pub length_for : Form → Bool → ℕ → ℕ
length_for f execution n = 8 + round_up (f.partner + n * slot_width f.width execution) 8

-- Writing

-- "form 4 bits (1); kind 2 [..]; default mark 1; unit 16; contract 16 [..]; hour map 25". Fields have no counterparty: its bits are 0.
unfoldable pub head_bits : Form → Fields → List ℕ
head_bits f m =
    bits 4 f.number
    ++ (bits 2 (bit m.key.execution) ++ (bits 1 (bit m.key.default) ++ (bits 16 m.key.unit ++ (bits 16 m.key.contract ++ (hour_bits m.map ++ bits f.partner 0)))))

-- the bits of an hour: none where it is not set
unfoldable pub slot : ℕ → Bool → ℕ → ℕ → ℕ → List ℕ
slot w x zero e p = []
slot w x (suc b) e p = bits w e ++ bits (price_width x) p

-- "Then for each set hour, rising: energy 17, and for an offer price 15."
unfoldable pub slots : ℕ → Bool → List ℕ → List ℕ → List ℕ → List ℕ
slots w x [] es ps = []
slots w x (b ∷ map) es ps = slot w x b (hourly es 1) (hourly ps 1) ++ slots w x map (drop 1 es) (drop 1 ps)

unfoldable pub message_bits : Form → Fields → List ℕ
message_bits f m = head_bits f m ++ slots f.width m.key.execution (hour_bits m.map) m.energies m.prices

-- the bytes of a message
unfoldable pub encode : Form → Fields → List ℕ
encode f m = bytes_of (message_bits f m)

-- Reading

-- the number that f finds in the slot of each set hour, the slots n bits long, and 0 in the others:
-- "an unnamed hour's energy and price [..] are 0"
unfoldable pub read_slots : (List ℕ → ℕ) → ℕ → List ℕ → List ℕ → List ℕ
read_slots f n [] bs = []
read_slots f n (zero ∷ map) bs = 0 ∷ read_slots f n map bs
read_slots f n (suc b ∷ map) bs = f bs ∷ read_slots f n map (drop n bs)

unfoldable pub is_execution : List ℕ → Bool
is_execution bs = eqb (field 4 2 bs) 1

unfoldable pub map_of : List ℕ → ℕ
map_of bs = field 39 map_width bs

-- what the bits of a message say
unfoldable pub fields_of : Form → List ℕ → Fields
fields_of f bs =
    let w = f.width in
    let x = is_execution bs in
    let map = hour_bits (map_of bs) in
    let rest = drop (head_width f) bs in
    record {
      key = record { execution = x; default = eqb (field 6 1 bs) 1; unit = field 7 16 bs; contract = field 23 16 bs };
      map = map_of bs;
      energies = read_slots (field 0 w) (slot_width w x) map rest;
      prices = read_slots (field w (price_width x)) (slot_width w x) map rest;
    }

unfoldable pub decode : Form → List ℕ → Fields
decode f bytes = fields_of f (bits_of bytes)

-- the form that a message is read by
unfoldable pub form_of : List ℕ → Form
form_of bytes = form1

-- what a message says, by its form
unfoldable pub message_of : List ℕ → Fields
message_of bytes = decode (form_of bytes) bytes

-- Refusals

-- the bits after the last slot are not all 0
unfoldable pub bad_filling : Form → List ℕ → Bool
bad_filling f bs = any (λ b. not (eqb b 0)) (drop (slots_end f (is_execution bs) (set_bits (map_of bs))) bs)

-- "wrong length, form, kind or filling" of a message of form f. "A length under 8 is 3".
unfoldable pub bad_form : Form → List ℕ → Bool
bad_form f bytes =
    let bs = bits_of bytes in
    ltb (length bytes) 8
    || not (eqb (length bytes) (length_for f (is_execution bs) (set_bits (map_of bs))))
    || not (eqb (field 0 4 bs) f.number)
    || ltb 1 (field 4 2 bs)
    || bad_filling f bs

-- 3, form
unfoldable pub wrong_form : List ℕ → Bool
wrong_form bytes = bad_form (form_of bytes) bytes

-- 4, hour: "empty map". By itself the reader and the writer know no day: "there 4 means an empty map or one beyond 25 bits"
unfoldable pub bad_map : ℕ → Bool
bad_map map = eqb map 0 || leb (2 ^ map_width) map

-- "contract 16 (0 for an offer, 1 to 65,535 otherwise)"
unfoldable pub bad_contract : Bool → ℕ → Bool
bad_contract true contract = bad_number contract
bad_contract false contract = not (eqb contract 0)

-- 5, range, of a key: unit and contract
unfoldable pub bad_key : Key → Bool
bad_key k = bad_number k.unit || bad_contract k.execution k.contract

-- "all prices of an execution, are 0"
unfoldable pub top_price : Bool → ℕ
top_price true = 0
top_price false = max_price

-- "Named energies are 1 to 99,999; an unnamed hour's energy and price, and all prices of an execution, are 0": energies up to `top`
unfoldable pub bad_hour : ℕ → Fields → ℕ → Bool
bad_hour top m h =
    let e = hourly m.energies h in
    let p = hourly m.prices h in
    cond (names m.map h)
    (eqb e 0 || ltb top e || ltb (top_price m.key.execution) p)
    (not (eqb e 0) || not (eqb p 0))

-- "a value outside its range", energies up to `top`
unfoldable pub bad_fields : ℕ → Fields → Bool
bad_fields top m = bad_key m.key || any (bad_hour top m) (from 1 map_width)

-- 5, range: of a message, by the largest energy of its form
unfoldable pub wrong_range : List ℕ → Bool
wrong_range bytes = bad_fields (form_of bytes).top (message_of bytes)

unfoldable pub read_rows : List ℕ → List Row
read_rows bytes = row 3 (wrong_form bytes) ∷ row 4 (bad_map (message_of bytes).map) ∷ row 5 (wrong_range bytes) ∷ []

-- reading: a message's fields, or its refusal
unfoldable pub read : List ℕ → Outcome Fields
read bytes = outcome (read_rows bytes) (message_of bytes)

-- the form that fields are written in
unfoldable pub form_for : Fields → Form
form_for m = form1

-- "The number of set bits n fixes the length": of the fields' message
unfoldable pub message_length : Fields → ℕ
message_length m = length_for (form_for m) m.key.execution (set_bits m.map)

-- 14, short: "writer's buffer too small"
unfoldable pub write_rows : ℕ → Fields → List Row
write_rows room m = row 4 (bad_map m.map) ∷ row 5 (bad_fields max_energy m) ∷ row 14 (ltb room (message_length m)) ∷ []

-- writing into a buffer of `room` bytes: "exactly these bytes", or its refusal
unfoldable pub write : ℕ → Fields → Outcome (List ℕ)
write room m = outcome (write_rows room m) (encode (form_for m) m)

-- what the buffer then holds: the bytes and, "beyond them", what it held; where writing is refused, all that it held
unfoldable pub buffer_after : Outcome (List ℕ) → List ℕ → List ℕ
buffer_after (given bytes) old = bytes ++ drop (length bytes) old
buffer_after (refused n h) old = old

unfoldable pub unfold_message : Unit {0}
unfolding price_width bits value field bits_of groups bytes_of bit hour_bits names set_bits slot_width length_for head_bits slot slots message_bits encode read_slots is_execution map_of fields_of decode form_of message_of bad_filling bad_form wrong_form bad_map bad_contract bad_key top_price bad_hour bad_fields wrong_range read_rows read form_for message_length write_rows write buffer_after
unfold_message = tt

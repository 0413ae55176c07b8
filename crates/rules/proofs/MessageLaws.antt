-- The lodging message: what is written is read back, what is read is written again, and a message has one form.
use Prim.Native.Nat.{ℕ, zero, suc, ◌+◌, ◌*◌, ◌-◌, ◌^◌, ◌≤◌, ◌<◌}
use mathlib.Core.Path.{◌≡◌, refl, ap, ap₂, sym, ◌∙◌}
use mathlib.Core.Bool.{Bool, true, false, cond, not, ◌||◌, true≢false}
use mathlib.Core.List.{List, [], ◌∷◌, ◌++◌, append_assoc}
use native.Mathlib.Omega.{arith}
use native.Mathlib.Nat.{add-mul, zero-add, zero-mul}
use lib.Dec.{ltb, eqb, lit<, lit≤}
use lib.ListN.{length, take, drop, get_or, replicate, length-append, length-drop, take-append-drop}
use lib.Seq.{take-add, drop_at}
use borrow.Author.Tests.{ltb-true, ltb-false, leb-false, eqb-true, eqb-false, le-ltb, eq-eqb, not-false}
use Rattle.rules.specs.Lists.{All, none, more, any, sum, from, hourly, round_up}
use Rattle.rules.specs.Refusals.{row, given}
use Rattle.rules.specs.Units.{max_energy, bad_number}
use Rattle.rules.specs.Message.{Form, Fields, price_width, map_width, head_width, bits, value, field, bits_of, bit, hour_bits, names, set_bits, slot_width, slots_end, length_for, head_bits, slot, slots, message_bits, encode, read_slots, is_execution, map_of, fields_of, decode, form_of, message_of, bad_filling, bad_form, wrong_form, bad_map, bad_contract, bad_key, top_price, bad_hour, bad_fields, wrong_range, read_rows, read, form_for, message_length, write_rows, write}
use Rattle.rules.proofs.BoolLaws.{by_bool, neither}
use Rattle.rules.proofs.ListLaws.{Under, all_append, all_drop, all_head, all_tail, all_of, any_false, of-any-false, all-zero, of-all-zero, all_map, all_from, hourly-suc, hourly-beyond}
use Rattle.rules.proofs.RefusalLaws.{of-no-row, no_row}
use Rattle.rules.proofs.BitLaws.{length-bits, length-bits_of, bits-under, bits_of-under, value-bits-lt, field-front, field-written, field_lt, bits-field, bits-fields, length-bytes_of, bits_of-bytes_of, bytes_of-filled}

-- Lengths

-- the head takes 64 bits and those of the counterparty
pub length-head : (f : Form) (m : Fields) → length (head_bits f m) ≡ head_width f
unfolding head_bits hour_bits
length-head f m = simp (length-append, length-bits) (omega arith)

-- slots take their width for each set bit
length-slots : (w : ℕ) (x : Bool) {map : List ℕ} (es ps : List ℕ) → Under 2 map → length (slots w x map es ps) ≡ sum map * slot_width w x
unfolding slots slot sum slot_width
length-slots w x es ps none = omega arith
length-slots w x es ps (more {x = zero} {xs = map} p q) = rw (length-slots w x (drop 1 es) (drop 1 ps) q) (omega arith)
length-slots w x es ps (more {x = suc zero} {xs = map} p q) =
    simp (length-append, length-bits, length-slots w x (drop 1 es) (drop 1 ps) q) (omega (arith, add-mul 1 (sum map) (w + price_width x)))
length-slots w x es ps (more {x = suc (suc b)} {xs = map} p q) = absurd (omega arith)

-- the bits of a message
length-message : (f : Form) (m : Fields) → length (message_bits f m) ≡ slots_end f m.key.execution (set_bits m.map)
unfolding message_bits set_bits hour_bits
length-message f m =
    rw (length-append, length-head f m, length-slots f.width m.key.execution m.energies m.prices (bits-under 25 m.map))

-- a message is as long as its form, its kind and its number of set bits say
pub encode-length : (f : Form) (m : Fields) → length (encode f m) ≡ length_for f m.key.execution (set_bits m.map)
unfolding encode length_for round_up
encode-length f m = rw (length-bytes_of, length-message) (omega arith)

-- What is read is written again

-- the bit of a mark that was read from a number of 0 or 1
bit-of : (n : ℕ) → n < 2 → bit (eqb n 1) ≡ n
unfolding bit
bit-of zero h = refl
bit-of (suc zero) h = refl
bit-of (suc (suc n)) h = absurd (omega arith)

-- the head of the fields of bits is their first bits, where they say no counterparty
head-again : (f : Form) {bs : List ℕ} → Under 2 bs → head_width f ≤ length bs → field 0 4 bs ≡ f.number → field 4 2 bs ≤ 1 → field 64 f.partner bs ≡ 0
    → head_bits f (fields_of f bs) ≡ take (head_width f) bs
unfolding head_bits fields_of is_execution map_of hour_bits
head-again f {bs} u l form kind silent =
    let p = f.partner in
    let e : 64 + p ≡ 4 + (2 + (1 + (16 + (16 + (25 + p))))) = omega arith in
    let partner = ap (bits p) (sym silent) ∙ bits-field 64 p u (omega arith) in
    rw e
    (bits-fields 0 4 (2 + (1 + (16 + (16 + (25 + p))))) u (omega arith) (sym form)
    (bits-fields 4 2 (1 + (16 + (16 + (25 + p)))) u (omega arith) (bit-of (field 4 2 bs) (omega arith))
    (bits-fields 6 1 (16 + (16 + (25 + p))) u (omega arith) (bit-of (field 6 1 bs) (field_lt 6 1 u))
    (bits-fields 7 16 (16 + (25 + p)) u (omega arith) refl
    (bits-fields 23 16 (25 + p) u (omega arith) refl
    (bits-fields 39 25 p u (omega arith) refl partner))))))

-- slots of the numbers that were read from bits are these bits
slots-again : (w : ℕ) (x : Bool) {map bs : List ℕ} → Under 2 map → Under 2 bs → sum map * slot_width w x ≤ length bs
    → slots w x map (read_slots (field 0 w) (slot_width w x) map bs) (read_slots (field w (price_width x)) (slot_width w x) map bs)
    ≡ take (sum map * slot_width w x) bs
unfolding slots slot sum slot_width read_slots hourly
slots-again w x {bs} none v l = rw zero-mul
slots-again w x {bs} (more {x = zero} {xs = map} p q) v l =
    rw (zero-add (sum map)) (slots-again w x q v (omega (arith, zero-add (sum map))))
slots-again w x {bs} (more {x = suc zero} {xs = map} p q) v l =
    let n = w + price_width x in
    let d : (1 + sum map) * n ≡ n + sum map * n = omega (arith, add-mul 1 (sum map) n) in
    let e : (1 + sum map) * n ≡ w + (price_width x + sum map * n) = omega arith in
    let r : sum map * n ≤ length (drop n bs) = simp length-drop (omega arith) in
    let later = bits-fields w (price_width x) (sum map * n) v (omega arith) refl (slots-again w x q (all_drop n v) r) in
    rw (append_assoc, e) (bits-fields 0 w (price_width x + sum map * n) v (omega arith) refl (rw zero-add later))
slots-again w x (more {x = suc (suc b)} p q) v l = absurd (omega arith)

-- what the bytes of a message of right form are
pub record Formed (f : Form) (bytes : List ℕ) : Type 0 where
  pub long : 8 ≤ length bytes
  pub exact : length bytes ≡ length_for f (is_execution (bits_of bytes)) (set_bits (map_of (bits_of bytes)))
  pub form : field 0 4 (bits_of bytes) ≡ f.number
  pub kind : field 4 2 (bits_of bytes) ≤ 1
  pub filling : bad_filling f (bits_of bytes) ≡ false

-- what is not refused for its form has it
pub formed : (f : Form) (bytes : List ℕ) → bad_form f bytes ≡ false → Formed f bytes
unfolding bad_form
formed f bytes h =
    let a = neither _ _ h in
    let b = neither _ _ a.0 in
    let c = neither _ _ b.0 in
    let d = neither _ _ c.0 in
    record {
      long = ltb-false _ _ d.0;
      exact = eqb-true _ _ (not-false _ d.1);
      form = eqb-true _ _ (not-false _ c.1);
      kind = ltb-false _ _ b.1;
      filling = a.1;
    }

-- and the other way
pub of-formed : (f : Form) (bytes : List ℕ) → Formed f bytes → bad_form f bytes ≡ false
unfolding bad_form
of-formed f bytes t = rw (le-ltb _ _ t.long, eq-eqb _ _ t.exact, eq-eqb _ _ t.form, le-ltb _ _ t.kind, t.filling)

-- the bits of the fields of bits are these bits, up to the last slot
message-again : (f : Form) {bs : List ℕ} → Under 2 bs → slots_end f (is_execution bs) (set_bits (map_of bs)) ≤ length bs
    → field 0 4 bs ≡ f.number → field 4 2 bs ≤ 1 → field 64 f.partner bs ≡ 0
    → message_bits f (fields_of f bs) ≡ take (slots_end f (is_execution bs) (set_bits (map_of bs))) bs
unfolding message_bits fields_of set_bits hour_bits
message-again f {bs} u l form kind silent =
    let n = set_bits (map_of bs) * slot_width f.width (is_execution bs) in
    let r : n ≤ length (drop (head_width f) bs) = simp length-drop (omega arith) in
    ap₂ (λ a b. a ++ b) (head-again f u (omega arith) form kind silent) (slots-again f.width (is_execution bs) (bits-under 25 (map_of bs)) (all_drop (head_width f) u) r)
    ∙ sym (take-add (head_width f) n bs)

-- bytes of right form that say no counterparty are written again as they were
pub encode-decode : (f : Form) {bytes : List ℕ} → Under 256 bytes → bad_form f bytes ≡ false → field 64 f.partner (bits_of bytes) ≡ 0 → encode f (decode f bytes) ≡ bytes
unfolding encode decode bad_filling fields_of round_up
encode-decode f {bytes} u h silent =
    let t = formed f bytes h in
    let bs = bits_of bytes in
    let m = fields_of f bs in
    let n = slots_end f (is_execution bs) (set_bits (map_of bs)) in
    let l : length (message_bits f m) ≡ n = length-message f m in
    let r : length bytes ≡ round_up (length (message_bits f m)) 8 = t.exact ∙ sym (encode-length f m) ∙ length-bytes_of (message_bits f m) in
    let k : n ≤ length bs = omega (arith, length-bits_of bytes) in
    let e : length (drop n bs) ≡ round_up (length (message_bits f m)) 8 * 8 - length (message_bits f m) = omega (arith, length-drop n bs, length-bits_of bytes) in
    let said = message-again f (bits_of-under bytes) k t.form t.kind silent in
    let filled = all-zero (drop n bs) t.filling ∙ ap (λ j. replicate {A = ℕ} j 0) e in
    bytes_of-filled (message_bits f m) u r (sym (take-append-drop n bs) ∙ ap₂ (λ a b. a ++ b) (sym said) filled)

-- What is written is read back

-- fields that fit a message of form f: each number fits its width, and an unnamed hour has 0
pub record Fits (f : Form) (m : Fields) : Type 0 where
  pub number : f.number < 2 ^ 4
  pub unit : m.key.unit < 2 ^ 16
  pub contract : m.key.contract < 2 ^ 16
  pub map : m.map < 2 ^ map_width
  pub energy_count : length m.energies ≡ 25
  pub price_count : length m.prices ≡ 25
  pub energies : Under (2 ^ f.width) m.energies
  pub prices : Under (2 ^ price_width m.key.execution) m.prices
  pub unnamed : (h : ℕ) → names m.map h ≡ false → (hourly m.energies h ≡ 0) × (hourly m.prices h ≡ 0)

-- the same along the map
data Hours (w : ℕ) (x : Bool) : List ℕ → List ℕ → List ℕ → Type 0 where
  ended : Hours w x [] [] []
  unset : {e p : ℕ} {map es ps : List ℕ} → e ≡ 0 → p ≡ 0 → Hours w x map es ps → Hours w x (0 ∷ map) (e ∷ es) (p ∷ ps)
  set : {e p : ℕ} {map es ps : List ℕ} → e < 2 ^ w → p < 2 ^ price_width x → Hours w x map es ps → Hours w x (1 ∷ map) (e ∷ es) (p ∷ ps)

-- numbers that fit their widths, 0 where the map is 0
hours : (w : ℕ) (x : Bool) {map es ps : List ℕ} → Under 2 map → Under (2 ^ w) es → Under (2 ^ price_width x) ps → length es ≡ length map → length ps ≡ length map
    → ((i : ℕ) → get_or map i 0 ≡ 0 → (get_or es i 0 ≡ 0) × (get_or ps i 0 ≡ 0)) → Hours w x map es ps
hours w x none none none e f h = ended
hours w x none (more c t) v e f h = absurd (omega arith)
hours w x none none (more c t) e f h = absurd (omega arith)
hours w x (more c t) none v e f h = absurd (omega arith)
hours w x (more c t) (more d u) none e f h = absurd (omega arith)
hours w x (more {x = zero} c t) (more d u) (more k v) e f h =
    unset (h 0 refl).0 (h 0 refl).1 (hours w x t u v (omega arith) (omega arith) (λ i. h (suc i)))
hours w x (more {x = suc zero} c t) (more d u) (more k v) e f h =
    set d k (hours w x t u v (omega arith) (omega arith) (λ i. h (suc i)))
hours w x (more {x = suc (suc b)} c t) (more d u) (more k v) e f h = absurd (omega arith)

-- an hour whose bit is 0 is unnamed
fits-unset : (f : Form) (m : Fields) → Fits f m → (i : ℕ) → get_or (hour_bits m.map) i 0 ≡ 0 → (get_or m.energies i 0 ≡ 0) × (get_or m.prices i 0 ≡ 0)
unfolding names
fits-unset f m t i e =
    let no : names m.map (suc i) ≡ false = rw (hourly-suc (hour_bits m.map) i, e) in
    let z = t.unnamed (suc i) no in
    (sym (hourly-suc m.energies i) ∙ z.0, sym (hourly-suc m.prices i) ∙ z.1)

-- the hours of fields that fit
fits-hours : (f : Form) (m : Fields) → Fits f m → Hours f.width m.key.execution (hour_bits m.map) m.energies m.prices
unfolding hour_bits
fits-hours f m t =
    let l : length (hour_bits m.map) ≡ 25 = length-bits 25 m.map in
    hours f.width m.key.execution (bits-under 25 m.map) t.energies t.prices (t.energy_count ∙ sym l) (t.price_count ∙ sym l) (fits-unset f m t)

-- slots that were written are read back
slots-back : (w : ℕ) (x : Bool) {map es ps : List ℕ} (rest : List ℕ) → Hours w x map es ps
    → (read_slots (field 0 w) (slot_width w x) map (slots w x map es ps ++ rest) ≡ es)
    × (read_slots (field w (price_width x)) (slot_width w x) map (slots w x map es ps ++ rest) ≡ ps)
unfolding read_slots slots slot hourly slot_width
slots-back w x rest ended = (refl, refl)
slots-back w x rest (unset e p t) =
    let back = slots-back w x rest t in
    (ap₂ (λ n l. n ∷ l) (sym e) back.0, ap₂ (λ n l. n ∷ l) (sym p) back.1)
slots-back w x rest (set {e} {p} {map} {es} {ps} c d t) =
    let back = slots-back w x rest t in
    let v = price_width x in
    let others = slots w x map es ps ++ rest in
    let whole : bits w e ++ bits v p ++ slots w x map es ps ++ rest ≡ bits w e ++ (bits v p ++ others) = simp append_assoc in
    let next : drop (w + v) (bits w e ++ (bits v p ++ others)) ≡ others = rw (← append_assoc) (drop_at (bits w e ++ bits v p) others (w + v) (simp (length-append, length-bits))) in
    let price : field w v (bits w e ++ (bits v p ++ others)) ≡ p = rw length-bits at (field-written v p (bits w e) others d) in
    rw (whole, next, field-front w e (bits v p ++ others) c, price, back.0, back.1) (refl, refl)

-- a mark that was written is read back
mark-back : (b : Bool) → eqb (bit b) 1 ≡ b
unfolding bit
mark-back true = refl
mark-back false = refl

-- a mark is a bit
bit-lt : (b : Bool) → bit b < 2
unfolding bit
bit-lt true = lit< tt
bit-lt false = lit< tt

-- the head of bits is that of m in form f
record Headed (f : Form) (m : Fields) (bs : List ℕ) : Type 0 where
  form : field 0 4 bs ≡ f.number
  kind : field 4 2 bs ≡ bit m.key.execution
  default : field 6 1 bs ≡ bit m.key.default
  unit : field 7 16 bs ≡ m.key.unit
  contract : field 23 16 bs ≡ m.key.contract
  map : map_of bs ≡ m.map

-- the head that was written is read back
head-back : (f : Form) (m : Fields) (rest : List ℕ) → Fits f m → Headed f m (message_bits f m ++ rest)
unfolding message_bits head_bits hour_bits bits field map_of
head-back f m rest t =
    let k : bit m.key.execution < 2 ^ 2 = omega (arith, bit-lt m.key.execution) in
    record {
      form = value-bits-lt 4 f.number t.number;
      kind = value-bits-lt 2 (bit m.key.execution) k;
      default = value-bits-lt 1 (bit m.key.default) (bit-lt m.key.default);
      unit = value-bits-lt 16 m.key.unit t.unit;
      contract = value-bits-lt 16 m.key.contract t.contract;
      map = value-bits-lt 25 m.map t.map;
    }

-- after the head stand the slots
head-drop : (f : Form) (m : Fields) (rest : List ℕ)
    → drop (head_width f) (message_bits f m ++ rest) ≡ slots f.width m.key.execution (hour_bits m.map) m.energies m.prices ++ rest
unfolding message_bits
head-drop f m rest =
    rw append_assoc (drop_at (head_bits f m) (slots f.width m.key.execution (hour_bits m.map) m.energies m.prices ++ rest) (head_width f) (length-head f m))

-- the bits of fields, whatever stands after them, say these fields
fields_back : (f : Form) (m : Fields) (rest : List ℕ) → Fits f m → fields_of f (message_bits f m ++ rest) ≡ m
unfolding fields_of is_execution
fields_back f m rest t =
    let h = head-back f m rest t in
    let back = slots-back f.width m.key.execution rest (fits-hours f m t) in
    rw (head-drop f m rest, h.kind, h.default, h.unit, h.contract, h.map, mark-back m.key.execution, mark-back m.key.default, back.0, back.1)

-- slots are bits
slots-under : (w : ℕ) (x : Bool) (map es ps : List ℕ) → Under 2 (slots w x map es ps)
unfolding slots slot
slots-under w x [] es ps = none
slots-under w x (zero ∷ map) es ps = slots-under w x map (drop 1 es) (drop 1 ps)
slots-under w x (suc b ∷ map) es ps =
    all_append (all_append (bits-under w (hourly es 1)) (bits-under (price_width x) (hourly ps 1))) (slots-under w x map (drop 1 es) (drop 1 ps))

-- and so is a message
message-under : (f : Form) (m : Fields) → Under 2 (message_bits f m)
unfolding message_bits head_bits hour_bits
message-under f m = search (all_append, bits-under, slots-under) depth 10

-- the bytes of fields, as bits: the bits of the fields, filled with zeros
bits-encode : (f : Form) (m : Fields) → (n : ℕ) × (bits_of (encode f m) ≡ message_bits f m ++ replicate n 0)
unfolding encode
bits-encode f m =
    let l = length (message_bits f m) in
    (round_up l 8 * 8 - l, bits_of-bytes_of (message-under f m))

-- what is encoded is decoded
pub decode-encode : (f : Form) (m : Fields) → Fits f m → decode f (encode f m) ≡ m
unfolding decode
decode-encode f m t =
    let z = bits-encode f m in
    rw z.1 (fields_back f m (replicate z.0 0) t)

-- and its form is right
pub encode-formed : (f : Form) (m : Fields) → Fits f m → bad_form f (encode f m) ≡ false
unfolding is_execution bad_filling length_for
encode-formed f m t =
    let z = bits-encode f m in
    let bs = message_bits f m ++ replicate z.0 0 in
    let h = head-back f m (replicate z.0 0) t in
    let x : eqb (field 4 2 bs) 1 ≡ m.key.execution = rw h.kind (mark-back m.key.execution) in
    of-formed f (encode f m) (record {
      long = rw encode-length (omega arith);
      exact = rw (z.1, x, h.map) (encode-length f m);
      form = rw z.1 h.form;
      kind = rw (z.1, h.kind) (omega (arith, bit-lt m.key.execution));
      filling = rw (z.1, x, h.map, drop_at (message_bits f m) (replicate z.0 0) _ (length-message f m)) (of-all-zero z.0);
    })

-- Fields within their ranges

-- an hour that is named or not, its energy and its price, with the most that each may be
pub record GoodHour (named : Bool) (energy price top_energy top_price : ℕ) : Type 0 where
  pub energy-le : energy ≤ top_energy
  pub price-le : price ≤ top_price
  pub named_by : named ≡ not (eqb energy 0)
  pub unnamed : named ≡ false → price ≡ 0

-- an hour that is not refused
good-hour : (named : Bool) (e p t top : ℕ) → cond named (eqb e 0 || ltb t e || ltb top p) (not (eqb e 0) || not (eqb p 0)) ≡ false → GoodHour named e p t top
good-hour true e p t top h =
    let a = neither _ _ h in
    let b = neither (eqb e 0) _ a.0 in
    record { energy-le = ltb-false _ _ b.1; price-le = ltb-false _ _ a.1; named_by = rw b.0; unnamed = λ n. absurd (true≢false n) }
good-hour false e p t top h =
    let a = neither _ _ h in
    let y : e ≡ 0 = eqb-true _ _ (not-false _ a.0) in
    let z : p ≡ 0 = eqb-true _ _ (not-false _ a.1) in
    record { energy-le = omega arith; price-le = omega arith; named_by = rw y; unnamed = λ n. z }

-- fields within their ranges, energies up to `top`: every message read or written has such
pub record Good (top : ℕ) (m : Fields) : Type 0 where
  pub unit-pos : 1 ≤ m.key.unit
  pub unit-le : m.key.unit ≤ 65535
  pub contract-le : m.key.contract ≤ 65535
  pub contract-kind : m.key.execution ≡ not (eqb m.key.contract 0)
  pub map-pos : 1 ≤ m.map
  pub map-lt : m.map < 2 ^ map_width
  pub energy_count : length m.energies ≡ 25
  pub price_count : length m.prices ≡ 25
  pub each : (h : ℕ) → GoodHour (names m.map h) (hourly m.energies h) (hourly m.prices h) top (top_price m.key.execution)

-- a number that is not refused
good-number : (n : ℕ) → bad_number n ≡ false → (1 ≤ n) × (n ≤ 65535)
unfolding bad_number
good-number n h = let a = neither _ _ h in (omega (arith, eqb-false n 0 a.0), ltb-false _ _ a.1)

-- a contract that is not refused: an execution has one, an offer has none
good-contract : (x : Bool) (n : ℕ) → bad_contract x n ≡ false → (n ≤ 65535) × (x ≡ not (eqb n 0))
unfolding bad_contract bad_number
good-contract true n h = let a = neither (eqb n 0) _ h in (ltb-false _ _ a.1, rw a.0)
good-contract false n h = let z : n ≡ 0 = eqb-true _ _ (not-false _ h) in (omega arith, rw z)

-- there is nothing to refuse beyond hour 25
beyond-hour : (top : ℕ) (m : Fields) (i : ℕ) → length m.energies ≤ i → length m.prices ≤ i → 25 ≤ i → bad_hour top m (suc i) ≡ false
unfolding bad_hour names hour_bits
beyond-hour top m i es ps h =
    let l : length (bits 25 m.map) ≤ i = rw length-bits h in
    rw (hourly-beyond (bits 25 m.map) i l, hourly-beyond m.energies i es, hourly-beyond m.prices i ps)

-- where no hour from 1 to 25 is refused, none is: 0 reads as hour 1
each-hour : (top : ℕ) (m : Fields) → length m.energies ≡ 25 → length m.prices ≡ 25 → any (bad_hour top m) (from 1 map_width) ≡ false → (h : ℕ) → bad_hour top m h ≡ false
unfolding bad_hour names hour_bits hourly
each-hour top m es ps k zero = all_from 1 25 1 (any_false (bad_hour top m) (from 1 25) k) (lit≤ tt) (lit< tt)
each-hour top m es ps k (suc i) =
    by_bool (ltb i 25) (λ l. all_from 1 25 (suc i) (any_false (bad_hour top m) (from 1 25) k) (omega arith) (omega (arith, ltb-true i 25 l)))
    (λ l. let k = ltb-false i 25 l in beyond-hour top m i (omega arith) (omega arith) (omega arith))

-- fields that are not refused are within their ranges
pub good : (top : ℕ) (m : Fields) → bad_map m.map ≡ false → bad_fields top m ≡ false → length m.energies ≡ 25 → length m.prices ≡ 25 → Good top m
unfolding bad_map bad_fields bad_key bad_hour
good top m b h es ps =
    let a = neither _ _ h in
    let c = neither _ _ a.0 in
    let u = good-number _ c.0 in
    let k = good-contract _ _ c.1 in
    let n = neither _ _ b in
    record {
      unit-pos = u.0;
      unit-le = u.1;
      contract-le = k.0;
      contract-kind = k.1;
      map-pos = omega (arith, eqb-false m.map 0 n.0);
      map-lt = leb-false _ _ n.1;
      energy_count = es;
      price_count = ps;
      each = λ h. good-hour (names m.map h) (hourly m.energies h) (hourly m.prices h) top (top_price m.key.execution) (each-hour top m es ps a.1 h);
    }

-- an hour that is not refused where energies go up to s is not where they go up to t, if its energy is not
retold-hour : (named : Bool) (e p s t top : ℕ) → (ltb s e ≡ false → ltb t e ≡ false)
    → cond named (eqb e 0 || ltb s e || ltb top p) (not (eqb e 0) || not (eqb p 0)) ≡ false
    → cond named (eqb e 0 || ltb t e || ltb top p) (not (eqb e 0) || not (eqb p 0)) ≡ false
retold-hour true e p s t top l h =
    let a = neither _ _ h in
    let b = neither (eqb e 0) _ a.0 in
    rw (b.0, a.1, l b.1)
retold-hour false e p s t top l h = h

-- and so with fields
retold : (s t : ℕ) (m : Fields) → ((h : ℕ) → ltb s (hourly m.energies h) ≡ false → ltb t (hourly m.energies h) ≡ false)
    → bad_fields s m ≡ false → bad_fields t m ≡ false
unfolding bad_fields bad_hour
retold s t m l h =
    let a = neither (bad_key m.key) _ h in
    rw a.0
    (of-any-false (bad_hour t m)
    (all_map (λ h. retold-hour (names m.map h) (hourly m.energies h) (hourly m.prices h) s t (top_price m.key.execution) (l h))
    (any_false (bad_hour s m) (from 1 map_width) a.1)))

-- fields within their ranges are so where more is allowed
pub wider : {s t : ℕ} (m : Fields) → s ≤ t → bad_fields s m ≡ false → bad_fields t m ≡ false
wider {s} {t} m l = retold s t m (λ h k. le-ltb t _ (omega (arith, ltb-false s _ k)))

-- a price within its range fits its width
price-fits : (x : Bool) (p : ℕ) → p ≤ top_price x → p < 2 ^ price_width x
unfolding top_price price_width
price-fits true p h = omega arith
price-fits false p h = omega arith

-- every energy is within its range
pub good-energies : (top : ℕ) (m : Fields) → Good top m → All (λ e. e ≤ top) m.energies
good-energies top m g = all_of 0 m.energies (λ i h. rw (← (hourly-suc m.energies i)) (g.each (suc i)).energy-le)

-- fields within the ranges of a form fit its message, where what the form may say fits its widths
pub record Wide (f : Form) : Type 0 where
  pub number : f.number < 2 ^ 4
  pub top : f.top < 2 ^ f.width

pub good-fits : (f : Form) (m : Fields) → Wide f → Good f.top m → Fits f m
good-fits f m w g = record {
  number = w.number;
  unit = omega (arith, g.unit-le);
  contract = omega (arith, g.contract-le);
  map = g.map-lt;
  energy_count = g.energy_count;
  price_count = g.price_count;
  energies = all_map (λ e h. omega (arith, w.top)) (good-energies f.top m g);
  prices = all_of 0 m.prices (λ i h. rw (← (hourly-suc m.prices i)) (price-fits m.key.execution (hourly m.prices (suc i)) (g.each (suc i)).price-le));
  unnamed = λ h no. (eqb-true _ _ (not-false _ (sym (g.each h).named_by ∙ no)), (g.each h).unnamed no);
}

-- as many numbers are read as the map has hours
length-read_slots : (g : List ℕ → ℕ) (n : ℕ) (map bs : List ℕ) → length (read_slots g n map bs) ≡ length map
unfolding read_slots
length-read_slots g n [] bs = refl
length-read_slots g n (zero ∷ map) bs = ap suc (length-read_slots g n map bs)
length-read_slots g n (suc b ∷ map) bs = ap suc (length-read_slots g n map (drop n bs))

-- energies and prices are 25 each
pub decode-lengths : (f : Form) (bytes : List ℕ) → (length (decode f bytes).energies ≡ 25) × (length (decode f bytes).prices ≡ 25)
unfolding decode fields_of hour_bits
decode-lengths f bytes = (length-read_slots _ _ _ _ ∙ length-bits 25 _, length-read_slots _ _ _ _ ∙ length-bits 25 _)

pub message-lengths : (bytes : List ℕ) → (length (message_of bytes).energies ≡ 25) × (length (message_of bytes).prices ≡ 25)
unfolding message_of
message-lengths bytes = decode-lengths (form_of bytes) bytes

-- The forms that there are: what reading and writing ask of them

-- the largest values of the form for writing fit its widths
pub form-wide : (m : Fields) → Wide (form_for m)
unfolding form_for
form-wide m = record { number = lit< tt; top = lit< tt }

-- it may say the energies of fields that are not refused
pub form-ranges : (m : Fields) → bad_fields max_energy m ≡ false → bad_fields (form_for m).top m ≡ false
unfolding form_for
form-ranges m h = h

-- and it is the one that the message is read by
pub form-written : (m : Fields) → Fits (form_for m) m → form_of (encode (form_for m) m) ≡ form_for m
unfolding form_of form_for
form-written m t = refl

-- the form that a message is read by says no energy that is out of range
pub form-top : (bytes : List ℕ) → (form_of bytes).top ≤ max_energy
unfolding form_of
form-top bytes = lit≤ tt

-- nor a counterparty
pub form-silent : (bytes : List ℕ) → field 64 (form_of bytes).partner (bits_of bytes) ≡ 0
unfolding form_of field value
form-silent bytes = refl

-- a message that is not refused as 3 has its form
pub form-right : (bytes : List ℕ) → wrong_form bytes ≡ false → bad_form (form_of bytes) bytes ≡ false
unfolding wrong_form
form-right bytes h = h

-- and where it is not refused as 5, its form is the one that what it says is written in
pub form-read : (bytes : List ℕ) → wrong_form bytes ≡ false → wrong_range bytes ≡ false → form_for (message_of bytes) ≡ form_of bytes
unfolding form_for form_of
form-read bytes h k = refl

-- the other way
pub of-form-right : (bytes : List ℕ) → form_of bytes ≡ form_for (message_of bytes) → bad_form (form_of bytes) bytes ≡ false → wrong_form bytes ≡ false
unfolding wrong_form
of-form-right bytes e h = h

-- Reading and writing

-- what the reader gives: its rows do not apply, and the fields are those of the bytes
pub record Reads (bytes : List ℕ) (m : Fields) : Type 0 where
  pub form : wrong_form bytes ≡ false
  pub map : bad_map m.map ≡ false
  pub fields : wrong_range bytes ≡ false
  pub same : message_of bytes ≡ m

-- what is read
pub reads : (bytes : List ℕ) (m : Fields) → read bytes ≡ given m → Reads bytes m
unfolding read read_rows row
reads bytes m h =
    let k = no_row (read_rows bytes) (message_of bytes) m h in
    record {
      form = all_head k.0;
      map = rw (← k.1) (all_head (all_tail k.0));
      fields = all_head (all_tail (all_tail k.0));
      same = k.1;
    }

-- and the other way
pub of-reads : (bytes : List ℕ) (m : Fields) → Reads bytes m → read bytes ≡ given m
unfolding read read_rows row
of-reads bytes m r =
    of-no-row {rows = read_rows bytes} (message_of bytes) (more r.form (more (rw r.same r.map) (more r.fields none))) ∙ ap given r.same

-- what the writer gives
pub record Writes (room : ℕ) (m : Fields) (bytes : List ℕ) : Type 0 where
  pub map : bad_map m.map ≡ false
  pub fields : bad_fields max_energy m ≡ false
  pub fits : message_length m ≤ room
  pub same : encode (form_for m) m ≡ bytes

-- what is written
pub writes : (room : ℕ) (m : Fields) (bytes : List ℕ) → write room m ≡ given bytes → Writes room m bytes
unfolding write write_rows row
writes room m bytes h =
    let k = no_row (write_rows room m) (encode (form_for m) m) bytes h in
    record {
      map = all_head k.0;
      fields = all_head (all_tail k.0);
      fits = ltb-false _ _ (all_head (all_tail (all_tail k.0)));
      same = k.1;
    }

-- and the other way
pub of-writes : (room : ℕ) (m : Fields) (bytes : List ℕ) → Writes room m bytes → write room m ≡ given bytes
unfolding write write_rows row
of-writes room m bytes r =
    of-no-row {rows = write_rows room m} (encode (form_for m) m) (more r.map (more r.fields (more (le-ltb _ _ r.fits) none))) ∙ ap given r.same

-- a message that is not refused is within its ranges
pub message-good : (bytes : List ℕ) → bad_map (message_of bytes).map ≡ false → wrong_range bytes ≡ false → Good max_energy (message_of bytes)
unfolding wrong_range
message-good bytes b h =
    let l = message-lengths bytes in
    good max_energy (message_of bytes) b (wider (message_of bytes) (form-top bytes) h) l.0 l.1

-- and so is what is read
pub read-good : (bytes : List ℕ) (m : Fields) → read bytes ≡ given m → Good max_energy m
read-good bytes m h =
    let r = reads bytes m h in
    rw r.same at (message-good bytes (rw r.same r.map) r.fields)

-- what is written is read back
pub write_read : (room : ℕ) (m : Fields) (bytes : List ℕ) → length m.energies ≡ 25 → length m.prices ≡ 25
    → write room m ≡ given bytes → read bytes ≡ given m
unfolding wrong_range message_of
write_read room m bytes es ps h =
    let r = writes room m bytes h in
    let k = form-ranges m r.fields in
    let t = good-fits (form_for m) m (form-wide m) (good (form_for m).top m r.map k es ps) in
    let f : form_of bytes ≡ form_for m = rw r.same at (form-written m t) in
    let back : decode (form_for m) bytes ≡ m = rw (← r.same) (decode-encode (form_for m) m t) in
    let said : message_of bytes ≡ m = rw f back in
    let right : bad_form (form_for m) bytes ≡ false = rw (← r.same) (encode-formed (form_for m) m t) in
    of-reads bytes m (record {
      form = of-form-right bytes (f ∙ ap form_for (sym said)) (rw f right);
      map = r.map;
      fields = rw (f, back) k;
      same = said;
    })

-- the bytes that are read are the message of what they say
pub bytes-again : (bytes : List ℕ) (m : Fields) → Under 256 bytes → Reads bytes m → encode (form_for m) m ≡ bytes
unfolding message_of
bytes-again bytes m u r =
    let e : form_for m ≡ form_of bytes = ap form_for (sym r.same) ∙ form-read bytes r.form r.fields in
    rw (e, ← r.same) (encode-decode (form_of bytes) u (form-right bytes r.form) (form-silent bytes))

-- what is read is written again, where there is room
pub read-write : (room : ℕ) (bytes : List ℕ) (m : Fields) → Under 256 bytes → length bytes ≤ room → read bytes ≡ given m → write room m ≡ given bytes
unfolding message_length wrong_range
read-write room bytes m u l h =
    let r = reads bytes m h in
    let same = bytes-again bytes m u r in
    of-writes room m bytes (record {
      map = r.map;
      fields = rw r.same at (wider (message_of bytes) (form-top bytes) r.fields);
      fits = rw (← (encode-length (form_for m) m), same) l;
      same = same;
    })

-- a message has one form: bytes that say the same are the same
pub one_form : (xs ys : List ℕ) (m : Fields) → Under 256 xs → Under 256 ys → read xs ≡ given m → read ys ≡ given m → xs ≡ ys
one_form xs ys m u v h k = sym (bytes-again xs m u (reads xs m h)) ∙ bytes-again ys m v (reads ys m k)

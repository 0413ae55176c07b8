-- The named hours one by one: what is left of the map, of the bits and of the slots to fill.
use Prim.Native.Nat.{ℕ, zero, suc, ◌+◌, ◌*◌, ◌-◌, ◌/◌, ◌%◌, ◌^◌, ◌≤◌, ◌<◌}
use mathlib.Core.Path.{◌≡◌, refl, ap, sym, ◌∙◌}
use mathlib.Core.Bool.{Bool, true, false, ◌||◌}
use mathlib.Core.List.{List, [], ◌∷◌, ◌++◌}
use native.Mathlib.Omega.{arith}
use native.Mathlib.Nat.{div-eq_of_lt, mul-add-mod_self_right, pow-suc, suc-mul, zero-mul}
use lib.Pow.{pow_mono, high, low}
use lib.ListN.{length, drop, set, replicate, length-set}
use lib.Seq.{drop-drop}
use Rattle.rules.specs.Lists.{sum}
use Rattle.rules.specs.Units.{max_energy}
use Rattle.rules.specs.Message.{bits, bits_of, field, price_width, slot_width, set_bits, hour_bits, read_slots}
use Rattle.rules.proofs.BitLaws.{length-bits, length-bits_of, bits_of-under, bits-same, field-drop, field_lt, field-add}
use Rattle.message_ranges.specs.Slots.{bad_slot}
use Rattle.message_reader.specs.Slots.{bad_slots}
use Rattle.message.specs.Hours.{FirstHour}
use Rattle.message.proofs.FormLaws.{slots-most}

-- A map of w bits whose first set bit has k bits before it and j after it

bits_below : (k w j n : ℕ) → k + j ≡ w → n < 2 ^ j → bits w n ≡ replicate k 0 ++ bits j n
unfolding bits
bits_below zero w j n e h = let q : w ≡ j = omega arith in rw q
bits_below (suc k) zero j n e h = absurd (omega arith)
bits_below (suc k) (suc w) j n e h =
    let z : n < 2 ^ w = omega (arith, pow_mono {i = j} {j = w} (omega arith)) in
    rw (div-eq_of_lt z, bits_below k w j n (omega arith) h)

pub bits-zero : bits 25 0 ≡ replicate 25 0
unfolding bits
bits-zero = refl

module _ (k w j r : ℕ) (e : k + suc j ≡ w) (h : r < 2 ^ j) where
  bits-after : bits w r ≡ replicate k 0 ++ (0 ∷ bits j r)
  unfolding bits
  bits-after =
      let z : r < 2 ^ suc j = omega (arith, pow-suc 2 j) in
      bits_below k w (suc j) r e z ∙ rw (div-eq_of_lt h)

  bits-first : bits w (1 * 2 ^ j + r) ≡ replicate k 0 ++ (1 ∷ bits j r)
  unfolding bits
  bits-first =
      let z : 1 * 2 ^ j + r < 2 ^ suc j = omega (arith, pow-suc 2 j) in
      bits_below k w (suc j) (1 * 2 ^ j + r) e z ∙ rw (high 1 j h, bits-same j (1 * 2 ^ j + r) r (mul-add-mod_self_right 1 (2 ^ j) r))

-- Slots

sum_zeros : (k : ℕ) (l : List ℕ) → sum (replicate k 0 ++ l) ≡ sum l
unfolding sum
sum_zeros zero l = refl
sum_zeros (suc k) l = omega (arith, sum_zeros k l)

module _ (f : List ℕ → ℕ) (n : ℕ) where
  -- what f finds in the slot of each set hour, put into a list; the others stay
  unfoldable pub fill_slots : List ℕ → List ℕ → List ℕ → List ℕ
  fill_slots [] bs es = es
  fill_slots (b ∷ map) bs [] = []
  fill_slots (zero ∷ map) bs (e ∷ es) = e ∷ fill_slots map bs es
  fill_slots (suc b ∷ map) bs (e ∷ es) = f bs ∷ fill_slots map (drop n bs) es

  fill-blank : (map bs : List ℕ) → fill_slots map bs (replicate (length map) 0) ≡ read_slots f n map bs
  unfolding fill_slots read_slots
  fill-blank [] bs = refl
  fill-blank (zero ∷ map) bs = ap (λ l. 0 ∷ l) (fill-blank map bs)
  fill-blank (suc b ∷ map) bs = ap (λ l. f bs ∷ l) (fill-blank map (drop n bs))

  fill-zeros : (k : ℕ) (bs es : List ℕ) → fill_slots (replicate k 0) bs es ≡ es
  unfolding fill_slots
  fill-zeros zero bs es = refl
  fill-zeros (suc k) bs [] = refl
  fill-zeros (suc k) bs (e ∷ es) = ap (λ l. e ∷ l) (fill-zeros k bs es)

  -- the first set hour is filled, and the rest goes on without it
  fill-first : (k : ℕ) (map bs es : List ℕ) → k < length es
      → fill_slots (replicate k 0 ++ (1 ∷ map)) bs es ≡ fill_slots (replicate k 0 ++ (0 ∷ map)) (drop n bs) (set es k (f bs))
  unfolding fill_slots
  fill-first k map bs [] h = absurd (omega arith)
  fill-first zero map bs (e ∷ es) h = refl
  fill-first (suc k) map bs (e ∷ es) h = ap (λ l. e ∷ l) (fill-first k map bs es (omega arith))

module _ (w top : ℕ) (x : Bool) where
  -- the first set hour is judged, and the rest goes on without it
  bad-first : (k : ℕ) (map bs : List ℕ)
      → bad_slots w top x (replicate k 0 ++ (1 ∷ map)) bs
      ≡ (bad_slot top x true (field 0 w bs) (field w (price_width x) bs) || bad_slots w top x (replicate k 0 ++ (0 ∷ map)) (drop (slot_width w x) bs))
  unfolding bad_slots
  bad-first zero map bs = refl
  bad-first (suc k) map bs = bad-first k map bs

  none-bad : (k : ℕ) (bs : List ℕ) → bad_slots w top x (replicate k 0) bs ≡ false
  unfolding bad_slots
  none-bad zero bs = refl
  none-bad (suc k) bs = none-bad k bs

or-false : (a : Bool) → (a || false) ≡ a
or-false true = refl
or-false false = refl

or_assoc : (a b c : Bool) → (a || b || c) ≡ (a || (b || c))
or_assoc true b c = refl
or_assoc false b c = refl

-- The first hour that a map names, h hours before it, and the rest of the map

module _ {map h rest : ℕ} (t : FirstHour map h rest) where
  whole : 1 * 2 ^ (24 - h) + rest ≡ map
  whole = omega (arith, t.first)

  pub here : hour_bits map ≡ replicate h 0 ++ (1 ∷ bits (24 - h) rest)
  unfolding hour_bits
  here = ap (bits 25) (sym whole) ∙ bits-first h 25 (24 - h) rest (omega (arith, t.within)) t.after

  pub gone : hour_bits rest ≡ replicate h 0 ++ (0 ∷ bits (24 - h) rest)
  unfolding hour_bits
  gone = bits-after h 25 (24 - h) rest (omega (arith, t.within)) t.after

  -- one named hour less
  pub count_next : set_bits map ≡ suc (set_bits rest)
  unfolding set_bits sum
  count_next = rw (here, gone, sum_zeros) (omega (arith, sum_zeros h (0 ∷ bits (24 - h) rest)))

  pub fill-next : (f : List ℕ → ℕ) (n : ℕ) (bs es : List ℕ) → h < length es
      → fill_slots f n (hour_bits map) bs es ≡ fill_slots f n (hour_bits rest) (drop n bs) (set es h (f bs))
  fill-next f n bs es l = rw (here, gone) (fill-first f n h (bits (24 - h) rest) bs es l)

  pub bad-next : (w top : ℕ) (x : Bool) (bs : List ℕ)
      → bad_slots w top x (hour_bits map) bs
      ≡ (bad_slot top x true (field 0 w bs) (field w (price_width x) bs) || bad_slots w top x (hour_bits rest) (drop (slot_width w x) bs))
  bad-next w top x bs = rw (here, gone) (bad-first w top x h (bits (24 - h) rest) bs)

-- A slot as one number: the energy of w bits and, below it, the price

module _ (w at p : ℕ) (bytes : List ℕ) (h : at + w + p ≤ 8 * length bytes) where
  abbrev slot : ℕ
  slot = field at (w + p) (bits_of bytes)

  under : field (at + w) p (bits_of bytes) < 2 ^ p
  under = field_lt (at + w) p (bits_of-under bytes)

  joined : slot ≡ field at w (bits_of bytes) * 2 ^ p + field (at + w) p (bits_of bytes)
  joined = field-add at w p (bits_of bytes) (rw length-bits_of h)

  pub slot-energy : field at (w + p) (bits_of bytes) / 2 ^ p ≡ field at w (bits_of bytes)
  slot-energy = rw joined (high (field at w (bits_of bytes)) p under)

  pub slot-price : field at (w + p) (bits_of bytes) % 2 ^ p ≡ field (at + w) p (bits_of bytes)
  slot-price = rw joined (low (field at w (bits_of bytes)) p under)

-- A slot of form 1 with a price begins with a byte and fills four; one without has 17 bits. So it lies in the four bytes up to its end

pub slot-in-four : (x : Bool) (at k : ℕ) → at ≡ 64 + k * slot_width 17 x → (at + (17 + price_width x) + 7) / 8 * 8 ≤ at + 32
unfolding slot_width price_width
slot-in-four true at k h = omega arith
slot-in-four false at k h = omega arith

-- A loop over the named hours of a message: the first slot begins at bit `start`, energies have w bits and are at most `top`

module _ (start w top : ℕ) (bytes : List ℕ) (x : Bool) (map : ℕ) where
  -- what g finds in the slots of the message
  abbrev pub Slots : (List ℕ → ℕ) → List ℕ
  Slots g = read_slots g (slot_width w x) (hour_bits map) (drop start (bits_of bytes))

  -- the same, of a list that is filled but for the hours of `rest`, whose slots begin at bit `at`
  abbrev pub Filled : (List ℕ → ℕ) → List ℕ → ℕ → ℕ → Type 0
  Filled g es at rest = fill_slots g (slot_width w x) (hour_bits rest) (drop at (bits_of bytes)) es ≡ Slots g

  -- what the slots of the message are refused for
  abbrev pub Bad : Bool
  Bad = bad_slots w top x (hour_bits map) (drop start (bits_of bytes))

  pub record Filling (energies prices : List ℕ) (at rest : ℕ) (bad : Bool) : Type 0 where
    pub small : rest < 2 ^ 25
    pub energies-long : length energies ≡ 25
    pub prices-long : length prices ≡ 25
    pub room : at + set_bits rest * slot_width w x ≤ 8 * length bytes
    pub near : at + set_bits rest * slot_width w x ≤ start + 25 * (w + 15)
    pub passed : ℕ
    pub begun : at ≡ start + passed * slot_width w x
    pub energies-so : Filled (field 0 w) energies at rest
    pub prices-so : Filled (field w (price_width x)) prices at rest
    pub bad-so : (bad || bad_slots w top x (hour_bits rest) (drop at (bits_of bytes))) ≡ Bad

  blank : (g : List ℕ → ℕ) → Filled g (replicate 25 0) start map
  unfolding hour_bits
  blank g = rw (length-bits 25 map) at (fill-blank g (slot_width w x) (hour_bits map) (drop start (bits_of bytes)))

  pub filling-start : map < 2 ^ 25 → start + set_bits map * slot_width w x ≤ 8 * length bytes
      → Filling (replicate 25 0) (replicate 25 0) start map false
  filling-start s r = record {
    small = s;
    energies-long = refl;
    prices-long = refl;
    room = r;
    near = omega (arith, slots-most w x map);
    passed = 0;
    begun = omega (arith, zero-mul (slot_width w x));
    energies-so = blank (field 0 w);
    prices-so = blank (field w (price_width x));
    bad-so = refl;
  }

  module _ {energies prices : List ℕ} {at rest : ℕ} {bad : Bool} (i : Filling energies prices at rest bad) where
    full : (g : List ℕ → ℕ) (es : List ℕ) → rest ≡ 0 → Filled g es at rest → es ≡ Slots g
    unfolding hour_bits
    full g es z e = sym (rw (z, bits-zero) (fill-zeros g (slot_width w x) 25 (drop at (bits_of bytes)) es)) ∙ e

    judged : rest ≡ 0 → bad ≡ Bad
    unfolding hour_bits
    judged z = sym (or-false bad) ∙ (rw (z, bits-zero, none-bad w top x 25) at i.bad-so)

    pub filling-end : rest ≡ 0 → (bad ≡ Bad) × (energies ≡ Slots (field 0 w)) × (prices ≡ Slots (field w (price_width x)))
    filling-end z = (judged z, full (field 0 w) energies z i.energies-so, full (field w (price_width x)) prices z i.prices-so)

    module _ (h rest' : ℕ) (t : FirstHour rest h rest') where
      -- the bits of the next slot are there
      pub room_next : (at + w + price_width x ≤ 8 * length bytes) × (at + w + price_width x ≤ start + 25 * (w + 15)) × (start ≤ at)
      unfolding slot_width
      room_next = (
        omega (arith, rw (count_next t, suc-mul) at i.room),
        omega (arith, rw (count_next t, suc-mul) at i.near),
        omega (arith, i.begun),
      )

      pub filling-next : Filling (set energies h (field at w (bits_of bytes)))
          (set prices h (field (at + w) (price_width x) (bits_of bytes)))
          (at + w + price_width x)
          rest'
          (bad || bad_slot top x true (field at w (bits_of bytes)) (field (at + w) (price_width x) (bits_of bytes)))
      unfolding slot_width field
      filling-next =
          let n = w + price_width x in
          let bs = drop at (bits_of bytes) in
          let q : at + n ≡ at + w + price_width x = omega arith in
          let e : drop n bs ≡ drop (at + w + price_width x) (bits_of bytes) = rw (drop-drop n at (bits_of bytes), q) in
          let p : field w (price_width x) bs ≡ field (at + w) (price_width x) (bits_of bytes) = field-drop at w (price_width x) (bits_of bytes) in
          record {
            small = omega (arith, i.small, t.first);
            energies-long = length-set energies h _ ∙ i.energies-long;
            prices-long = length-set prices h _ ∙ i.prices-long;
            room = omega (arith, rw (count_next t, suc-mul) at i.room);
            near = omega (arith, rw (count_next t, suc-mul) at i.near);
            passed = suc i.passed;
            begun = omega (arith, i.begun, suc-mul i.passed n);
            energies-so = rw (← e) (sym (fill-next t (field 0 w) n bs energies (omega (arith, t.within, i.energies-long))) ∙ i.energies-so);
            prices-so = rw (← e, ← p) (sym (fill-next t (field w (price_width x)) n bs prices (omega (arith, t.within, i.prices-long))) ∙ i.prices-so);
            bad-so = rw (← e, ← p) (or_assoc bad (bad_slot top x true (field 0 w bs) (field w (price_width x) bs)) (bad_slots w top x (hour_bits rest') (drop n bs)) ∙ ap (λ b. bad || b) (sym (bad-next t w top x bs)) ∙ i.bad-so);
          }

-- The loop over form 1: the first slot begins at bit 64, energies have 17 bits

abbrev pub Midway : List ℕ → Bool → ℕ → List ℕ → List ℕ → ℕ → ℕ → Bool → Type 0
Midway bytes x map energies prices at rest bad = Filling 64 17 max_energy bytes x map energies prices at rest bad

module _ (bytes : List ℕ) (x : Bool) (map : ℕ) {energies prices : List ℕ} {at rest : ℕ} {bad : Bool} (i : Midway bytes x map energies prices at rest bad)
    {h rest' width : ℕ} (t : FirstHour rest h rest') (p : width ≡ slot_width 17 x) where
  -- where the slot of a turn lies
  pub slot_there : (at + width ≤ 8 * length bytes) × (at + width ≤ 864) × (64 ≤ at) × ((at + width + 7) / 8 * 8 ≤ at + 32)
  unfolding slot_width
  slot_there =
      let r = room_next 64 17 max_energy bytes x map i h rest' t in
      let q : width ≡ 17 + price_width x = p in
      (omega (arith, q, r.0), omega (arith, q, r.1), r.2, rw q (slot-in-four x at i.passed i.begun))

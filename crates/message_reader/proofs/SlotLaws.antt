-- The slots of the set hours judged one after the other: what the rules say of every hour.
use Prim.Native.Nat.{ℕ, zero, suc, ◌-◌, ◌≤◌}
use mathlib.Core.Path.{◌≡◌, refl, ap, ◌∙◌}
use mathlib.Core.Bool.{Bool, true, false, ◌||◌}
use mathlib.Core.List.{List, [], ◌∷◌}
use native.Mathlib.Omega.{arith}
use lib.Dec.{eqb}
use lib.ListN.{length, drop}
use Rattle.rules.specs.Lists.{none, more, any, from, hourly}
use Rattle.rules.specs.Units.{bad_number}
use Rattle.rules.specs.Message.{Form, Fields, bits_of, field, price_width, head_width, slot_width, hour_bits, names, read_slots, is_execution, map_of, fields_of, decode, form_of, message_of, bad_contract, bad_key, bad_hour, bad_fields, wrong_range}
use Rattle.rules.proofs.ListLaws.{Under}
use Rattle.rules.proofs.BitLaws.{length-bits, bits-under}
use Rattle.message_ranges.specs.Slots.{bad_slot}
use Rattle.message.specs.declared.Fields.{Fields as Read}
use Rattle.message_reader.specs.Slots.{blank, bad_slots, bad_hours}

-- the test of an hour, by what three lists have for it: whether it is set, its energy and its price
unfoldable tested : ℕ → Bool → List ℕ → List ℕ → List ℕ → ℕ → Bool
tested top x map es ps h = bad_slot top x (eqb (hourly map h) 1) (hourly es h) (hourly ps h)

hour-tested : (top : ℕ) (m : Fields) (h : ℕ) → bad_hour top m h ≡ tested top m.key.execution (hour_bits m.map) m.energies m.prices h
unfolding bad_hour tested bad_slot names
hour-tested top m h = refl

any_same : (p q : ℕ → Bool) → ((h : ℕ) → p h ≡ q h) → (l : List ℕ) → any p l ≡ any q l
unfolding any
any_same p q e [] = refl
any_same p q e (h ∷ l) = rw (e h, any_same p q e l)

-- an hour later, an element later
later : (e : ℕ) (es : List ℕ) (h : ℕ) → 1 ≤ h → hourly (e ∷ es) (suc h) ≡ hourly es h
unfolding hourly
later e es zero l = absurd (omega arith)
later e es (suc h) l =
    let a : suc (suc h) - 1 ≡ suc h = omega arith in
    let b : suc h - 1 ≡ h = omega arith in
    rw (a, b)

tested-later : (top : ℕ) (x : Bool) (b e p : ℕ) (map es ps : List ℕ) (h : ℕ) → 1 ≤ h → tested top x (b ∷ map) (e ∷ es) (p ∷ ps) (suc h) ≡ tested top x map es ps h
unfolding tested
tested-later top x b e p map es ps h l = rw (later b map h l, later e es h l, later p ps h l)

any-later : (p q : ℕ → Bool) → ((h : ℕ) → 1 ≤ h → p (suc h) ≡ q h) → (i n : ℕ) → 1 ≤ i → any p (from (suc i) n) ≡ any q (from i n)
unfolding any from
any-later p q e i zero l = refl
any-later p q e i (suc n) l = rw (e i l, any-later p q e (suc i) n (omega arith))

module _ (f : Form) (x : Bool) where
  abbrev energies : List ℕ → List ℕ → List ℕ
  energies = read_slots (field 0 f.width) (slot_width f.width x)

  abbrev prices : List ℕ → List ℕ → List ℕ
  prices = read_slots (field f.width (price_width x)) (slot_width f.width x)

  first-unset : (map es ps : List ℕ) → tested f.top x (0 ∷ map) (0 ∷ es) (0 ∷ ps) 1 ≡ false
  unfolding tested hourly bad_slot
  first-unset map es ps = refl

  first-set : (map es ps : List ℕ) (e p : ℕ) → tested f.top x (1 ∷ map) (e ∷ es) (p ∷ ps) 1 ≡ bad_slot f.top x true e p
  unfolding tested hourly
  first-set map es ps e p = refl

  all_tested : {map : List ℕ} → Under 2 map → (bs : List ℕ) → any (tested f.top x map (energies map bs) (prices map bs)) (from 1 (length map)) ≡ bad_slots f.width f.top x map bs
  unfolding any from read_slots bad_slots
  all_tested none bs = refl
  all_tested (more {x = zero} {xs = map} p q) bs =
      rw (first-unset map (energies map bs) (prices map bs))
      (any-later (tested f.top x (0 ∷ map) (0 ∷ energies map bs) (0 ∷ prices map bs)) (tested f.top x map (energies map bs) (prices map bs)) (tested-later f.top x 0 0 0 map (energies map bs) (prices map bs)) 1 (length map) (omega arith)
      ∙ all_tested q bs)
  all_tested (more {x = suc (suc b)} p q) bs = absurd (omega arith)
  all_tested (more {x = suc zero} {xs = map} p q) bs =
      let rest = drop (slot_width f.width x) bs in
      let e = field 0 f.width bs in
      let r = field f.width (price_width x) bs in
      rw (first-set map (energies map rest) (prices map rest) e r)
      (ap (λ t. bad_slot f.top x true e r || t)
      (any-later (tested f.top x (1 ∷ map) (e ∷ energies map rest) (r ∷ prices map rest)) (tested f.top x map (energies map rest) (prices map rest)) (tested-later f.top x 1 e r map (energies map rest) (prices map rest)) 1 (length map) (omega arith)
      ∙ all_tested q rest))

module _ (f : Form) (bytes : List ℕ) where
  slots-judged : any (bad_hour f.top (decode f bytes)) (from 1 25) ≡ bad_slots f.width f.top (is_execution (bits_of bytes)) (hour_bits (map_of (bits_of bytes))) (drop (head_width f) (bits_of bytes))
  unfolding decode fields_of hour_bits
  slots-judged =
      let map = hour_bits (map_of (bits_of bytes)) in
      any_same (bad_hour f.top (decode f bytes)) _ (hour-tested f.top (decode f bytes)) (from 1 25)
      ∙ (rw (length-bits 25 (map_of (bits_of bytes))) at (all_tested f (is_execution (bits_of bytes)) (bits-under 25 (map_of (bits_of bytes))) (drop (head_width f) (bits_of bytes))))

  -- 5, by the head and the slots
  fields-judged : bad_fields f.top (decode f bytes)
      ≡ (bad_number (field 7 16 (bits_of bytes)) || bad_contract (is_execution (bits_of bytes)) (field 23 16 (bits_of bytes)) || bad_slots f.width f.top (is_execution (bits_of bytes)) (hour_bits (map_of (bits_of bytes))) (drop (head_width f) (bits_of bytes)))
  unfolding bad_fields bad_key decode fields_of
  fields-judged = ap (λ b. bad_number (field 7 16 (bits_of bytes)) || bad_contract (is_execution (bits_of bytes)) (field 23 16 (bits_of bytes)) || b) slots-judged

  -- the same for a message of form f: m are its fields before the slots, k and b what the tests of key and slots found
  pub fields_told : form_of bytes ≡ f → (m : Read) → m ≡ blank (bits_of bytes) → (k b : Bool) → k ≡ (bad_number m.unit || bad_contract m.execution m.contract)
      → b ≡ bad_hours f bytes m → wrong_range bytes ≡ (k || b)
  unfolding wrong_range message_of
  fields_told is m e k b s t = rw (is, s, t, e) fields-judged

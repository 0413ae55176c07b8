-- The hours that a map names: their slots, one after the other, and their ranges.
use Prim.Native.Nat.{ℕ, zero, suc, ◌+◌, ◌*◌, ◌-◌, ◌^◌, ◌≤◌, ◌<◌}
use mathlib.Core.Bool.{Bool, true, false, not, cond, ◌||◌, true≢false, false≢true}
use mathlib.Core.Logic.{◌⊎◌, inl, inr}
use mathlib.Core.Path.{◌≡◌, refl, ap, sym, ◌∙◌}
use mathlib.Core.List.{List, [], ◌++◌, append-nil}
use native.Mathlib.Omega.{arith}
use native.Mathlib.Nat.{add-zero, zero-div, div-eq_of_lt, pow-suc, eq-or-lt_of_le, lt_of_lt_of_le, pos_of_ne-zero}
use lib.Dec.{eqb, leb, ltb}
use lib.Arith.{digits_lt}
use lib.Pow.{pow_mono, pow-add, high, low}
use lib.ListN.{drop, get_or}
use lib.Seq.{get_or-drop}
use borrow.Author.Tests.{ltb-false, not-false, eqb-true, eqb-false, leb-false}
use Rattle.rules.specs.Lists.{any, from, hourly}
use Rattle.rules.specs.Message.{Fields, bits, slot, slots, slot_width, price_width, top_price, names, hour_bits, bad_map, bad_key, bad_hour, bad_fields}
use Rattle.rules.proofs.BoolLaws.{neither}
use Rattle.rules.proofs.ListLaws.{any_false, all_from, hourly-suc}
use Rattle.rules.proofs.BitLaws.{bits-join}
use Rattle.message.specs.Hours.{FirstHour}
use Rattle.message_pen.specs.Pens.{SlotFits, SlotWord, slots_of}
use Rattle.message_pen.proofs.PackLaws.{no_bits, bits-mod}

-- The next hour

-- a map with no hour left
pub slots-none : (w : ℕ) (x : Bool) (n : ℕ) (es ps : List ℕ) → slots w x (bits n 0) es ps ≡ []
unfolding slots slot bits
slots-none w x zero es ps = refl
slots-none w x (suc n) es ps = rw (zero-div (2 ^ n)) (slots-none w x n (drop 1 es) (drop 1 ps))

-- the slot of hour i, counted from 0
abbrev hour_slot : ℕ → Bool → List ℕ → List ℕ → ℕ → List ℕ
hour_slot w x es ps i = bits w (get_or es i 0) ++ bits (price_width x) (get_or ps i 0)

hour_slot-drop : (w : ℕ) (x : Bool) (es ps : List ℕ) (i : ℕ) → hour_slot w x (drop 1 es) (drop 1 ps) i ≡ hour_slot w x es ps (1 + i)
hour_slot-drop w x es ps i = rw (get_or-drop 1 es i 0, get_or-drop 1 ps i 0)

module _ (w : ℕ) (x : Bool) (es ps : List ℕ) where
  -- the first bit is set
  slots-top : (n m : ℕ) → m < 2 ^ n → slots w x (bits (suc n) (2 ^ n + m)) es ps ≡ hour_slot w x es ps 0 ++ slots w x (bits (suc n) m) es ps
  unfolding slots slot bits hourly
  slots-top n m h =
      let z : 2 ^ n + m ≡ 1 * 2 ^ n + m = omega arith in
      let e : bits n (1 * 2 ^ n + m) ≡ bits n m = sym (bits-mod n n (1 * 2 ^ n + m) (omega arith)) ∙ ap (bits n) (low 1 n h) in
      rw (z, high 1 n h, e, div-eq_of_lt h)

  -- the first bit is not set, nor is it without bit j
  slots-later : (n j m : ℕ) → m < 2 ^ n → j < n
      → slots w x (bits n m) (drop 1 es) (drop 1 ps) ≡ hour_slot w x (drop 1 es) (drop 1 ps) (n - suc j) ++ slots w x (bits n (m - 2 ^ j)) (drop 1 es) (drop 1 ps)
      → slots w x (bits (suc n) m) es ps ≡ hour_slot w x es ps (suc n - suc j) ++ slots w x (bits (suc n) (m - 2 ^ j)) es ps
  unfolding slots slot bits
  slots-later n j m h k ih =
      let i : suc n - suc j ≡ 1 + (n - suc j) = omega arith in
      let l : m - 2 ^ j < 2 ^ n = omega arith in
      rw (div-eq_of_lt h, div-eq_of_lt l, i, ← (hour_slot-drop w x es ps (n - suc j))) ih

-- the highest bit that is set has n - 1 - j bits before it and j after
pub slots_next : (w : ℕ) (x : Bool) (n j m : ℕ) (es ps : List ℕ) → 2 ^ j ≤ m → m < 2 ^ suc j → j < n
    → slots w x (bits n m) es ps ≡ hour_slot w x es ps (n - suc j) ++ slots w x (bits n (m - 2 ^ j)) es ps
slots_next w x zero j m es ps l h k = absurd (omega arith)
slots_next w x (suc n) j m es ps l h k = go (λ q. slots_next w x n j m (drop 1 es) (drop 1 ps) l h q) (eq-or-lt_of_le (omega arith))
  where
    go : (j < n → slots w x (bits n m) (drop 1 es) (drop 1 ps) ≡ hour_slot w x (drop 1 es) (drop 1 ps) (n - suc j) ++ slots w x (bits n (m - 2 ^ j)) (drop 1 es) (drop 1 ps))
        → (j ≡ n) ⊎ (j < n) → slots w x (bits (suc n) m) es ps ≡ hour_slot w x es ps (suc n - suc j) ++ slots w x (bits (suc n) (m - 2 ^ j)) es ps
    go ih (inl e) =
        let q : 2 ^ j ≡ 2 ^ n = ap (λ i. 2 ^ i) e in
        let i : suc n - suc j ≡ 0 = omega arith in
        let d : m ≡ 2 ^ n + (m - 2 ^ j) = omega (arith, q) in
        ap (λ k. slots w x (bits (suc n) k) es ps) d
        ∙ slots-top w x es ps n (m - 2 ^ j) (omega (arith, q, pow-suc 2 j))
        ∙ ap (λ k. hour_slot w x es ps k ++ slots w x (bits (suc n) (m - 2 ^ j)) es ps) (sym i)
    go ih (inr q) = slots-later w x es ps n j m (lt_of_lt_of_le h (pow_mono {i = suc j} {j = n} q)) q (ih q)

-- Ranges

price-fits : (x : Bool) (p : ℕ) → p ≤ top_price x → p < 2 ^ price_width x
unfolding top_price price_width
price-fits true p h = omega arith
price-fits false p h = omega arith

hour-fits : (w top : ℕ) (x named : Bool) (e p : ℕ) → top < 2 ^ w
    → cond named (eqb e 0 || ltb top e || ltb (top_price x) p) (not (eqb e 0) || not (eqb p 0)) ≡ false → SlotFits w x e p
hour-fits w top x true e p l h =
    let a = neither (eqb e 0 || ltb top e) (ltb (top_price x) p) h in
    let b = neither (eqb e 0) (ltb top e) a.0 in
    record { energy = omega (arith, ltb-false top e b.1); price = price-fits x p (ltb-false (top_price x) p a.1) }
hour-fits w top x false e p l h =
    let a = neither (not (eqb e 0)) (not (eqb p 0)) h in
    let f : e ≡ 0 = eqb-true e 0 (not-false (eqb e 0) a.0) in
    let g : p ≡ 0 = eqb-true p 0 (not-false (eqb p 0) a.1) in
    record { energy = omega arith; price = price-fits x p (omega arith) }

-- every hour of fields that are not refused, counted from 0, fits its slot
pub hours-fit : (w top : ℕ) (m : Fields) (i : ℕ) → top < 2 ^ w → bad_fields top m ≡ false → i < 25 → SlotFits w m.key.execution (get_or m.energies i 0) (get_or m.prices i 0)
unfolding bad_fields bad_hour
hours-fit w top m i fit h l =
    let b = (neither (bad_key m.key) (any (bad_hour top m) (from 1 25)) h).1 in
    rw (hourly-suc m.energies i, hourly-suc m.prices i) at
    (hour-fits w top m.key.execution (names m.map (suc i)) (hourly m.energies (suc i)) (hourly m.prices (suc i)) fit (all_from 1 25 (suc i) (any_false (bad_hour top m) (from 1 25) b) (omega arith) (omega arith)))

pub map-fits : (map : ℕ) → bad_map map ≡ false → (0 < map) × (map < 2 ^ 25)
unfolding bad_map
map-fits map h =
    let a = neither (eqb map 0) (leb (2 ^ 25) map) h in
    (pos_of_ne-zero (eqb-false map 0 a.0), leb-false (2 ^ 25) map a.1)

-- the bits of the slot of hour i, counted from 0
unfoldable pub slot_at : ℕ → Fields → ℕ → List ℕ
slot_at w m i = slot w m.key.execution 1 (get_or m.energies i 0) (get_or m.prices i 0)

-- the slots of a map are that of its first hour, and those of the rest
pub slots_of-next : (w : ℕ) (m : Fields) (map i rest : ℕ) → FirstHour map i rest → slots_of w m map ≡ slot_at w m i ++ slots_of w m rest
unfolding slots_of slot_at slot hour_bits
slots_of-next w m map i rest t =
    let k : 25 - suc (24 - i) ≡ i = omega (arith, t.within) in
    let r : map - 2 ^ (24 - i) ≡ rest = omega (arith, t.first) in
    rw (slots_next w m.key.execution 25 (24 - i) map m.energies m.prices (omega (arith, t.first)) (omega (arith, t.first, t.after, pow-suc 2 (24 - i))) (omega arith), k, r)

pub slots_of-none : (w : ℕ) (m : Fields) (map : ℕ) → map ≡ 0 → slots_of w m map ≡ []
unfolding slots_of hour_bits
slots_of-none w m map e = rw (e, slots-none w m.key.execution 25 m.energies m.prices)

-- The number of a slot

pub slot-execution : (w : ℕ) (x : Bool) (e p : ℕ) → x ≡ true → SlotFits w x e p → SlotWord w x e p e
unfolding slot_width price_width slot
slot-execution w true e p t f = record { small = rw (add-zero w) f.energy; bits = rw (add-zero w, no_bits p) (sym (append-nil (bits w e))) }
slot-execution w false e p t f = absurd (false≢true t)

pub slot-offer : (w : ℕ) (x : Bool) (e p : ℕ) → x ≡ false → SlotFits w x e p → SlotWord w x e p (e * 32768 + p)
unfolding slot_width price_width slot
slot-offer w true e p t f = absurd (true≢false t)
slot-offer w false e p t f = record { small = omega (arith, digits_lt {q = e} {m = 2 ^ w} {c = 2 ^ 15} f.energy f.price, pow-add 2 w 15); bits = sym (bits-join w 15 e p f.price) }

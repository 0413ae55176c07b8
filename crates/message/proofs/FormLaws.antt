-- The count of named hours, the length of a message and its filling.
use Prim.Native.Nat.{ℕ, zero, suc, ◌+◌, ◌*◌, ◌-◌, ◌/◌, ◌%◌, ◌^◌, ◌≤◌, ◌<◌}
use mathlib.Core.Path.{◌≡◌, refl, sym}
use mathlib.Core.Bool.{Bool, true, false, not}
use mathlib.Core.List.{List, [], ◌∷◌}
use native.Mathlib.Omega.{arith}
use native.Mathlib.Nat.{mod-lt, mul-le-mul, zero-mul, suc-mul, zero-add}
use lib.Count.{ones, ones_cat, ones-le}
use lib.Dec.{eqb, lit<, eqb-suc-zero}
use lib.Pow.{pow_pos, mod-pow-add}
use lib.ListN.{length, drop, length-drop}
use lib.Seq.{take_all}
use borrow.Author.Tests.{ne_eqb, lt-ltb}
use Rattle.rules.specs.Lists.{any, sum, round_up}
use Rattle.rules.specs.Message.{Form, bits, value, field, bits_of, head_width, set_bits, hour_bits, slot_width, slots_end, price_width, length_for, is_execution, map_of, bad_filling, bad_form}
use Rattle.rules.proofs.BitLaws.{length-bits_of}
use Rattle.rules.proofs.MessageLaws.{formed}

-- "The number of set bits n"

ones_bit : (b : ℕ) → b < 2 → ones b ≡ b
unfolding ones
ones_bit zero h = refl
ones_bit (suc zero) h = refl
ones_bit (suc (suc b)) h = absurd (omega arith)

ones-bits : (w n : ℕ) → ones (n % 2 ^ w) ≡ sum (bits w n)
unfolding bits sum ones
ones-bits zero n = let z : n % 1 ≡ 0 = omega arith in rw z
ones-bits (suc w) n =
    let e : suc w ≡ 1 + w = omega arith in
    rw (e, mod-pow-add n 1 w, ones_cat w (n / 2 ^ w % 2) (n % 2 ^ w) (mod-lt n (pow_pos w)), ones_bit (n / 2 ^ w % 2) (mod-lt (n / 2 ^ w) (lit< tt)), ones-bits w n)

pub named-hours : (map : ℕ) → ones (map % 33554432) ≡ set_bits map
unfolding set_bits hour_bits
named-hours map = ones-bits 25 map

named-le : (map : ℕ) → ones (map % 33554432) ≤ 25
named-le map = ones-le 25 (map % 33554432) (mod-lt map (lit< tt))

slots-le : (w : ℕ) {n p : ℕ} → n ≤ 25 → p ≤ 15 → n * (w + p) ≤ 25 * (w + 15)
slots-le w {n} {p} h l = mul-le-mul {n₁ = n} {m₁ = w + p} {n₂ = 25} {m₂ = w + 15} h (omega arith)

price-le : (x : Bool) → price_width x ≤ 15
unfolding price_width
price-le true = omega arith
price-le false = omega arith

-- the slots of a map are no more than 25 of an offer
pub slots-most : (w : ℕ) (x : Bool) (map : ℕ) → set_bits map * slot_width w x ≤ 25 * (w + 15)
unfolding slot_width
slots-most w x map = rw named-hours at (slots-le w (named-le map) (price-le x))

module _ (f : Form) where
  -- the bits of the longest message: 25 hours of an offer
  abbrev pub most_bits : ℕ
  most_bits = head_width f + 25 * (f.width + 15)

  pub end-le : (x : Bool) (map : ℕ) → slots_end f x (set_bits map) ≤ most_bits
  end-le x map = omega (arith, slots-most f.width x map)

  -- "8 + 4n bytes, or 8 + 17n/8 rounded up": the bytes that hold all bits up to the end of the last slot
  pub length-end : (x : Bool) (n : ℕ) → (slots_end f x n + 7) / 8 ≡ length_for f x n
  unfolding length_for round_up
  length-end x n = omega arith

  -- so the bits up to there are in a message of that length, and fewer than eight follow
  pub ends-in : (x : Bool) (n : ℕ) {l e : ℕ} → l ≡ length_for f x n → e ≡ slots_end f x n → (e ≤ l * 8) × (l * 8 < e + 8)
  ends-in x n p q = (omega (arith, length-end x n), omega (arith, length-end x n))

-- "A length under 8 is 3"

module _ (f : Form) (bytes : List ℕ) where
  -- the length that the map and the kind fix
  abbrev pub Long : Type 0
  Long = length bytes ≡ length_for f (is_execution (bits_of bytes)) (set_bits (map_of (bits_of bytes)))

  pub form-short : length bytes < 8 → true ≡ bad_form f bytes
  unfolding bad_form
  form-short a = rw (lt-ltb (length bytes) 8 a)

-- bits are all 0 where they stand for 0
any-set : (bs : List ℕ) → any (λ b. not (eqb b 0)) bs ≡ not (eqb (value bs) 0)
unfolding any value
any-set [] = refl
any-set (zero ∷ bs) = rw (zero-mul, zero-add) (any-set bs)
any-set (suc b ∷ bs) =
    let h : suc b * 2 ^ length bs + value bs ≡ 0 → ⊥ = λ e. absurd (omega (arith, suc-mul b (2 ^ length bs), pow_pos (length bs))) in
    rw (eqb-suc-zero, ne_eqb (suc b * 2 ^ length bs + value bs) 0 h)

-- the filling as a field: k bits are left after the slots
pub filling-field : (f : Form) (k : ℕ) (bs : List ℕ)
    → length bs ≡ slots_end f (is_execution bs) (set_bits (map_of bs)) + k
    → not (eqb (field (slots_end f (is_execution bs) (set_bits (map_of bs))) k bs) 0) ≡ bad_filling f bs
unfolding bad_filling field
filling-field f k bs e =
    let end = slots_end f (is_execution bs) (set_bits (map_of bs)) in
    rw (take_all k (drop end bs) (simp length-drop (omega arith))) (sym (any-set (drop end bs)))

-- the kind and the map that a reader found
module _ (f : Form) (bytes : List ℕ) {kind map : ℕ} (k : kind ≡ field 4 2 (bits_of bytes)) (m : map ≡ field 39 25 (bits_of bytes)) where
  pub length-read : {n : ℕ} → n ≡ length_for f (eqb kind 1) (set_bits map) → n ≡ length_for f (is_execution (bits_of bytes)) (set_bits (map_of (bits_of bytes)))
  unfolding is_execution map_of
  length-read e = rw (k, m) at e

  pub filling-read : {e : ℕ} → Long f bytes → e ≡ slots_end f (eqb kind 1) (set_bits map)
      → not (eqb (field e (length bytes * 8 - e) (bits_of bytes)) 0) ≡ bad_filling f (bits_of bytes)
  unfolding is_execution map_of
  filling-read l e =
      let e' = rw (k, m) at e in
      let i = ends-in f (is_execution (bits_of bytes)) (set_bits (map_of (bits_of bytes))) l e' in
      rw e' (filling-field f _ (bits_of bytes) (rw length-bits_of (omega arith)))

  pub slots_read : bad_form f bytes ≡ false → slots_end f (eqb kind 1) (set_bits map) ≤ 8 * length bytes
  unfolding is_execution map_of
  slots_read e =
      let i = ends-in f (is_execution (bits_of bytes)) (set_bits (map_of (bits_of bytes))) (formed f bytes e).exact refl in
      rw (k, m) (omega (arith, i.0))

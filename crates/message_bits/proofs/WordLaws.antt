-- Bytes as one number, and the fields in them.
use Prim.Native.Nat.{ℕ, zero, suc, ◌+◌, ◌*◌, ◌-◌, ◌/◌, ◌%◌, ◌^◌, ◌≤◌, ◌<◌, min}
use mathlib.Core.Path.{◌≡◌, refl, ap, sym, ◌∙◌}
use mathlib.Core.List.{List, [], ◌∷◌}
use native.Mathlib.Omega.{arith}
use native.Mathlib.Nat.{zero-add, one-mul, mod-eq_of_lt, zero-min, min-zero, suc-min-suc}
use lib.Pow.{pow-lt}
use lib.ListN.{length, take, drop, get_or, length-drop}
use Rattle.rules.specs.Message.{value, field, bits_of}
use Rattle.rules.proofs.ListLaws.{Under}
use Rattle.rules.proofs.BitLaws.{length-bits_of, bits_of-under, field-inner, word, field-word, word-four}
use Rattle.message_bits.specs.Bits.{word_at}

one_more : (i : ℕ) (bytes : List ℕ) → word 5 i bytes ≡ word 4 i bytes * 256 + get_or bytes (i + 4) 0
unfolding word
one_more i bytes =
    let e : i + 1 + 1 + 1 + 1 ≡ i + 4 = omega arith in
    rw e (omega arith)

word-five : (i : ℕ) (bytes : List ℕ) → word 5 i bytes ≡ word_at bytes i * 256 + get_or bytes (i + 4) 0
unfolding word_at
word-five i bytes = rw (← word-four i bytes) (one_more i bytes)

-- a field of up to 32 bits stands in five bytes
pub field-read : (at w : ℕ) {bytes : List ℕ} → Under 256 bytes → w ≤ 32 → at + w ≤ 8 * length bytes
    → (word_at bytes (at / 8) * 256 + get_or bytes (at / 8 + 4) 0) / 2 ^ (40 - at % 8 - w) % 2 ^ w ≡ field at w (bits_of bytes)
field-read at w {bytes} u h l = sym (rw word-five at (field-word 5 at w u (omega arith) l))

-- four bytes that are there are a field
four-read : (i : ℕ) {bytes : List ℕ} → Under 256 bytes → i + 4 ≤ length bytes → word_at bytes i < 2 ^ 32 → word_at bytes i ≡ field (8 * i) 32 (bits_of bytes)
unfolding word_at
four-read i {bytes} u l h =
    let e : 8 * i / 8 ≡ i = omega arith in
    let f : 32 - 8 * i % 8 - 32 ≡ 0 = omega arith in
    sym ((rw (e, f, word-four i bytes) at (field-word 4 (8 * i) 32 u (omega arith) (omega arith))) ∙ omega arith)

-- a field in the four bytes from byte i on, with c bits after it in them
pub slot_read : (i c at w : ℕ) {bytes : List ℕ} → Under 256 bytes → i + 4 ≤ length bytes → word_at bytes i < 2 ^ 32 → 8 * i ≤ at → at + w + c ≡ 8 * i + 32
    → word_at bytes i / 2 ^ c % 2 ^ w ≡ field at w (bits_of bytes)
slot_read i c at w {bytes} u l h s e =
    let b = at - 8 * i in
    let f : 8 * i + b ≡ at = omega arith in
    let g : b + w + c ≡ 32 = omega arith in
    let k : 8 * i + (b + w + c) ≤ length (bits_of bytes) = rw length-bits_of (omega arith) in
    rw (four-read i u l h) (sym (rw (f, g) at (field-inner (8 * i) b w c (bits_of-under bytes) k)))

-- the head of a message, its first eight bytes, as one number
pub head_read : {bytes : List ℕ} → Under 256 bytes → 8 ≤ length bytes → {n : ℕ} → n < 2 ^ 64 → n ≡ word 8 0 bytes → n ≡ field 0 64 (bits_of bytes)
head_read u l s e = omega (arith, e) ∙ sym (field-word 8 0 64 u (omega arith) (omega arith))

-- a field before the slots, from the head as one number
pub head-part : (at w below : ℕ) (bytes : List ℕ) → 8 ≤ length bytes → at + w + below ≡ 64 → {word r : ℕ} → word ≡ field 0 64 (bits_of bytes)
    → r ≡ word / 2 ^ below % 2 ^ w → r ≡ field at w (bits_of bytes)
head-part at w below bytes l e f g =
    let k : 0 + (at + w + below) ≤ length (bits_of bytes) = rw length-bits_of (omega arith) in
    g ∙ (rw f (sym (rw (zero-add at, e) at (field-inner 0 at w below (bits_of-under bytes) k))))

-- one bit shifted, in a word of w bits
pub shifted_one : (w k : ℕ) → k < w → 1 * 2 ^ k % 2 ^ w ≡ 2 ^ k
shifted_one w k h = rw one-mul (mod-eq_of_lt (pow-lt {i = k} {j = w} h))

-- of a field that reaches beyond the end, the bits that are there
take-there : (w : ℕ) (l : List ℕ) → take w l ≡ take (min w (length l)) l
take-there zero l = rw (zero-min (length l))
take-there (suc w) [] = rw (min-zero (suc w))
take-there (suc w) (x ∷ l) = rw (suc-min-suc w (length l)) (ap (λ m. x ∷ m) (take-there w l))

pub field-there : (at w : ℕ) (bytes : List ℕ) → field at w (bits_of bytes) ≡ field at (min w (8 * length bytes - at)) (bits_of bytes)
unfolding field
field-there at w bytes = rw (← length-bits_of bytes, ← length-drop at (bits_of bytes)) (ap value (take-there w (drop at (bits_of bytes))))

-- an empty field
pub field-none : (at : ℕ) (bs : List ℕ) → field at 0 bs ≡ 0
unfolding field value
field-none at bs = refl

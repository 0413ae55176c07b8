-- Bits appended, and the bytes that they make.
use Prim.Native.Nat.{ℕ, zero, suc, ◌+◌, ◌*◌, ◌-◌, ◌/◌, ◌%◌, ◌^◌, ◌≤◌, ◌<◌}
use mathlib.Core.Path.{◌≡◌, refl, sym, ◌∙◌}
use mathlib.Core.List.{List, [], ◌∷◌, ◌++◌, append_assoc, append-nil}
use native.Mathlib.Omega.{arith}
use native.Mathlib.Nat.{add-zero, suc-add, add-suc, mod-lt, zero-div}
use lib.Dec.{lit<}
use lib.Pow.{pow_pos, mod-mod-pow}
use lib.ListN.{length, set, replicate}
use lib.Seq.{sets}
use Rattle.rules.specs.Lists.{none, more, round_up}
use Rattle.rules.specs.Message.{bits, bits_of, groups, bytes_of}
use Rattle.rules.proofs.BitLaws.{length-bits, bits-same, bits-split, bits-join, bytes_of-filled}
use Rattle.rules.proofs.BitLaws.{bytes_of-byte as byte-first}

-- Bits of a number

low_part : (j v w n : ℕ) → v ≡ j + w → n % 2 ^ v % 2 ^ w ≡ n % 2 ^ w
low_part j v w n e = rw e (mod-mod-pow n j w)

pub no_bits : (n : ℕ) → bits 0 n ≡ []
unfolding bits
no_bits n = refl

-- bits beyond the last v do not count
pub bits-mod : (w v n : ℕ) → w ≤ v → bits w (n % 2 ^ v) ≡ bits w n
bits-mod w v n h = bits-same w (n % 2 ^ v) n (low_part (v - w) v w n (omega arith))

bits-zero : (w : ℕ) → bits w 0 ≡ replicate w 0
unfolding bits
bits-zero zero = refl
bits-zero (suc w) = rw (zero-div (2 ^ w), bits-zero w)

-- Bytes of bits

bytes_of-byte : (v : ℕ) (bs : List ℕ) → bytes_of (bits 8 v ++ bs) ≡ v % 256 ∷ bytes_of bs
bytes_of-byte v bs = rw (← (bits-mod 8 8 v (omega arith))) (byte-first (v % 256) bs (mod-lt v (lit< tt)))

-- a number of suc n bytes: its first byte, and n more
pub bytes_of-more : (n v : ℕ) → bytes_of (bits (suc n * 8) v) ≡ v / 2 ^ (n * 8) % 256 ∷ bytes_of (bits (n * 8) v)
bytes_of-more n v =
    let e : suc n * 8 ≡ 8 + n * 8 = omega arith in
    rw (e, bits-split 8 (n * 8) v) (bytes_of-byte (v / 2 ^ (n * 8)) (bits (n * 8) v))

no_bytes : (v : ℕ) (bs : List ℕ) → bytes_of (bits (0 * 8) v ++ bs) ≡ bytes_of (bits (0 * 8) v) ++ bytes_of bs
unfolding bits bytes_of groups round_up
no_bytes v bs = refl

-- whole bytes, and what follows them
pub bytes_of-whole : (n v : ℕ) (bs : List ℕ) → bytes_of (bits (n * 8) v ++ bs) ≡ bytes_of (bits (n * 8) v) ++ bytes_of bs
bytes_of-whole zero v bs = no_bytes v bs
bytes_of-whole (suc n) v bs =
    let e : suc n * 8 ≡ 8 + n * 8 = omega arith in
    rw (bytes_of-more n v, ← (bytes_of-whole n v bs), e, bits-split 8 (n * 8) v, append_assoc (bits 8 (v / 2 ^ (n * 8))) (bits (n * 8) v) bs)
    (bytes_of-byte (v / 2 ^ (n * 8)) (bits (n * 8) v ++ bs))

-- "Zero bits fill the last byte."
pub bytes_of-last : (k a : ℕ) → 0 < k → k < 8 → bytes_of (bits k a) ≡ a * 2 ^ (8 - k) % 256 ∷ []
unfolding bits_of round_up
bytes_of-last k a p h =
    let e : k + (8 - k) ≡ 8 = omega arith in
    let n : (length (bits k a) + 7) / 8 ≡ 1 = rw length-bits (omega arith) in
    let filling : 8 - length (bits k a) ≡ 8 - k = rw length-bits in
    let filled : bits k a ++ replicate (8 - k) 0 ≡ bits 8 (a * 2 ^ (8 - k)) = rw (← (bits-zero (8 - k)), bits-join k (8 - k) a 0 (pow_pos (8 - k)), e, add-zero) in
    bytes_of-filled (bits k a) (more (mod-lt (a * 2 ^ (8 - k)) (lit< tt)) none) (sym n)
    (rw (n, filling, filled) (append-nil (bits 8 (a * 2 ^ (8 - k) % 256)) ∙ bits-mod 8 8 (a * 2 ^ (8 - k)) (omega arith)))

-- Stores

-- a run of stores after a run of stores
pub sets-append : (l : List ℕ) (i : ℕ) (a b : List ℕ) → sets (sets l i a) (i + length a) b ≡ sets l i (a ++ b)
sets-append l i [] b = rw (add-zero i)
sets-append l i (x ∷ a) b = rw (add-suc i (length a), ← (suc-add i (length a))) (sets-append (set l i x) (suc i) a b)

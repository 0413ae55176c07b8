-- Bits, numbers and bytes: what `bits`, `value`, `field`, `bits_of` and `bytes_of` of specs/Message.antt do, over the width.
use Prim.Native.Nat.{ℕ, zero, suc, ◌+◌, ◌*◌, ◌-◌, ◌/◌, ◌%◌, ◌^◌, ◌≤◌, ◌<◌}
use mathlib.Core.Path.{◌≡◌, refl, ap, sym, ◌∙◌}
use mathlib.Core.List.{List, [], ◌∷◌, ◌++◌, append_assoc, append-nil}
use native.Mathlib.Omega.{arith}
use native.Mathlib.Nat.{mod-lt, mod-eq_of_lt, pow-suc, mul-add-mod_self_right, add-mul, mul_assoc, add-zero, zero-add, suc-add, add_comm}
use lib.Dec.{lit<}
use lib.Pow.{pow_mono, pow-add, mod-pow-add, mod-mod-pow, high, low, shr-shr, field as field-shift}
use lib.Arith.{digits_lt}
use lib.ListN.{length, take, drop, get_or, replicate, length-append, length-take, length-drop, length-replicate, replicate-append-replicate}
use lib.Seq.{take-append-le, take-append-add, drop-append-le, take_at, drop_at, drop-drop, take-add, length-take-le, drop-append-add}
use Rattle.rules.specs.Lists.{none, more, round_up}
use Rattle.rules.specs.Message.{bits, value, field, bits_of, groups, bytes_of}
use Rattle.rules.proofs.ListLaws.{Under, all_append, all_take, all_drop, all_replicate, get_or-pad, take-replicate}

-- Bits

-- n in w bits has w bits
pub length-bits : (w n : ℕ) → length (bits w n) ≡ w
unfolding bits
length-bits zero n = refl
length-bits (suc w) n = ap suc (length-bits w n)

-- each byte has eight
pub length-bits_of : (bytes : List ℕ) → length (bits_of bytes) ≡ 8 * length bytes
unfolding bits_of
length-bits_of [] = refl
length-bits_of (b ∷ bytes) = rw (length-append (bits 8 b) (bits_of bytes), length-bits 8 b, length-bits_of bytes) (omega arith)

-- the bits of bytes one after the other
pub bits_of-append : (xs ys : List ℕ) → bits_of (xs ++ ys) ≡ bits_of xs ++ bits_of ys
unfolding bits_of
bits_of-append [] ys = refl
bits_of-append (x ∷ xs) ys = rw (bits_of-append xs ys, append_assoc (bits 8 x) (bits_of xs) (bits_of ys))

-- each is 0 or 1
pub bits-under : (w n : ℕ) → Under 2 (bits w n)
unfolding bits
bits-under zero n = none
bits-under (suc w) n = more (mod-lt (n / 2 ^ w) (lit< tt)) (bits-under w n)

-- those of bytes too
pub bits_of-under : (bytes : List ℕ) → Under 2 (bits_of bytes)
unfolding bits_of
bits_of-under [] = none
bits_of-under (b ∷ bytes) = all_append (bits-under 8 b) (bits_of-under bytes)

-- Numbers

-- n in w bits stands for n's remainder
pub value-bits : (w n : ℕ) → value (bits w n) ≡ n % 2 ^ w
unfolding bits value
value-bits zero n = omega arith
value-bits (suc w) n =
    let e : suc w ≡ 1 + w = omega arith in
    rw (length-bits w n, value-bits w n, e) (sym (mod-pow-add n 1 w))

-- and for n itself, where n fits
pub value-bits-lt : (w n : ℕ) → n < 2 ^ w → value (bits w n) ≡ n
value-bits-lt w n h = value-bits w n ∙ mod-eq_of_lt h

-- bits stand for a number that fits their count
pub value-lt : {bs : List ℕ} → Under 2 bs → value bs < 2 ^ length bs
unfolding value
value-lt none = omega arith
value-lt (more {x = b} {xs = bs} p q) =
    let e : 2 ^ suc (length bs) ≡ 2 ^ length bs * 2 = pow-suc 2 (length bs) in
    omega (arith, digits_lt {q = b} {m = 2} {c = 2 ^ length bs} p (value-lt q))

-- numbers with the same remainder have the same bits
pub bits-same : (w n m : ℕ) → n % 2 ^ w ≡ m % 2 ^ w → bits w n ≡ bits w m
unfolding bits
bits-same zero n m e = refl
bits-same (suc w) n m e =
    let s : suc w ≡ 1 + w = omega arith in
    let r : n % 2 ^ (1 + w) ≡ m % 2 ^ (1 + w) = rw s at e in
    let high : n / 2 ^ w % 2 ≡ m / 2 ^ w % 2 = sym (field-shift n 1 w) ∙ ap (λ x. x / 2 ^ w) r ∙ field-shift m 1 w in
    let low : n % 2 ^ w ≡ m % 2 ^ w = sym (mod-mod-pow n 1 w) ∙ ap (λ x. x % 2 ^ w) r ∙ mod-mod-pow m 1 w in
    rw (high, bits-same w n m low)

-- bits are the bits of the number that they stand for
pub bits-value : {bs : List ℕ} → Under 2 bs → bits (length bs) (value bs) ≡ bs
unfolding bits value
bits-value none = refl
bits-value (more {x = b} {xs = bs} p q) =
    let n = length bs in
    rw (high b n (value-lt q), mod-eq_of_lt p, bits-same n (b * 2 ^ n + value bs) (value bs) (mul-add-mod_self_right b (2 ^ n) (value bs)), bits-value q)

-- the same, of a number of bits that is known
pub bits_of_value : (w : ℕ) {bs : List ℕ} → length bs ≡ w → Under 2 bs → bits w (value bs) ≡ bs
bits_of_value w e h = rw (← e) (bits-value h)

-- a number's bits in two parts, the upper and the lower
pub bits-split : (v w n : ℕ) → bits (v + w) n ≡ bits v (n / 2 ^ w) ++ bits w n
unfolding bits
bits-split zero w n = rw zero-add
bits-split (suc v) w n = rw (suc-add v w, shr-shr n w v, add_comm w v, bits-split v w n)

-- the bits of two numbers, one after the other, are those of one
pub bits-join : (v w q r : ℕ) → r < 2 ^ w → bits v q ++ bits w r ≡ bits (v + w) (q * 2 ^ w + r)
bits-join v w q r h =
    rw (bits-split v w (q * 2 ^ w + r), high q w h, bits-same w (q * 2 ^ w + r) r (mul-add-mod_self_right q (2 ^ w) r))

-- the number of bits one after the other
pub value-append : (a b : List ℕ) → value (a ++ b) ≡ value a * 2 ^ length b + value b
unfolding value
value-append [] b = omega arith
value-append (x ∷ a) b =
    rw (length-append a b, pow-add 2 (length a) (length b), value-append a b, add-mul, mul_assoc) (omega arith)

-- Fields

-- a field in the first part of an append
pub field-left : (at w : ℕ) (a b : List ℕ) → at + w ≤ length a → field at w (a ++ b) ≡ field at w a
unfolding field
field-left at w a b h =
    let k : w ≤ length (drop at a) = simp length-drop (omega arith) in
    rw (drop-append-le at a b (omega arith), take-append-le w (drop at a) b k)

-- a field in the second part
pub field-right : (at w : ℕ) (a b : List ℕ) → field (length a + at) w (a ++ b) ≡ field at w b
unfolding field
field-right at w a b = rw drop-append-add

-- a field that was written in front
pub field-front : (w n : ℕ) (b : List ℕ) → n < 2 ^ w → field 0 w (bits w n ++ b) ≡ n
unfolding field
field-front w n b h = rw (take_at (bits w n) b w (length-bits w n)) (value-bits-lt w n h)

-- and one that was written after a
pub field-written : (w n : ℕ) (a b : List ℕ) → n < 2 ^ w → field (length a) w (a ++ (bits w n ++ b)) ≡ n
field-written w n a b h = rw (← add-zero (length a), field-right) (field-front w n b h)

-- a field of what is left after the first n bits
pub field-drop : (n at w : ℕ) (bs : List ℕ) → field at w (drop n bs) ≡ field (n + at) w bs
unfolding field
field-drop n at w bs = rw drop-drop

-- a field fits its width
pub field_lt : (at w : ℕ) {bs : List ℕ} → Under 2 bs → field at w bs < 2 ^ w
unfolding field
field_lt at w {bs} h =
    let t = take w (drop at bs) in
    let k : length t ≤ w = simp length-take (omega arith) in
    omega (arith, value-lt (all_take w (all_drop at h)), pow_mono {i = length t} {j = w} k)

-- the bits of a field
pub bits-field : (at w : ℕ) {bs : List ℕ} → Under 2 bs → at + w ≤ length bs → bits w (field at w bs) ≡ take w (drop at bs)
unfolding field
bits-field at w {bs} u h = bits_of_value w (length-take-le w (drop at bs) (simp length-drop (omega arith))) (all_take w (all_drop at u))

-- the bits of a field, and those after it
pub bits-fields : (at w v : ℕ) {n : ℕ} {bs rest : List ℕ} → Under 2 bs → at + w ≤ length bs → n ≡ field at w bs → rest ≡ take v (drop (at + w) bs)
    → bits w n ++ rest ≡ take (w + v) (drop at bs)
bits-fields at w v {bs} u h e f = rw (e, f, bits-field at w u h, take-add w v (drop at bs), drop-drop w at bs)

-- a field as two fields, one after the other
pub field-add : (at v w : ℕ) (bs : List ℕ) → at + v + w ≤ length bs → field at (v + w) bs ≡ field at v bs * 2 ^ w + field (at + v) w bs
unfolding field
field-add at v w bs h =
    let k : length (take w (drop v (drop at bs))) ≡ w = length-take-le w (drop v (drop at bs)) (simp length-drop (omega arith)) in
    rw (take-add v w (drop at bs), value-append (take v (drop at bs)) (take w (drop v (drop at bs))), k, drop-drop v at bs)

-- a field of a field: b bits into it, with c bits after
pub field-inner : (at b w c : ℕ) {bs : List ℕ} → Under 2 bs → at + (b + w + c) ≤ length bs
    → field (at + b) w bs ≡ field at (b + w + c) bs / 2 ^ c % 2 ^ w
field-inner at b w c {bs} u h =
    let l : at + (b + w) + c ≤ length bs = omega arith in
    let m : at + b + w ≤ length bs = omega arith in
    rw (field-add at (b + w) c bs l, high (field at (b + w) bs) c (field_lt (at + (b + w)) c u), field-add at b w bs m)
    (sym (low (field at b bs) w (field_lt (at + b) w u)))

-- Fields of bytes as arithmetic

-- eight bits at a multiple of eight are a byte
pub field-byte : (i : ℕ) {bytes : List ℕ} → Under 256 bytes → i < length bytes → field (8 * i) 8 (bits_of bytes) ≡ get_or bytes i 0
unfolding bits_of
field-byte i none h = absurd (omega arith)
field-byte zero (more {x = b} {xs = bytes} p q) h = field-front 8 b (bits_of bytes) p
field-byte (suc i) (more {x = b} {xs = bytes} p q) h =
    let e : 8 * suc i ≡ length (bits 8 b) + 8 * i = rw length-bits (omega arith) in
    rw (e, field-right) (field-byte i q (omega arith))

-- the number that k bytes from byte i on stand for, bytes beyond the end as 0
unfoldable pub word : ℕ → ℕ → List ℕ → ℕ
word zero i bytes = 0
word (suc k) i bytes = get_or bytes i 0 * 2 ^ (8 * k) + word k (i + 1) bytes

-- zeros beyond the end change no word
word-pad : (k i n : ℕ) (bytes : List ℕ) → word k i (bytes ++ replicate n 0) ≡ word k i bytes
unfolding word
word-pad zero i n bytes = refl
word-pad (suc k) i n bytes = rw (get_or-pad bytes n i, word-pad k (i + 1) n bytes)

-- a word is a field that starts and ends with a byte
word-field : (k i : ℕ) {bytes : List ℕ} → Under 256 bytes → i + k ≤ length bytes → word k i bytes ≡ field (8 * i) (8 * k) (bits_of bytes)
unfolding word field value
word-field zero i u h = refl
word-field (suc k) i {bytes} u h =
    let e : 8 * suc k ≡ 8 + 8 * k = omega arith in
    let f : 8 * i + 8 ≡ 8 * (i + 1) = omega arith in
    let l : 8 * i + 8 + 8 * k ≤ length (bits_of bytes) = rw length-bits_of (omega arith) in
    rw (e, field-add (8 * i) 8 (8 * k) (bits_of bytes) l, f, field-byte i u (omega arith), word-field k (i + 1) u (omega arith))

-- a field of bytes, from the k bytes that hold it
pub field-word : (k at w : ℕ) {bytes : List ℕ} → Under 256 bytes → at % 8 + w ≤ 8 * k → at + w ≤ 8 * length bytes
    → field at w (bits_of bytes) ≡ word k (at / 8) bytes / 2 ^ (8 * k - at % 8 - w) % 2 ^ w
field-word k at w {bytes} u h l =
    let zeros : List ℕ = replicate k 0 in
    let i = at / 8 in
    let c = 8 * k - at % 8 - w in
    let padded : Under 256 (bytes ++ zeros) = all_append u (all_replicate k 0 (lit< tt)) in
    let long : length (bytes ++ zeros) ≡ length bytes + k = simp (length-append, length-replicate) in
    let inside : at + w ≤ length (bits_of bytes) = rw length-bits_of (omega arith) in
    let fits : 8 * i + (at % 8 + w + c) ≤ length (bits_of (bytes ++ zeros)) = rw length-bits_of (omega arith) in
    let whole : at % 8 + w + c ≡ 8 * k = omega arith in
    let split : 8 * i + at % 8 ≡ at = omega arith in
    let same : word k i bytes ≡ field (8 * i) (8 * k) (bits_of (bytes ++ zeros)) = sym (word-pad k i k bytes) ∙ word-field k i padded (omega arith) in
    sym (field-left at w (bits_of bytes) (bits_of zeros) inside)
    ∙ ap (field at w) (sym (bits_of-append bytes zeros))
    ∙ (rw same (rw (split, whole) at (field-inner (8 * i) (at % 8) w c (bits_of-under (bytes ++ zeros)) fits)))

-- a word of four bytes
pub word-four : (i : ℕ) (bytes : List ℕ)
    → word 4 i bytes ≡ get_or bytes i 0 * 16777216 + get_or bytes (i + 1) 0 * 65536 + get_or bytes (i + 2) 0 * 256 + get_or bytes (i + 3) 0
unfolding word
word-four i bytes =
    let e : i + 1 + 1 ≡ i + 2 = omega arith in
    let f : i + 2 + 1 ≡ i + 3 = omega arith in
    rw (e, f) (omega arith)

-- Bytes

-- n groups are n bytes
length-groups : (n : ℕ) (bs : List ℕ) → length (groups n bs) ≡ n
unfolding groups
length-groups zero bs = refl
length-groups (suc n) bs = ap suc (length-groups n (drop 8 bs))

-- bits fill as many bytes as they need
pub length-bytes_of : (bs : List ℕ) → length (bytes_of bs) ≡ round_up (length bs) 8
unfolding bytes_of
length-bytes_of bs = length-groups (round_up (length bs) 8) (bs ++ replicate 7 0)

-- a group by its place
groups-at : (n i : ℕ) (bs : List ℕ) → i < n → get_or (groups n bs) i 0 ≡ field (8 * i) 8 bs
unfolding groups field
groups-at zero i bs h = absurd (omega arith)
groups-at (suc n) zero bs h = refl
groups-at (suc n) (suc i) bs h =
    let e : 8 * suc i ≡ 8 + 8 * i = omega arith in
    rw (e, groups-at n i (drop 8 bs) (omega arith), drop-drop (8 * i) 8 bs)

-- a byte by its place: the eight bits there, zeros after the last
pub bytes_of-at : (i : ℕ) (bs : List ℕ) → i < round_up (length bs) 8 → get_or (bytes_of bs) i 0 ≡ field (8 * i) 8 (bs ++ replicate 7 0)
unfolding bytes_of
bytes_of-at i bs h = groups-at (round_up (length bs) 8) i (bs ++ replicate 7 0) h

-- a byte's bits in front are the first group
groups-byte : (n b : ℕ) (bs : List ℕ) → b < 256 → groups (suc n) (bits 8 b ++ bs) ≡ b ∷ groups n bs
unfolding groups
groups-byte n b bs h = rw (take_at (bits 8 b) bs 8 (length-bits 8 b), drop_at (bits 8 b) bs 8 (length-bits 8 b), value-bits-lt 8 b h)

-- a byte's bits in front are the first byte
pub bytes_of-byte : (b : ℕ) (bs : List ℕ) → b < 256 → bytes_of (bits 8 b ++ bs) ≡ b ∷ bytes_of bs
unfolding bytes_of round_up
bytes_of-byte b bs h =
    let l : length (bits 8 b ++ bs) ≡ 8 + length bs = simp (length-append, length-bits) in
    let e : round_up (length (bits 8 b ++ bs)) 8 ≡ suc (round_up (length bs) 8) = omega arith in
    rw (e, append_assoc) (groups-byte (round_up (length bs) 8) b (bs ++ replicate 7 0) h)

-- the bits of bytes in front are these bytes in front
pub bytes_of-append : {bytes : List ℕ} (bs : List ℕ) → Under 256 bytes → bytes_of (bits_of bytes ++ bs) ≡ bytes ++ bytes_of bs
unfolding bits_of
bytes_of-append bs none = refl
bytes_of-append bs (more {x = b} {xs = bytes} p q) = rw (append_assoc, bytes_of-byte b (bits_of bytes ++ bs) p, bytes_of-append bs q)

-- each group of bits is a byte
groups-under : (n : ℕ) {bs : List ℕ} → Under 2 bs → Under 256 (groups n bs)
unfolding groups field
groups-under zero h = none
groups-under (suc n) {bs} h = more (field_lt 0 8 h) (groups-under n (all_drop 8 h))

-- and so are the bytes of bits
pub bytes_of-under : {bs : List ℕ} → Under 2 bs → Under 256 (bytes_of bs)
unfolding bytes_of
bytes_of-under {bs} h = groups-under (round_up (length bs) 8) (all_append h (all_replicate 7 0 (lit< tt)))

-- the bits of groups are the bits that were grouped
bits_of-groups : (n : ℕ) {bs : List ℕ} → Under 2 bs → 8 * n ≤ length bs → bits_of (groups n bs) ≡ take (8 * n) bs
unfolding bits_of groups
bits_of-groups zero h l = refl
bits_of-groups (suc n) {bs} h l =
    let e : 8 * suc n ≡ 8 + 8 * n = omega arith in
    let r : 8 * n ≤ length (drop 8 bs) = simp length-drop (omega arith) in
    rw (e, take-add 8 (8 * n) bs, bits_of_value 8 (length-take-le 8 bs (omega arith)) (all_take 8 h), bits_of-groups n (all_drop 8 h) r)

-- bits to bytes and back: the bits, and zeros that fill the last byte
pub bits_of-bytes_of : {bs : List ℕ} → Under 2 bs → bits_of (bytes_of bs) ≡ bs ++ replicate (round_up (length bs) 8 * 8 - length bs) 0
unfolding bytes_of round_up
bits_of-bytes_of {bs} h =
    let n = round_up (length bs) 8 in
    let k = n * 8 - length bs in
    let e : 8 * n ≡ length bs + k = omega arith in
    let l : 8 * n ≤ length (bs ++ replicate 7 0) = simp length-append (omega arith) in
    bits_of-groups n (all_append h (all_replicate 7 0 (lit< tt))) l ∙ (rw (e, take-append-add, take-replicate {A = ℕ} k 7 0 (omega arith)))

-- bytes from bits that begin with theirs
groups-bits_of : {bytes : List ℕ} (rest : List ℕ) → Under 256 bytes → groups (length bytes) (bits_of bytes ++ rest) ≡ bytes
unfolding groups bits_of
groups-bits_of rest none = refl
groups-bits_of rest (more {x = b} {xs = bytes} p q) =
    rw append_assoc (groups-byte (length bytes) b (bits_of bytes ++ rest) p ∙ ap (λ l. b ∷ l) (groups-bits_of rest q))

-- bits that, filled with zeros, are those of bytes pack to these bytes
pub bytes_of-filled : (bs : List ℕ) {bytes : List ℕ} → Under 256 bytes → length bytes ≡ round_up (length bs) 8
    → bits_of bytes ≡ bs ++ replicate (round_up (length bs) 8 * 8 - length bs) 0 → bytes_of bs ≡ bytes
unfolding bytes_of round_up
bytes_of-filled bs {bytes} u l e =
    let k = round_up (length bs) 8 * 8 - length bs in
    let s : k + (7 - k) ≡ 7 = omega arith in
    let f : bs ++ replicate 7 0 ≡ bits_of bytes ++ replicate (7 - k) 0 = rw (e, append_assoc bs (replicate k 0) (replicate (7 - k) 0), replicate-append-replicate {A = ℕ} k (7 - k) 0, s) in
    rw (← l, f) (groups-bits_of (replicate (7 - k) 0) u)

-- bytes to bits and back
pub bytes_of-bits_of : {bytes : List ℕ} → Under 256 bytes → bytes_of (bits_of bytes) ≡ bytes
unfolding round_up
bytes_of-bits_of {bytes} u =
    let l : length bytes ≡ round_up (length (bits_of bytes)) 8 = rw length-bits_of (omega arith) in
    let z : round_up (length (bits_of bytes)) 8 * 8 - length (bits_of bytes) ≡ 0 = rw length-bits_of (omega arith) in
    bytes_of-filled (bits_of bytes) u l (rw (z, append-nil))

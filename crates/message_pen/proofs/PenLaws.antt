-- What the buffer holds as bits are appended.
use Prim.Native.Nat.{ℕ, zero, suc, ◌+◌, ◌*◌, ◌-◌, ◌/◌, ◌%◌, ◌^◌, ◌≤◌, ◌<◌}
use Rattle.std.specs.Int.{byte_at, bytes_high_first}
use borrow.Rule.Slice.PartMut.{put_mid}
use mathlib.Core.Path.{◌≡◌, refl, ap, sym, ◌∙◌}
use mathlib.Core.List.{List, [], ◌++◌, append_assoc, append-nil}
use native.Mathlib.Omega.{arith}
use native.Mathlib.Nat.{add-zero, zero-add, suc-add, pos_of_ne-zero, pow-suc}
use lib.Arith.{digits_lt}
use lib.Pow.{pow-add, pow_mono, shl_exact}
use lib.ListN.{length, set, take, drop, length-append}
use lib.Seq.{drop-drop, length-sets, sets-eq}
use Rattle.rules.specs.Lists.{round_up}
use Rattle.rules.specs.Message.{bits, groups, bytes_of}
use Rattle.message_pen.specs.declared.Pen.{Pen}
use Rattle.message_pen.specs.Pens.{stored, completed_at, AppendedAt, RoomAt}
use Rattle.rules.proofs.BitLaws.{length-bits, bits-split, bits-join, length-bytes_of}
use Rattle.message_pen.proofs.PackLaws.{bits-mod, bytes_of-more, bytes_of-whole, bytes_of-last, sets-append}

-- Bytes, highest first

bytes-power : (k : ℕ) → 256 ^ k ≡ 2 ^ (k * 8)
bytes-power zero = refl
bytes-power (suc k) =
    let e : suc k * 8 ≡ k * 8 + 8 = omega arith in
    rw e (omega (arith, pow-suc 256 k, pow-add 2 (k * 8) 8, bytes-power k))

byte-same : (k v : ℕ) → byte_at k v ≡ v / 2 ^ (k * 8) % 256
byte-same zero v = omega arith
byte-same (suc k) v = rw (bytes-power (suc k)) refl

high-first : (n v : ℕ) → bytes_high_first n v ≡ bytes_of (bits (n * 8) v)
unfolding bits bytes_of groups round_up
high-first zero v = refl
high-first (suc n) v = rw (bytes_of-more n v, byte-same n v, high-first n v)

-- of more bytes, the last n
last-bytes : (k n v : ℕ) → drop k (bytes_high_first (k + n) v) ≡ bytes_high_first n v
last-bytes zero n v = rw zero-add
last-bytes (suc k) n v = rw (suc-add k n) (last-bytes k n v)

-- the last n bytes of v, copied into a buffer
pub stored-copy : (buf : List ℕ) (at v n : ℕ) {new : List ℕ} → n ≤ 8 → at + n ≤ length buf → new ≡ drop (8 - n) (bytes_high_first 8 v)
    → put_mid at (at + n - at) buf new ≡ stored buf at v n
unfolding stored round_up
stored-copy buf at v n {new} e l q =
    let b = bytes_of (bits (n * 8) v) in
    let m : length b ≡ n = rw (length-bytes_of (bits (n * 8) v), length-bits (n * 8) v) (omega arith) in
    let k : at + n - at ≡ n = omega arith in
    let j : 8 ≡ 8 - n + n = omega arith in
    let r : new ≡ b = q ∙ ap (λ i. drop (8 - n) (bytes_high_first i v)) j ∙ last-bytes (8 - n) n v ∙ high-first n v in
    rw (k, r, drop-drop n at buf, ← append_assoc (take at buf) b (drop (at + n) buf)) (sym (sets-eq b buf at (omega (arith, m)) ∙ ap (λ i. take at buf ++ b ++ drop (at + i) buf) m))

-- Bits, appended

-- w bits more fit a u64
pub shift-whole : (acc w : ℕ) → acc < 256 → w ≤ 40 → acc * 2 ^ w % 2 ^ 64 ≡ acc * 2 ^ w
shift-whole acc w h k = shl_exact {a = acc} 8 w 64 h (omega arith)

pub shift_fits : (acc w v : ℕ) → acc < 256 → w ≤ 40 → v < 2 ^ w → acc * 2 ^ w % 2 ^ 64 + v < 2 ^ 64
shift_fits acc w v h k l =
    rw (shift-whole acc w h k) (omega (arith, digits_lt {q = acc} {m = 256} {r = v} {c = 2 ^ w} h l, pow_mono {i = w} {j = 40} k))

-- w bits of v after those that are written; s is what is written, moved up by w bits
module _ (buf : List ℕ) (p : Pen) (v w s : ℕ) (h : v < 2 ^ w) (e : s ≡ p.acc * 2 ^ w) where
  -- the bits that wait, and those of v
  joined : (rest : List ℕ) → bits (p.pos % 8) p.acc ++ (bits w v ++ rest) ≡ bits (p.pos % 8 + w) (s + v) ++ rest
  joined rest = rw (e, ← (bits-join (p.pos % 8) w p.acc v h), append_assoc (bits (p.pos % 8) p.acc) (bits w v) rest)

  -- whole bytes, and the bits that wait then
  cut : (rest : List ℕ) (n : ℕ) → bytes_of (bits n (s + v) ++ rest)
      ≡ bytes_of (bits (n / 8 * 8) ((s + v) / 2 ^ (n % 8))) ++ bytes_of (bits (n % 8) ((s + v) % 256) ++ rest)
  cut rest n =
      let q : n ≡ n / 8 * 8 + n % 8 = omega arith in
      let l : bits (n % 8) ((s + v) % 256) ≡ bits (n % 8) (s + v) = bits-mod (n % 8) 8 (s + v) (omega arith) in
      ap (λ k. bytes_of (bits k (s + v) ++ rest)) q
      ∙ rw (bits-split (n / 8 * 8) (n % 8) (s + v), append_assoc (bits (n / 8 * 8) ((s + v) / 2 ^ (n % 8))) (bits (n % 8) (s + v)) rest, l)
      (bytes_of-whole (n / 8) ((s + v) / 2 ^ (n % 8)) (bits (n % 8) (s + v) ++ rest))

  length_whole : (n u : ℕ) → length (bytes_of (bits (n * 8) u)) ≡ n
  unfolding round_up
  length_whole n u = rw (length-bytes_of (bits (n * 8) u), length-bits (n * 8) u) (omega arith)

  abbrev pub after : Pen
  after = record { pos = p.pos + w; acc = (s + v) % 256 }

  pub put_same : (rest : List ℕ)
      → completed_at (stored buf (p.pos / 8) ((s + v) / 2 ^ ((p.pos % 8 + w) % 8)) ((p.pos % 8 + w) / 8)) after rest ≡ completed_at buf p (bits w v ++ rest)
  unfolding completed_at stored
  put_same rest =
      let n = p.pos % 8 + w in
      let a : (p.pos + w) / 8 ≡ p.pos / 8 + n / 8 = omega arith in
      let b : (p.pos + w) % 8 ≡ n % 8 = omega arith in
      let k : p.pos / 8 + n / 8 ≡ p.pos / 8 + length (bytes_of (bits (n / 8 * 8) ((s + v) / 2 ^ (n % 8)))) = ap (λ i. p.pos / 8 + i) (sym (length_whole (n / 8) ((s + v) / 2 ^ (n % 8)))) in
      rw (joined rest, cut rest n, a, b, k) (sets-append buf (p.pos / 8) (bytes_of (bits (n / 8 * 8) ((s + v) / 2 ^ (n % 8)))) (bytes_of (bits (n % 8) ((s + v) % 256) ++ rest)))

  long-stored : (at u n : ℕ) → length (stored buf at u n) ≡ length buf
  unfolding stored
  long-stored at u n = length-sets buf at (bytes_of (bits (n * 8) u))

  pub put-appended : (new : List ℕ) → new ≡ stored buf (p.pos / 8) ((s + v) / 2 ^ ((p.pos % 8 + w) % 8)) ((p.pos % 8 + w) / 8) → AppendedAt buf p (bits w v) new after
  put-appended new t = record { long = ap length t ∙ long-stored (p.pos / 8) ((s + v) / 2 ^ ((p.pos % 8 + w) % 8)) ((p.pos % 8 + w) / 8); moved = rw (length-bits w v); byte = omega arith; same = λ rest. rw t (put_same rest) }

-- bits after bits
pub appended-append : {old mid new a b : List ℕ} {p q r : Pen} → AppendedAt old p a mid q → AppendedAt mid q b new r → AppendedAt old p (a ++ b) new r
appended-append {a = a} {b = b} f g = record {
  long = g.long ∙ f.long;
  moved = omega (arith, f.moved, g.moved, length-append a b);
  byte = g.byte;
  same = λ rest. rw (append_assoc a b rest) (g.same rest ∙ f.same (b ++ rest));
}

-- room for bits and w more is room for w after them
pub room_after : {old new bs : List ℕ} {p r : Pen} (w : ℕ) → AppendedAt old p bs new r → RoomAt old p (length bs + w) → RoomAt new r w
room_after w a h = record { byte = a.byte; within = omega (arith, a.long, a.moved, h.within); small = omega (arith, a.moved, h.small) }

pub room-last : {old new bs : List ℕ} {p r : Pen} → AppendedAt old p bs new r → RoomAt old p (length bs) → RoomAt new r 0
room-last {bs = bs} a h = room_after 0 a (rw (add-zero (length bs)) h)

-- The last byte

pub last-whole : (buf : List ℕ) (p : Pen) → p.pos % 8 ≡ 0 → buf ≡ completed_at buf p []
unfolding completed_at bits bytes_of groups round_up
last-whole buf p e = rw e

pub last-part : (buf : List ℕ) (p : Pen) → p.acc < 256 → (p.pos % 8 ≡ 0 → ⊥) → set buf (p.pos / 8) (p.acc * 2 ^ (8 - p.pos % 8) % 2 ^ 64 % 256) ≡ completed_at buf p []
unfolding completed_at
last-part buf p h n =
    let k : 0 < p.pos % 8 = pos_of_ne-zero n in
    rw (shift-whole p.acc (8 - p.pos % 8) h (omega arith), append-nil (bits (p.pos % 8) p.acc), bytes_of-last (p.pos % 8) p.acc k (omega arith))

-- The first 39 bits of a message as one number.
use Prim.Native.Nat.{ℕ, ◌+◌, ◌*◌, ◌≤◌, ◌<◌}
use mathlib.Core.Bool.{Bool, true, false, ◌||◌}
use mathlib.Core.Path.{◌≡◌, refl, ap, sym, ◌∙◌}
use mir.Val.{bool_byte}
use mathlib.Core.List.{List, ◌++◌, append_assoc, append-nil}
use native.Mathlib.Omega.{arith}
use lib.Dec.{eqb, ltb}
use borrow.Author.Tests.{ltb-false, not-false, eqb-true}
use Rattle.rules.specs.Lists.{any, from}
use Rattle.rules.specs.Units.{bad_number}
use Rattle.rules.specs.Message.{Form, Fields, bit, bits, hour_bits, head_bits, bad_contract, bad_key, bad_hour, bad_fields}
use Rattle.rules.proofs.BoolLaws.{neither}
use Rattle.rules.proofs.BitLaws.{bits-join}
use Rattle.message_pen.proofs.PackLaws.{no_bits}

-- Ranges

number_fits : (n : ℕ) → bad_number n ≡ false → n < 65536
unfolding bad_number
number_fits n h = omega (arith, ltb-false 65535 n (neither (eqb n 0) (ltb 65535 n) h).1)

contract-fits : (x : Bool) (n : ℕ) → bad_contract x n ≡ false → n < 65536
unfolding bad_contract
contract-fits true n h = number_fits n h
contract-fits false n h = omega (arith, eqb-true n 0 (not-false (eqb n 0) h))

pub head-fits : (top : ℕ) (m : Fields) → bad_fields top m ≡ false → (m.key.unit < 65536) × (m.key.contract < 65536)
unfolding bad_fields bad_key
head-fits top m h =
    let u = bad_number m.key.unit in
    let c = bad_contract m.key.execution m.key.contract in
    let a = neither u c (neither (u || c) (any (bad_hour top m) (from 1 25)) h).0 in
    (number_fits m.key.unit a.0, contract-fits m.key.execution m.key.contract a.1)

-- The head

-- a mark as a bit
pub bit-of : (b : Bool) → (bool_byte b ≡ bit b) × (bool_byte b ≤ 1)
unfolding bit
bit-of true = (refl, omega arith)
bit-of false = (refl, omega arith)

head-joined : (k x d u c : ℕ) (rest : List ℕ) → x < 4 → d < 2 → u < 65536 → c < 65536
    → bits 39 ((((k * 4 + x) * 2 + d) * 65536 + u) * 65536 + c) ++ rest ≡ bits 4 k ++ (bits 2 x ++ (bits 1 d ++ (bits 16 u ++ (bits 16 c ++ rest))))
head-joined k x d u c rest hx hd hu hc =
    let a = ap (λ l. l ++ bits 1 d) (bits-join 4 2 k x hx) ∙ bits-join 6 1 (k * 4 + x) d hd in
    let b = ap (λ l. l ++ bits 16 u) a ∙ bits-join 7 16 ((k * 4 + x) * 2 + d) u hu in
    let e = ap (λ l. l ++ bits 16 c) b ∙ bits-join 23 16 (((k * 4 + x) * 2 + d) * 65536 + u) c hc in
    rw (← e) (simp append_assoc)

pub head-word : (f : Form) (top : ℕ) (m : Fields) (x d : ℕ) → x ≡ bit m.key.execution → d ≡ bit m.key.default → x ≤ 1 → d ≤ 1 → bad_fields top m ≡ false
    → bits 39 ((((f.number * 4 + x) * 2 + d) * 65536 + m.key.unit) * 65536 + m.key.contract) ++ (hour_bits m.map ++ bits f.partner 0) ≡ head_bits f m
unfolding head_bits
head-word f top m x d ex ed hx hd h =
    rw (← ex, ← ed) (head-joined f.number x d m.key.unit m.key.contract (hour_bits m.map ++ bits f.partner 0) (omega arith) (omega arith) (head-fits top m h).0 (head-fits top m h).1)

-- of a form with no counterparty
pub head-word-alone : (f : Form) (top : ℕ) (m : Fields) (x d : ℕ) → f.partner ≡ 0 → x ≡ bit m.key.execution → d ≡ bit m.key.default → x ≤ 1 → d ≤ 1 → bad_fields top m ≡ false
    → bits 39 ((((f.number * 4 + x) * 2 + d) * 65536 + m.key.unit) * 65536 + m.key.contract) ++ hour_bits m.map ≡ head_bits f m
head-word-alone f top m x d alone ex ed hx hd h =
    let n = (((f.number * 4 + x) * 2 + d) * 65536 + m.key.unit) * 65536 + m.key.contract in
    let none : hour_bits m.map ++ bits f.partner 0 ≡ hour_bits m.map = rw (alone, no_bits 0) (append-nil (hour_bits m.map)) in
    ap (λ l. bits 39 n ++ l) (sym none) ∙ head-word f top m x d ex ed hx hd h

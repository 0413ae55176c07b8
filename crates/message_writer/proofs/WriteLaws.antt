-- The writer's answers, and what its buffer holds.
use Prim.Native.Nat.{ℕ, ◌+◌, ◌*◌, ◌/◌, ◌^◌, ◌≤◌, ◌<◌}
use mathlib.Core.Bool.{Bool, true, false}
use mathlib.Core.Path.{◌≡◌, refl, ap, sym, ◌∙◌}
use mathlib.Core.List.{List, [], ◌++◌, append-nil}
use native.Mathlib.Omega.{arith}
use native.Mathlib.Nat.{zero-add}
use lib.Dec.{ltb}
use lib.ListN.{length, drop, length-append}
use lib.Seq.{sets-eq}
use borrow.Author.Tests.{ltb-false}
use Rattle.rules.specs.Lists.{round_up}
use Rattle.rules.specs.Units.{max_energy}
use Rattle.rules.specs.Refusals.{Outcome, refused, given, row, first_row, unless, outcome}
use Rattle.rules.specs.Message.{Form, Fields, bits, bytes_of, set_bits, head_width, head_bits, message_bits, encode, bad_map, bad_fields, form_for, message_length, write_rows, write}
use Rattle.rules.proofs.BoolLaws.{by_bool}
use Rattle.rules.proofs.BitLaws.{length-bytes_of}
use Rattle.rules.proofs.MessageLaws.{of-writes, length-head, encode-length}
use Rattle.message.specs.declared.Written.{Written}
use Rattle.rules.specs.Rows.{number_of}
use Rattle.rules.specs.declared.row.Row.{Row}
use Rattle.rules.specs.declared.row.Row.TheVariants.{Date, Gate, Form as FormRow, Hour, Range, Unit, Taken, Second, Full, Maximum, Available, Border, Absent, Short, Rights}
use Rattle.rules.specs.Message.{buffer_after}
use Rattle.message.specs.View.{written_as}
use Rattle.message_pen.specs.declared.Pen.{Pen}
use Rattle.message_pen.specs.Pens.{first, completed_at, AppendedAt, RoomAt, InRanges, slots_of}
use Rattle.message.proofs.FormLaws.{most_bits, end-le, length-end}
use Rattle.message_pen.proofs.PenLaws.{appended-append}

-- a message's length is that of its bytes
length-written : (f : Form) (m : Fields) → form_for m ≡ f → length (encode f m) ≡ message_length m
unfolding message_length
length-written f m is = rw is (encode-length f m)

-- Refusals

pub row_positive : (r : Row) → 0 < number_of r
row_positive = elim [
  | Date ↦ omega arith
  | Gate ↦ omega arith
  | FormRow ↦ omega arith
  | Hour ↦ omega arith
  | Range ↦ omega arith
  | Unit ↦ omega arith
  | Taken ↦ omega arith
  | Second ↦ omega arith
  | Full ↦ omega arith
  | Maximum ↦ omega arith
  | Available ↦ omega arith
  | Border ↦ omega arith
  | Absent ↦ omega arith
  | Short ↦ omega arith
  | Rights ↦ omega arith
]

-- a refusal as C has it
abbrev no : ℕ → Written
no n = record { row = n; reserved = 0; count = 0 }

-- what is told, by what the tests found
module _ (room : ℕ) (m : Fields) {x y : Bool} (a : x ≡ bad_map m.map) (b : y ≡ bad_fields max_energy m) where
  pub number-4 : x ≡ true → no 4 ≡ written_as (write room m)
  unfolding written_as write write_rows outcome first_row unless row
  number-4 h = rw (← a, h)

  pub number-5 : x ≡ false → y ≡ true → no 5 ≡ written_as (write room m)
  unfolding written_as write write_rows outcome first_row unless row
  number-5 h k = rw (← a, h, ← b, k)

  module _ {n : ℕ} (e : n ≡ message_length m) (h : x ≡ false) (k : y ≡ false) where
    pub number-14 : ltb room n ≡ true → no 14 ≡ written_as (write room m)
    unfolding written_as write write_rows outcome first_row unless row
    number-14 l = rw (← a, h, ← b, k, ← e, l)

    pub number-0 : ltb room n ≡ false → record { row = 0; reserved = 0; count = n } ≡ written_as (write room m)
    unfolding written_as write write_rows outcome first_row unless row
    number-0 l =
        let q : n ≡ length (encode (form_for m) m) = e ∙ sym (length-written (form_for m) m refl) in
        rw (← a, h, ← b, k, ← e, l) (ap (λ i. record { row = 0; reserved = 0; count = i }) q)

-- where none is told, no row applies
pub none_told : (room : ℕ) (m : Fields) → (written_as (write room m)).row ≡ 0 → InRanges m × (message_length m ≤ room)
none_told room m t =
    by_bool (bad_map m.map) (λ e. let z = ap (λ w. w.row) (number-4 room m refl refl e) ∙ t in absurd (omega arith))
    (λ e. by_bool (bad_fields max_energy m) (λ f. let z = ap (λ w. w.row) (number-5 room m refl refl e f) ∙ t in absurd (omega arith))
    (λ f. by_bool (ltb room (message_length m)) (λ g. let z = ap (λ w. w.row) (number-14 room m refl refl refl e f g) ∙ t in absurd (omega arith))
    (λ g. (record { map = e; values = f }, ltb-false room (message_length m) g))))

-- what the writer owes: its answer r, and its buffer `new`
abbrev Owed : Outcome (List ℕ) → List ℕ → List ℕ → Written → Type 0
Owed o old new r = (r ≡ written_as o) × (new ≡ buffer_after o old)

pub owed-refused : (o : Outcome (List ℕ)) (old : List ℕ) {n : ℕ} → n ≡ (written_as o).row → (n ≡ 0 → ⊥) → Owed o old old (record { row = n; reserved = 0; count = 0 })
unfolding written_as buffer_after
owed-refused (given bytes) old e k = absurd (k e)
owed-refused (refused r h) old e k = (ap (λ i. record { row = i; reserved = 0; count = 0 }) e, refl)

-- bits written from the start on, the bytes beyond as they were
from_start : (old bs : List ℕ) → length (bytes_of bs) ≤ length old → completed_at old first bs ≡ bytes_of bs ++ drop (length (bytes_of bs)) old
unfolding completed_at bits
from_start old bs l = sets-eq (bytes_of bs) old 0 (omega arith) ∙ ap (λ k. bytes_of bs ++ drop k old) (zero-add (length (bytes_of bs)))

-- Fields that are written in form f

module _ (f : Form) (m : Fields) (is : form_for m ≡ f) where
  -- the head's bits and the slots are within the message's bytes
  bits-within : (head_width f + length (slots_of f.width m m.map) ≤ message_length m * 8) × (8 ≤ message_length m)
  unfolding encode message_bits slots_of round_up
  bits-within =
      let s = slots_of f.width m m.map in
      let e : message_length m ≡ (length (head_bits f m ++ s) + 7) / 8 = sym (length-written f m is) ∙ length-bytes_of (head_bits f m ++ s) in
      let l : length (head_bits f m ++ s) ≡ head_width f + length s = length-append (head_bits f m) s ∙ ap (λ n. n + length s) (length-head f m) in
      (omega arith, omega arith)

  -- no message is longer than 25 hours of an offer
  length_most : message_length m ≤ (most_bits f + 7) / 8
  unfolding message_length
  length_most = rw is (omega (arith, end-le f m.key.execution m.map, length-end f m.key.execution (set_bits m.map)))

  -- the head and the slots find room where the message does
  pub head-room : (buf : List ℕ) → message_length m ≤ length buf → RoomAt buf first 64
  head-room buf l = record { byte = omega arith; within = omega (arith, bits-within.1); small = omega arith }

  pub slots-room : (old : List ℕ) {buf : List ℕ} {p : Pen} → most_bits f < 2 ^ 31 → message_length m ≤ length old → AppendedAt old first (head_bits f m) buf p
      → RoomAt buf p (length (slots_of f.width m m.map))
  slots-room old n l a = record {
    byte = a.byte;
    within = omega (arith, bits-within.0, a.long, a.moved, length-head f m);
    small = omega (arith, bits-within.0, length_most, a.moved, length-head f m);
  }

  message-written : (old : List ℕ) → message_length m ≤ length old
      → completed_at old first (head_bits f m ++ slots_of f.width m m.map ++ []) ≡ encode f m ++ drop (length (encode f m)) old
  unfolding encode message_bits slots_of
  message-written old l = rw append-nil (from_start old (message_bits f m) (omega (arith, length-written f m is)))

  pub owed-given : (old : List ℕ) {a b new : List ℕ} {h e : Pen} {n : ℕ} → InRanges m × (message_length m ≤ length old) → n ≡ message_length m
      → AppendedAt old first (head_bits f m) a h → AppendedAt a h (slots_of f.width m m.map) b e → new ≡ completed_at b e []
      → Owed (write (length old) m) old new (record { row = 0; reserved = 0; count = n })
  unfolding written_as buffer_after
  owed-given old r q s g t =
      let given-all : write (length old) m ≡ given (encode f m) = of-writes (length old) m (encode f m) (record { map = r.0.map; fields = r.0.values; fits = r.1; same = rw is }) in
      rw (given-all, q) (rw (length-written f m is), t ∙ (appended-append s g).same [] ∙ message-written old r.1)

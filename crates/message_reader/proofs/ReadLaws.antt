-- The outcomes of reading, in the table's order.
use mathlib.Core.Path.{◌≡◌, refl, ◌∙◌}
use lib.Dec.{eqb, ltb}
use borrow.Author.Tests.{eqb-true, ltb-false, not-false, le-ltb}
use Rattle.rules.proofs.BoolLaws.{neither}
use mathlib.Core.Bool.{Bool, true, false, not, ◌||◌}
use mathlib.Core.List.{List}
use Prim.Native.Nat.{ℕ, ◌+◌, ◌*◌, ◌-◌, ◌≤◌}
use native.Mathlib.Omega.{arith}
use lib.ListN.{length}
use Rattle.rules.specs.Lists.{round_up}
use Rattle.rules.specs.Refusals.{row, first_row, unless, outcome, refused, given}
use Rattle.rules.specs.Message.{Form, form1, value, bits_of, field, price_width, slot_width, slots_end, length_for, set_bits, is_execution, map_of, fields_of, decode, form_of, message_of, bad_filling, bad_form, wrong_form, bad_map, wrong_range, read_rows, read}
use Rattle.rules.proofs.BitLaws.{length-bits_of, bits_of-under, field_lt}
use Rattle.rules.proofs.MessageLaws.{form-right}
use Rattle.message.proofs.FormLaws.{Long, filling-field, filling-read, length-read, slots_read}
use Rattle.message.specs.declared.Fields.{Fields}
use Rattle.message.specs.View.{fields_in}
use Rattle.message_reader.specs.Slots.{ToFill, blank, filled}

-- an offer of form 1 ends with a byte, so it has no filling

offer-end : (n : ℕ) → length_for form1 false n * 8 ≡ slots_end form1 false n
unfolding length_for round_up slot_width price_width
offer-end n = omega arith

pub offer-filled : (bytes : List ℕ) → is_execution (bits_of bytes) ≡ false → Long form1 bytes → false ≡ bad_filling form1 (bits_of bytes)
unfolding field value
offer-filled bytes x l =
    let n = set_bits (map_of (bits_of bytes)) in
    let k : length bytes ≡ length_for form1 false n = rw x at l in
    let e : 8 * length bytes ≡ slots_end form1 false n + 0 = omega (arith, k, offer-end n) in
    filling-field form1 0 (bits_of bytes) (rw (length-bits_of, x) e)

module _ (bytes : List ℕ) where
  pub read-3 : wrong_form bytes ≡ true → read bytes ≡ refused 3 0
  unfolding read read_rows outcome first_row unless row
  read-3 a = rw a

  -- read by form f
  module _ (f : Form) (is : form_of bytes ≡ f) (m : Fields) (e : m ≡ blank (bits_of bytes)) (a : wrong_form bytes ≡ false) where
    map_of_lem : (message_of bytes).map ≡ m.map
    unfolding message_of decode fields_of
    map_of_lem = rw e

    right : bad_form f bytes ≡ false
    right = rw is at (form-right bytes a)

    -- the bits of every slot are there, and no hour is filled in
    pub to_fill : ToFill f bytes m
    unfolding is_execution map_of
    to_fill = rw e (record {
      map = field_lt 39 25 (bits_of-under bytes);
      there = slots_read f bytes refl refl right;
      energies = refl;
      prices = refl;
    })

    pub read-4 : bad_map m.map ≡ true → read bytes ≡ refused 4 0
    unfolding read read_rows outcome first_row unless row
    read-4 b = rw (a, map_of_lem, b)

    pub read-5 : bad_map m.map ≡ false → wrong_range bytes ≡ true → read bytes ≡ refused 5 0
    unfolding read read_rows outcome first_row unless row
    read-5 b d = rw (a, d, map_of_lem, b)

    pub whole-read : fields_in (filled f bytes m) ≡ message_of bytes
    unfolding message_of decode fields_of
    whole-read = rw (is, e)

    pub read-given : bad_map m.map ≡ false → wrong_range bytes ≡ false → read bytes ≡ given (fields_in (filled f bytes m))
    unfolding read read_rows outcome first_row unless row
    read-given b d = rw (whole-read, a, map_of_lem, b, d)

-- 3, by the kind and the map that a reader found, and the three tests before the filling's

module _ (bytes : List ℕ) (long : 8 ≤ length bytes) {kind map form end : ℕ} (k : kind ≡ field 4 2 (bits_of bytes)) (m : map ≡ field 39 25 (bits_of bytes))
    (g : form ≡ field 0 4 (bits_of bytes)) (l : end ≡ length_for form1 (eqb kind 1) (set_bits map)) {wrong : Bool}
    (e : wrong ≡ (not (eqb (length bytes) end) || not (eqb form 1) || ltb 1 kind)) where
  tests : wrong_form bytes ≡ (wrong || bad_filling form1 (bits_of bytes))
  unfolding wrong_form form_of bad_form is_execution map_of
  tests = rw (e, l, k, m, g, le-ltb _ _ long) refl

  pub form-wrong : wrong ≡ true → wrong ≡ wrong_form bytes
  form-wrong t = rw (tests, t) refl

  module _ (t : wrong ≡ false) where
    found : (length bytes ≡ end) × (kind ≤ 1)
    found =
        let a = neither (not (eqb (length bytes) end) || not (eqb form 1)) (ltb 1 kind) (rw e at t) in
        let b = neither (not (eqb (length bytes) end)) (not (eqb form 1)) a.0 in
        (eqb-true _ _ (not-false _ b.0), ltb-false _ _ a.1)

    long_read : Long form1 bytes
    long_read = found.0 ∙ length-read form1 bytes k m l

    pub form-filled : kind ≡ 1 → {r : Bool}
        → r ≡ not (eqb (field (slots_end form1 true (set_bits map)) (length bytes * 8 - slots_end form1 true (set_bits map)) (bits_of bytes)) 0) → r ≡ wrong_form bytes
    form-filled o q = rw (tests, t) (q ∙ filling-read form1 bytes k m long_read (rw o refl))

    pub form-offer : (kind ≡ 1 → ⊥) → eqb kind 1 ≡ wrong_form bytes
    unfolding is_execution
    form-offer n =
        let z : kind ≡ 0 = omega (arith, found.1, n) in
        rw (tests, t, z) (offer-filled bytes (rw (← k, z)) long_read)

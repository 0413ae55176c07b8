-- What was taken of a message and what the tests of it found, as the rules' outcome of reading.
use Prim.Native.Nat.{ℕ, ◌≤◌, ◌+◌, ◌-◌, ◌^◌, min}
use Rattle.std.proofs.Common.{Bor}
use Rattle.message_cursor.specs.declared.Reader.{Reader}
use mathlib.Core.Path.{◌≡◌, refl, ap, ◌∙◌}
use mathlib.Core.Bool.{true, false}
use mathlib.Core.List.{List}
use native.Mathlib.Omega.{arith}
use Rattle.rules.specs.Refusals.{given, row, first_row, unless, outcome}
use Rattle.rules.specs.Message.{Form, Fields, value, field, bits_of, decode, form_of, message_of, wrong_form, bad_map, bad_fields, wrong_range, read_rows, read}
use Rattle.message.specs.declared.Fields as code
use Rattle.message.specs.declared.Reading.{Reading}
use Rattle.message.specs.View.{fields_in, fields_as, no_fields, reading_as}
use Rattle.message_cursor.specs.Taking.{Takes, MessageTaken}
use Rattle.message_cursor.proofs.TakingLaws.{fields-taken}

-- no bits taken, where a reader stands
pub none-taken : (bs : List ℕ) (at : ℕ) → at ≤ 2 ^ 64 - 1 → Takes bs at 0 0 at
unfolding field value
none-taken bs at h = (refl, omega arith)

-- one field by a reader over s, and the reader stays over s
pub step : (s : Bor (List ℕ)) (r r' : Reader) (w : ℕ) {v : ℕ} → r.message ≡ s → v ≡ field r.at (min w 32) (bits_of r.message.now) → r'.message ≡ r.message
    → r'.at ≡ min (r.at + min w 32) (2 ^ 64 - 1) → Takes (bits_of s.now) r.at w v r'.at × (r'.message ≡ s)
step s r r' w e f m a = ((f ∙ ap (λ b. field r.at (min w 32) (bits_of b.now)) e, a), m ∙ e)

-- a refusal's reading
abbrev no : ℕ → Reading
no n = record { row = n; fields = no_fields }

module _ (bytes : List ℕ) where
  -- of a message that is read by form f
  pub taken-read : (f : Form) → form_of bytes ≡ f → f.width ≤ 32 → f.partner ≤ 32 → {m : Fields} {end : ℕ} → MessageTaken f (bits_of bytes) m end
      → fields_as m ≡ fields_as (message_of bytes)
  unfolding message_of decode
  taken-read f is w p {m} {end} t = rw (is, ← (fields-taken f (bits_of bytes) m end w p t).0)

  pub read-3 : wrong_form bytes ≡ true → no 3 ≡ reading_as (read bytes)
  unfolding reading_as read read_rows outcome first_row unless row
  read-3 a = rw a

  -- its fields were read
  module _ {m : code.Fields} (e : m ≡ fields_as (message_of bytes)) (a : wrong_form bytes ≡ false) where
    same : fields_in m ≡ message_of bytes
    unfolding reading_as
    same = rw e

    pub read-4 : bad_map m.map ≡ true → no 4 ≡ reading_as (read bytes)
    unfolding reading_as read read_rows outcome first_row unless row
    read-4 b = rw (a, ← same, b)

    pub read-5 : bad_map m.map ≡ false → bad_fields (form_of bytes).top (fields_in m) ≡ true → no 5 ≡ reading_as (read bytes)
    unfolding reading_as read read_rows outcome first_row unless row wrong_range
    read-5 b d = rw (a, ← same, b, d)

    read_whole : bad_map m.map ≡ false → bad_fields (form_of bytes).top (fields_in m) ≡ false → read bytes ≡ given (message_of bytes)
    unfolding read read_rows outcome first_row unless row wrong_range
    read_whole b d = rw (a, ← same, b, d)

    pub read-given : bad_map m.map ≡ false → bad_fields (form_of bytes).top (fields_in m) ≡ false → record { row = 0; fields = m } ≡ reading_as (read bytes)
    unfolding reading_as
    read-given b d = rw (read_whole b d) (ap (λ f. record { row = 0; fields = f }) e)

-- Both round trips, as what the contracts of `message_reader::read` and `message_writer::write` say together.
use Prim.Native.Nat.{ℕ, ◌<◌, ◌≤◌}
use mathlib.Core.Path.{◌≡◌, ◌∙◌, ap}
use mathlib.Core.Bool.{Bool, true, false}
use mathlib.Core.List.{List, [], ◌∷◌, ◌++◌}
use native.Mathlib.Omega.{arith}
use lib.ListN.{length, take, drop}
use lib.Seq.{take-append_seam}
use Rattle.rules.specs.Lists.{All}
use Rattle.rules.specs.Refusals.{Outcome, refused, given, outcome, unless, first_row, row}
use Rattle.rules.specs.Message as M
use Rattle.rules.proofs.MessageLaws.{write_read, read-write, one_form}
use Rattle.message.specs.declared.Fields.{Fields}
use Rattle.message.specs.declared.Reading.{Reading}
use Rattle.message.specs.declared.Written.{Written}
use Rattle.message.specs.View.{fields_in, fields_as, reading_as, written_as}

-- a refusal has a number of the table
data Refusable {A : Type 0} : Outcome A → Type 0 where
  value : (a : A) → Refusable (given a)
  number : (n h : ℕ) → 0 < n → Refusable (refused n h)

told-rows : {A : Type 0} (a b c : Bool) (k l m : ℕ) → 0 < k → 0 < l → 0 < m → (x : A) → Refusable (outcome (row k a ∷ row l b ∷ row m c ∷ []) x)
unfolding outcome unless first_row row
told-rows true b c k l m p q r x = number k 0 p
told-rows false true c k l m p q r x = number l 0 q
told-rows false false true k l m p q r x = number m 0 r
told-rows false false false k l m p q r x = value x

told-write : (room : ℕ) (m : M.Fields) → Refusable (M.write room m)
unfolding M.write M.write_rows
told-write room m = told-rows _ _ _ 4 5 14 (omega arith) (omega arith) (omega arith) _

told-read : (bytes : List ℕ) → Refusable (M.read bytes)
unfolding M.read M.read_rows
told-read bytes = told-rows _ _ _ 3 4 5 (omega arith) (omega arith) (omega arith) _

-- what was written, of an accepted writing
accepted-write : (o : Outcome (List ℕ)) (old : List ℕ) {w : Written} {new : List ℕ} → Refusable o → w ≡ written_as o → new ≡ M.buffer_after o old → w.row ≡ 0
    → o ≡ given (take w.count new)
unfolding written_as M.buffer_after
accepted-write o old (value bytes) e f z = rw (e, f, take-append_seam bytes (drop (length bytes) old))
accepted-write o old (number n h p) e f z = absurd (omega (arith, ap (λ v. v.row) e))

-- the fields, of an accepted reading
accepted-read : (o : Outcome M.Fields) {r : Reading} → Refusable o → r ≡ reading_as o → r.row ≡ 0 → o ≡ given (fields_in r.fields)
unfolding reading_as
accepted-read o (value m) e z = rw e
accepted-read o (number n h p) e z = absurd (omega (arith, ap (λ v. v.row) e))

-- "writing then reading returns the fields": w and `new` as `write` ensures them of m and `old`, r as `read` ensures it of the
-- bytes that were written
pub fields_back : (m : Fields) (old new : List ℕ) (w : Written) (r : Reading)
    → length m.energies ≡ 25 → length m.prices ≡ 25
    → w ≡ written_as (M.write (length old) (fields_in m)) → new ≡ M.buffer_after (M.write (length old) (fields_in m)) old
    → r ≡ reading_as (M.read (take w.count new))
    → w.row ≡ 0 → r ≡ record { row = 0; fields = fields_as (fields_in m) }
unfolding reading_as
fields_back m old new w r le lp ew en er z =
    let o : M.write (length old) (fields_in m) ≡ given (take w.count new) = accepted-write _ old (told-write (length old) (fields_in m)) ew en z in
    er ∙ rw (write_read (length old) (fields_in m) (take w.count new) le lp o)

-- "reading then writing returns the bytes": r as `read` ensures it of s, w and `new` as `write` ensures them of r's fields and
-- any buffer with room for s
pub bytes_back : (s old new : List ℕ) (r : Reading) (w : Written)
    → All (λ b. b < 256) s → length s ≤ length old
    → r ≡ reading_as (M.read s) → r.row ≡ 0
    → w ≡ written_as (M.write (length old) (fields_in r.fields)) → new ≡ M.buffer_after (M.write (length old) (fields_in r.fields)) old
    → (w ≡ record { row = 0; reserved = 0; count = length s }) × (new ≡ s ++ drop (length s) old)
unfolding written_as M.buffer_after
bytes_back s old new r w u fits er z ew en =
    let o : M.write (length old) (fields_in r.fields) ≡ given s = read-write (length old) s (fields_in r.fields) u fits (accepted-read _ (told-read s) er z) in
    (ew ∙ rw o, en ∙ rw o)

-- "each meaning has one form": two messages that are read as the same fields are the same bytes
pub same_bytes : (s t : List ℕ) (r : Reading) → All (λ b. b < 256) s → All (λ b. b < 256) t → r ≡ reading_as (M.read s) → r ≡ reading_as (M.read t) → r.row ≡ 0 → s ≡ t
same_bytes s t r u v es et z = one_form s t (fields_in r.fields) u v (accepted-read _ (told-read s) es z) (accepted-read _ (told-read t) et z)

-- Writing hour after hour.
use Prim.Native.Nat.{ℕ, ◌+◌, ◌^◌, ◌<◌}
use mathlib.Core.Path.{◌≡◌, refl, ap, sym, ◌∙◌}
use mathlib.Core.List.{List, ◌++◌, append_assoc}
use native.Mathlib.Omega.{arith}
use lib.ListN.{length, get_or, length-append}
use Rattle.rules.specs.Message.{Fields, bits, slot_width}
use Rattle.message.specs.Hours.{FirstHour}
use Rattle.message.proofs.HourLaws.{first-less}
use Rattle.message_pen.specs.declared.Pen.{Pen}
use Rattle.message_pen.specs.Pens.{completed_at, AppendedAt, RoomAt, InRanges, SlotWord, slots_of}
use Rattle.rules.proofs.BitLaws.{length-bits}
use Rattle.message_pen.proofs.SlotLaws.{map-fits, slot_at, slots_of-next, slots_of-none}
use Rattle.message_pen.proofs.PenLaws.{room_after}

-- energies have `wide` bits, and the hours of `rest` are still to be written: once they are, the buffer holds the slots of the whole map
pub record Midway (wide : ℕ) (m : Fields) (old : List ℕ) (start : Pen) (buf : List ℕ) (p : Pen) (rest : ℕ) : Type 0 where
  pub map : rest < 2 ^ 25
  pub same_length : length buf ≡ length old
  pub room : RoomAt buf p (length (slots_of wide m rest))
  pub moved : p.pos + length (slots_of wide m rest) ≡ start.pos + length (slots_of wide m m.map)
  pub same : (after : List ℕ) → completed_at buf p (slots_of wide m rest ++ after) ≡ completed_at old start (slots_of wide m m.map ++ after)

module _ (wide : ℕ) (m : Fields) (old : List ℕ) (start : Pen) where
  pub midway_start : InRanges m → RoomAt old start (length (slots_of wide m m.map)) → Midway wide m old start old start m.map
  midway_start h r = record { map = (map-fits m.map h.map).1; same_length = refl; room = r; moved = refl; same = λ after. refl }

  pub midway_end : {buf : List ℕ} {p : Pen} {rest : ℕ} → Midway wide m old start buf p rest → rest ≡ 0 → AppendedAt old start (slots_of wide m m.map) buf p
  midway_end {buf} {p} {rest} h e = record {
    long = h.same_length;
    moved = omega (arith, h.moved, ap length (slots_of-none wide m rest e));
    byte = h.room.byte;
    same = λ after. ap (λ l. completed_at buf p (l ++ after)) (sym (slots_of-none wide m rest e)) ∙ h.same after;
  }

  -- hour i is next, and v the number of its slot of w bits
  module _ {buf : List ℕ} {p : Pen} {rest : ℕ} (h : Midway wide m old start buf p rest) {i rest' w v : ℕ} (t : FirstHour rest i rest')
      (e : w ≡ slot_width wide m.key.execution) (s : SlotWord wide m.key.execution (get_or m.energies i 0) (get_or m.prices i 0) v) where
    next-bits : slots_of wide m rest ≡ bits w v ++ slots_of wide m rest'
    unfolding slot_at
    next-bits = rw (slots_of-next wide m rest i rest' t, e, s.bits)

    next-length : length (slots_of wide m rest) ≡ w + length (slots_of wide m rest')
    next-length = ap length next-bits ∙ length-append (bits w v) (slots_of wide m rest') ∙ rw (length-bits w v)

    pub midway-room : RoomAt buf p w
    midway-room = record { byte = h.room.byte; within = omega (arith, h.room.within, next-length); small = omega (arith, h.room.small, next-length) }

    pub midway-next : {new : List ℕ} {r : Pen} → AppendedAt buf p (bits w v) new r → Midway wide m old start new r rest'
    midway-next a = record {
      map = omega (arith, h.map, first-less rest i rest' t);
      same_length = a.long ∙ h.same_length;
      room = room_after (length (slots_of wide m rest')) a (rw (length-bits w v, ← next-length) h.room);
      moved = omega (arith, h.moved, a.moved, next-length, length-bits w v);
      same = λ after. a.same (slots_of wide m rest' ++ after) ∙ ap (completed_at buf p) (sym (append_assoc (bits w v) (slots_of wide m rest') after) ∙ ap (λ l. l ++ after) (sym next-bits)) ∙ h.same after;
    }

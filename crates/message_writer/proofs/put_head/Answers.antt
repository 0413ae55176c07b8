use Rattle.std.proofs.Common.{◌∙◌}
use Rattle.rules.proofs.BitLaws.{length-bits}
use Rattle.rules.specs.Message.{hour_bits}
use Rattle.message_pen.proofs.PenLaws.{appended-append, room_after}
use Rattle.message_pen.proofs.SlotLaws.{map-fits}
use Rattle.message_writer.proofs.put_head.Goals as goal

pub put_bits-requires-2-clause-room : goal.put_bits-requires-2-clause-room
put_bits-requires-2-clause-room c = room_after 25 c.put_bits.ensures.at (rw (length-bits 39 c.head_word.result) c.requires.room)

pub put_bits-requires-2-clause-fits : goal.put_bits-requires-2-clause-fits
put_bits-requires-2-clause-fits c = rw c.from.ensures (map-fits _ c.requires.ranges.map).1

pub returns : goal.returns
unfolding hour_bits
returns c = record {
  same = c.put_bits-2.ensures.same ∙ c.put_bits.ensures.same;
  at = rw (c.from.ensures, c.head_word.ensures.bits) at (appended-append c.put_bits.ensures.at c.put_bits-2.ensures.at);
}

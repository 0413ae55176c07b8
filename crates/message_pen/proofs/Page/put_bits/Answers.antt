use Rattle.std.proofs.Common.{ap}
use Rattle.message_pen.proofs.PenLaws.{shift-whole, shift_fits, put-appended}
use Rattle.message_pen.proofs.Page.put_bits.Goals as goal

pub overflow_add-all : goal.overflow_add-all
overflow_add-all c = record { fits = shift_fits _ _ _ c.requires.room.byte c.requires.width c.requires.fits }

pub returns : goal.returns
returns c = record {
  same = c.put_bytes.ensures.same_reference;
  at = rw (ap (λ p. p.pos) c.put_bytes.ensures.pen)
      (put-appended _ c.args.self.now.pen c.args.v c.args.w _ c.requires.fits (shift-whole _ _ c.requires.room.byte c.requires.width) _ c.put_bytes.ensures.buffer);
}

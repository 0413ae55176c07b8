use Rattle.std.proofs.Common.{◌≡◌}
use Rattle.message.specs.View.{fields_in}
use Rattle.message_writer.proofs.HourLaws.{Midway}
use Rattle.message_writer.proofs.put_hours.Given as goal

-- the hours that are left are still to be written
abbrev pub invariant-loop-h : goal.invariant-loop-h
invariant-loop-h l =
    (l.page.buffer.ghost_name ≡ l.initial.page.buffer.ghost_name)
    × Midway 17 (fields_in l.m) l.initial.page.buffer.now l.initial.page.pen l.page.buffer.now l.page.pen l.h-iterator

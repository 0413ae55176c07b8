use Rattle.message_cursor.proofs.HourLaws.{Midway}
use Rattle.message_cursor.proofs.fieldwise.take_hours.Given as goal

abbrev pub invariant-loop-h : goal.invariant-loop-h
invariant-loop-h l = Midway l.initial.reader l.execution l.fn.m.map l.reader l.energies l.prices l.h-iterator

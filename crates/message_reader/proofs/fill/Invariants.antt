use Rattle.message_reader.proofs.FillLaws.{Midway}
use Rattle.message_reader.proofs.fill.Given as goal

abbrev pub invariant-loop-h : goal.invariant-loop-h
invariant-loop-h g l = Midway l.s l.fn.m.execution l.fn.m.map l.energies l.prices l.at l.h-iterator l.bad

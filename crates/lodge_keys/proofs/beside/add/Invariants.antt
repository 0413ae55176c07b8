use Rattle.lodge_keys.proofs.SumLaws.{Adding}
use Rattle.lodge_keys.proofs.beside.add.Given as goal

abbrev pub invariant-loop-h : goal.invariant-loop-h
invariant-loop-h l = Adding l.fn.sums l.row l.sums l.h

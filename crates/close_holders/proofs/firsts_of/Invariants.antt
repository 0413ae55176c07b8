use Rattle.std.proofs.Common.{take}
use Rattle.close_holders.specs.Holders.{Firsts}
use Rattle.close_holders.proofs.firsts_of.Given as goal

abbrev pub invariant-loop-at : goal.invariant-loop-at
invariant-loop-at l = Firsts (take l.at l.units) l.firsts

use Rattle.std.proofs.Common.{◌≡◌, ℕ, List, length}
use Rattle.session.specs.declared.Notice.{Notice}
use Rattle.close_ceilings.specs.Ceilings.{LinesOf, CeilingsTo}
use Rattle.close_ceilings.proofs.ceilings_of.Given as goal

abbrev pub invariant-loop-p : goal.invariant-loop-p
invariant-loop-p l = record {
  long : length l.ceilings.items ≡ l.p;
  ceilings : (cs : List Notice) (losses : List ℕ) → LinesOf cs losses l.lines → CeilingsTo l.units l.notices l.rights cs losses l.p l.ceilings.items;
}

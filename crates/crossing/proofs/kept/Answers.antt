use Rattle.std.proofs.Common.{arith}
use Rattle.crossing.proofs.Laws.{kept-none, left_le, kept-said}
use Rattle.crossing.proofs.kept.Goals as goal

pub returns-then-loss-eq0 : goal.returns-then-loss-eq0
returns-then-loss-eq0 c = kept-none _ _ _ c.if-loss-eq0.true c.saturating_sub.ensures

pub overflow_mul-most : goal.overflow_mul-most
overflow_mul-most c =
    let a = c.args in
    rw (c.from-2.ensures, c.from.ensures, c.saturating_sub-left.ensures, c.figure.ensures) (omega (arith, left_le a.loss a.energy a.taken))

pub returns : goal.returns
returns c =
    let a = c.args in
    rw (c.min.ensures, c.from-3.ensures, c.from-2.ensures, c.from.ensures, c.saturating_sub-left.ensures, c.figure.ensures) (kept-said a.loss a.energy a.taken)

use Rattle.std.proofs.Common.{◌+◌, arith}
use Rattle.hour_split.proofs.Laws.{part-within, maximum-said}
use Rattle.hour_split.proofs.market_maximum.Goals as goal

pub overflow_sub-result : goal.overflow_sub-result
overflow_sub-result c =
    omega (arith, part-within c.net-b.result c.saturating_sub-s.result (c.saturating_sub.result + c.net-b.result) (omega arith), c.bilateral_part.ensures)

pub returns : goal.returns
returns c =
    let a = c.args in
    maximum-said a.capacity a.executions.along a.executions.against a.market.along a.market.against a.legacy
    c.net-b.ensures
    (omega (arith, c.net.ensures, c.reversed.ensures))
    (omega (arith, c.saturating_sub-s.ensures))
    c.net-2.ensures
    c.saturating_sub.ensures
    c.bilateral_part.ensures

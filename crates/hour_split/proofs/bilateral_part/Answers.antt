use Rattle.hour_split.proofs.Laws.{part-at-0, part-said, rounds-up}
use Rattle.std.proofs.Common.{◌≡◌, ◌*◌, min, arith}
use Rattle.rules.specs.Lists.{round_up}
use Rattle.hour_split.proofs.bilateral_part.Goals as goal

pub returns-then-b-eq0 : goal.returns-then-b-eq0
returns-then-b-eq0 c = part-at-0 _ _ _ c.if-b-eq0.true

pub returns : goal.returns
returns c =
    let a = c.args in
    let up = rounds-up (a.b * min a.s a.d) a.d (omega arith) in
    let t : c.div_ceil-t.result ≡ round_up (a.b * min a.s a.d) a.d = cc in
    part-said a.b a.s a.d (omega arith) t

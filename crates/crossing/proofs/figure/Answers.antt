use Rattle.std.proofs.Common.{◌≡◌, ◌*◌, ◌+◌, arith, ◌∙◌}
use Rattle.rules.specs.Lists.{round_up}
use Rattle.hour_split.proofs.Laws.{rounds-up}
use Rattle.crossing.proofs.Laws.{figure-none, figure-said}
use Rattle.crossing.proofs.figure.Goals as goal

pub returns-then-loss-eq0 : goal.returns-then-loss-eq0
returns-then-loss-eq0 c = figure-none _ _ c.if-loss-eq0.true

pub returns : goal.returns
returns c =
    let a = c.args in
    let up = rounds-up (a.energy * 10000) (10000 + a.loss) (omega arith) in
    let t : c.div_ceil-figure.result ≡ round_up (a.energy * 10000) (10000 + a.loss) = cc in
    t ∙ figure-said a.loss a.energy

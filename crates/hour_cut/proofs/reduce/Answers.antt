use Rattle.std.proofs.Common.{arith, ◌∙◌}
use Rattle.hour_cut.proofs.CutLaws.{reduce-next, reduce-end}
use Rattle.hour_cut.proofs.reduce.Goals as goal

pub loop-i-preserved : goal.loop-i-preserved
loop-i-preserved c =
    let l = c.loop-i in
    reduce-next c.args.lost.now l.executions l.i c.kept-x.result _ (omega arith) (omega arith) c.kept-x.ensures ∙ l.invariant

pub returns : goal.returns
returns c = reduce-end c.args.lost.now c.loop-i.executions c.loop-i.i (omega arith) c.loop-i.invariant

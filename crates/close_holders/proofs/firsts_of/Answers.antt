use Rattle.std.proofs.Common.{refl, arith}
use Rattle.close_holders.proofs.HolderLaws.{firsts-start, firsts-more}
use Rattle.close_holders.proofs.firsts_of.Goals as goal

pub loop-at-init : goal.loop-at-init
loop-at-init c = firsts-start _ refl

pub loop-at-preserved : goal.loop-at-preserved
loop-at-preserved c = firsts-more c.args.units.now c.loop-at.at c.loop-at.firsts c.or.result (omega arith) c.or.ensures c.loop-at.invariant

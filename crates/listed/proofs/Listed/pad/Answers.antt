use Rattle.std.proofs.Common.{arith}
use lib.ListN.{length-set}
use mathlib.Core.Path.{◌∙◌}
use Rattle.listed.proofs.BlankLaws.{blank-next}
use Rattle.listed.proofs.Listed.pad.Goals as goal

pub loop-i-preserved : goal.loop-i-preserved
loop-i-preserved g c =
    let l = c.loop-i in (
      length-set {A = g.row.T.Denot} l.self.items l.i c.args.blank ∙ l.invariant.0,
      omega (arith, l.invariant.1),
      l.invariant.2,
      blank-next l.self.items _ l.self.count l.i c.args.blank l.invariant.1 (omega (arith, l.invariant.0, c.loop-i-test.true)) l.invariant.3,
    )

use Rattle.std.proofs.Common.{sym, ◌∙◌}
use Rattle.hour_offers.specs.View.{execution_in}
use Rattle.hour.specs.Units.{clash}
use Rattle.hour.proofs.PairLaws.{pair-here, pair-next, pair_end}
use Rattle.hour.proofs.units.any_clash.Goals as goal

pub returns-then-clashes : goal.returns-then-clashes
returns-then-clashes c =
    sym (pair-here execution_in clash c.in-Some.x.now c.in-Some.behind.now c.in-Some.ensures.cases.0 (sym c.clashes.ensures ∙ c.if-clashes.true)) ∙ c.loop-x.invariant

pub loop-x-preserved : goal.loop-x-preserved
loop-x-preserved c =
    pair-next execution_in clash c.in-Some.x.now c.in-Some.behind.now c.in-Some.ensures.cases.0 (sym c.clashes.ensures ∙ c.if-clashes.false) ∙ c.loop-x.invariant

pub returns : goal.returns
returns c = sym (pair_end execution_in clash c.loop-x.left.now c.in_default.ensures.cases) ∙ c.loop-x.invariant

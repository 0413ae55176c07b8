use Rattle.std.proofs.Common.{arith, sym, ◌∙◌}
use Rattle.hour_offers.specs.View.{execution_in}
use Rattle.hour.specs.Units.{same_unit}
use Rattle.hour.proofs.PairLaws.{last-later, last-here, last_end, few-last}
use Rattle.hour.proofs.units.count_units.Goals as goal

pub overflow_add-count : goal.overflow_add-count
overflow_add-count c = record { fits = omega (arith, c.loop-x.invariant, few-last execution_in same_unit c.args.lodgements.now) }

pub loop-x-preserved-then-not-stands_among : goal.loop-x-preserved-then-not-stands_among
loop-x-preserved-then-not-stands_among c =
    omega (arith, c.loop-x.invariant, last-here execution_in same_unit c.in-Some.x.now c.in-Some.behind.now c.in-Some.ensures.cases.0 (sym c.stands_among.ensures ∙ c.if-not-stands_among.true))

pub loop-x-preserved : goal.loop-x-preserved
loop-x-preserved c =
    omega (arith, c.loop-x.invariant, last-later execution_in same_unit c.in-Some.x.now c.in-Some.behind.now c.in-Some.ensures.cases.0 (sym c.stands_among.ensures ∙ c.if-not-stands_among.false))

pub returns : goal.returns
returns c = omega (arith, c.loop-x.invariant, last_end execution_in same_unit c.loop-x.left.now c.in_default.ensures.cases)

use Rattle.std.proofs.Common.{◌≡◌, ◌-◌, refl, ap, sym, ◌∙◌, arith}
use Rattle.hour_offers.specs.View.{offers_in}
use Rattle.hour_borders.specs.Directions.{over_in}
use Rattle.withdraw.proofs.StepLaws.{offered-fits, counted-abroad, flows-abroad}
use Rattle.withdraw.proofs.RoundLaws.{bound-said, start-said, out-said, end-said, next-said}
use Rattle.withdraw.proofs.withdraw.Goals as goal

pub step_bound-bound-requires : goal.step_bound-bound-requires
step_bound-bound-requires c = offered-fits c.args.offers.now c.requires.laid.sound

pub loop-steps-init : goal.loop-steps-init
loop-steps-init c =
    let b : c.step_bound-bound.result - 0 ≡ c.step_bound-bound.result = omega arith in
    record {
      repeating = start-said (b ∙ c.step_bound-bound.ensures ∙ bound-said c.args.offers.now) c.requires.traded c.requires.laid;
      beside = record { places = c.of-abroad.ensures.places; offers = c.of-abroad.ensures.offers };
      flows = c.requires.flows;
    }

pub returns-then-not-passed : goal.returns-then-not-passed
returns-then-not-passed c =
    end-said (start-said refl c.requires.traded c.requires.laid) (over_in c.excesses.result)
    (c.excesses.ensures.result_value (offers_in c.args.offers.now) c.requires.flows) (sym c.passed.ensures ∙ c.if-not-passed.true)

pub returns-then-not-passed-2 : goal.returns-then-not-passed-2
returns-then-not-passed-2 c =
    let l = c.loop-steps in
    end-said l.invariant.repeating (over_in c.excesses-over.result) (c.excesses-over.ensures.result_value (offers_in l.offers) l.invariant.flows)
    (sym c.passed-in-loop-steps.ensures ∙ c.if-not-passed-2.true)

pub market_flows-flows-requires-clause-in_range : goal.market_flows-flows-requires-clause-in_range
market_flows-flows-requires-clause-in_range c =
    let s = c.step-volume.ensures in
    counted-abroad s.stepped.laid.sound (ap offers_in c.deref.ensures.0 ∙ s.abroad_after.offers)

pub loop-steps-preserved : goal.loop-steps-preserved
loop-steps-preserved c =
    let l = c.loop-steps in
    let s = c.step-volume.ensures in
    record {
      repeating =
          next-said l.invariant.repeating (over_in c.excesses-over.result) (c.excesses-over.ensures.result_value (offers_in l.offers) l.invariant.flows)
          (sym c.passed-in-loop-steps.ensures ∙ c.if-not-passed-2.false) (omega arith) (omega arith) s.stepped;
      beside = record { places = s.abroad_after.places; offers = s.abroad_after.offers };
      flows = flows-abroad c.market_flows-flows.result (offers_in c.step-volume.new.offers) (ap offers_in c.deref.ensures.0 ∙ s.abroad_after.offers) c.market_flows-flows.ensures.flows;
    }

pub returns : goal.returns
returns c = out-said c.loop-steps.invariant.repeating (omega arith) (omega arith)

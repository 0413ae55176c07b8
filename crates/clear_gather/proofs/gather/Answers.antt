use Rattle.std.proofs.Common.{true, false, arith, sym}
use mathlib.Core.Path.{◌∙◌}
use Rattle.rules.specs.Lists.{keep, from}
use Rattle.listed.specs.View.{listed}
use Rattle.clear_gather.specs.Built.{counts_at, energy_on, price_on, offer_on, execution_on}
use Rattle.clear_gather.proofs.CountLaws.{gathered, passed, stays, grows, counts-none, counts-kind}
use Rattle.clear_gather.proofs.gather.Goals as goal
use Rattle.clear_gather.proofs.gather.Goals.{then-s-i, else-s-i}

pub loop-i-init : goal.loop-i-init
unfolding keep from
loop-i-init c = ((c.clear.ensures.list, c.clear.ensures.count), (c.clear-2.ensures.list, c.clear-2.ensures.count), rw c.clear.ensures.count (omega arith), rw c.clear-2.ensures.count (omega arith))

pub loop-i-preserved-then-not-counted : goal.loop-i-preserved-then-not-counted
unfolding counts_at energy_on
loop-i-preserved-then-not-counted c =
    let a = c.args in
    let l = c.loop-i in
    let h = sym c.if-not-counted.true ∙ c.counted.ensures in (
      stays l.hour.offers l.invariant.0 (passed (offer_on a.s.now a.holders.now a.k) _ (listed l.hour.offers) l.i l.invariant.0.0 (counts-none _ _ _ false h)),
      stays l.hour.executions l.invariant.1 (passed (execution_on a.s.now a.holders.now a.k) _ (listed l.hour.executions) l.i l.invariant.1.0 (counts-none _ _ _ true h)),
      omega (arith, l.invariant.2),
      omega (arith, l.invariant.3),
    )

pub loop-i-preserved : goal.loop-i-preserved
unfolding counts_at energy_on price_on
loop-i-preserved c =
    let a = c.args in
    let l = c.loop-i in
    let h = sym c.if-not-counted.false ∙ c.counted.ensures in
    elim c.if-s-i.branch [
      | then-s-i w ↦ (
        rw w.hour-is (stays l.hour.offers l.invariant.0 (passed (offer_on a.s.now a.holders.now a.k) _ (listed l.hour.offers) l.i l.invariant.0.0 (counts-kind _ _ _ false h w.if-s-i.true))),
        rw w.hour-is
            (grows l.hour.executions l.invariant.1 _ w.new.result w.push.ensures.list w.push.ensures.count
            (gathered (execution_on a.s.now a.holders.now a.k) _ (listed l.hour.executions) l.i w.new.result l.invariant.1.0 (counts-kind _ _ _ true h w.if-s-i.true) w.new.ensures)),
        rw w.hour-is (omega (arith, l.invariant.2)),
        rw w.hour-is (omega (arith, w.push.ensures.count, l.invariant.3)),
      )
      | else-s-i w ↦ (
        rw w.hour-is
            (grows l.hour.offers l.invariant.0 _ w.new-else-s-i.result w.push-else-s-i.ensures.list w.push-else-s-i.ensures.count
            (gathered (offer_on a.s.now a.holders.now a.k) _ (listed l.hour.offers) l.i w.new-else-s-i.result l.invariant.0.0 (counts-kind _ _ _ false h w.if-s-i.false) w.new-else-s-i.ensures)),
        rw w.hour-is (stays l.hour.executions l.invariant.1 (passed (execution_on a.s.now a.holders.now a.k) _ (listed l.hour.executions) l.i l.invariant.1.0 (counts-kind _ _ _ true h w.if-s-i.false))),
        rw w.hour-is (omega (arith, w.push-else-s-i.ensures.count, l.invariant.2)),
        rw w.hour-is (omega (arith, l.invariant.3)),
      )
    ]

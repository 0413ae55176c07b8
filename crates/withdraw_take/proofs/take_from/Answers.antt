use Rattle.std.proofs.Common.{sym, ◌∙◌, ap, arith, length, get_or}
use Rattle.std.proofs.lemmas.List.{get_or_default}
use Rattle.rules.specs.Withdrawal.{remain}
use Rattle.hour_offers.specs.View.{offers_in}
use Rattle.hour_borders.specs.Directions.{over_in}
use Rattle.withdraw_keep.specs.Group.{group_in}
use Rattle.withdraw_take.specs.Given.{gives_in}
use Rattle.withdraw_take.proofs.GivenLaws.{left-more, left-none, all-left, taken, taken-changed}
use Rattle.withdraw_take.proofs.take_from.Goals as goal

pub loop-i-init : goal.loop-i-init
loop-i-init c = sym (left-none (gives_in (group_in c.args.group) (over_in c.args.over.now)) (offers_in c.args.offers.now))

pub bounds-deref-i : goal.bounds-deref-i
bounds-deref-i c = omega (arith, ap length c.deref.ensures.0)

pub loop-i-preserved : goal.loop-i-preserved
loop-i-preserved c =
    let a = c.args in
    let l = c.loop-i in
    left-more (gives_in (group_in a.group) (over_in a.over.now)) c.deductions-deductions.result.items a.offers.now l.offers l.i _ c.remaining-offer.result _ (omega arith)
    c.deductions-deductions.ensures.same_length
    (ap (λ ks. get_or ks l.i 0) c.deref.ensures.0) l.invariant (get_or_default l.offers l.i _ _ (omega arith)) c.remaining-offer.ensures

pub returns : goal.returns
returns c =
    let a = c.args in
    let ks = c.deductions-deductions in
    let e =
    c.loop-i.invariant
    ∙ all-left (gives_in (group_in a.group) (over_in a.over.now)) ks.result.items (offers_in a.offers.now) c.loop-i.i (omega arith)
    ∙ ap (λ l. remain (gives_in (group_in a.group) (over_in a.over.now)) l (offers_in a.offers.now)) ks.ensures.value
    ∙ taken (group_in a.group) a.over.now (offers_in a.offers.now) in
    record { taken = e; changed = rw e (taken-changed (group_in a.group) (over_in a.over.now) (offers_in a.offers.now)) }

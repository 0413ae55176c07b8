use mathlib.Core.Path.{refl, ◌∙◌}
use native.Mathlib.Omega.{arith}
use Rattle.judge_loads.proofs.LoadLaws.{left-start, left-next, left-end, left-some, unnamed, over, within, none-start, none-next, hour-none, hour-found}
use Rattle.judge_loads.proofs.lowest_hour.Goals as goal

pub hours-init : goal.hours-init
hours-init c = (refl, none-start _)

pub hours-preserved-then-own-h-eq0 : goal.hours-preserved-then-own-h-eq0
hours-preserved-then-own-h-eq0 c =
    let o = c.hours in
    (o.invariant.0, none-next _ o.h o.invariant.1 (unnamed _ _ _ o.h c.if-own-h-eq0.true))

pub loop-load-init : goal.loop-load-init
loop-load-init c = (refl, left-start _ c.hours.h c.args.own.now _ _ c.requires.1 c.from-load.ensures (omega (arith, c.from-load.ensures, c.fits-own c.hours.h)))

pub hours-preserved : goal.hours-preserved
hours-preserved c =
    let o = c.hours in
    let s = c.loop-load in
    let all = left-end _ o.h _ s.load _ c.in_default.ensures.cases s.invariant.1 in
    (s.invariant.0 ∙ o.invariant.0, none-next _ o.h o.invariant.1 (within _ _ _ o.h (omega (arith, all))))

pub loop-load-preserved : goal.loop-load-preserved
loop-load-preserved c =
    let s = c.loop-load in
    (s.invariant.0, left-next _ c.hours.h _ s.load _ c.in-Some.next.now c.in-Some.ensures.cases.0 s.invariant.1 c.from-load-in-loop-load.ensures (omega arith))

pub returns-after-hours : goal.returns-after-hours
returns-after-hours c = c.hours.invariant.0 ∙ hour-none _ _ c.hours.h (omega arith) c.hours.invariant.1

pub returns-then-limit-h : goal.returns-then-limit-h
returns-then-limit-h c =
    let o = c.hours in
    hour-found _ _ o.h (omega arith) o.invariant.1 (over _ _ _ o.h c.if-own-h-eq0.false (omega (arith, left-some _ _ _ _ _ c.loop-load.invariant.1)))

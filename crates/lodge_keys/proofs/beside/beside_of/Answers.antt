use mathlib.Core.Path.{ap, sym, ◌∙◌}
use native.Mathlib.Omega.{arith}
use Rattle.listed.specs.View.{listed, listed_as}
use Rattle.judge_loads.proofs.LoadLaws.{index-start, index-pushed, index-left}
use Rattle.lodge_keys.proofs.BesideLaws.{none-of-all, mark-of}
use Rattle.lodge_keys.proofs.beside.beside_of.Goals as goal
use Rattle.lodge_keys.proofs.beside.beside_of.Goals.{then-is_beside, else-is_beside}

pub returns-then-key : goal.returns-then-key
unfolding listed listed_as
returns-then-key c = ap listed c.new-counted.ensures ∙ none-of-all c.args.key c.args.lodgements.now c.if-key.true

pub loop-i-init : goal.loop-i-init
unfolding listed listed_as
loop-i-init c = rw c.new-counted.ensures (omega arith, index-start _)

pub loop-i-preserved : goal.loop-i-preserved
loop-i-preserved c =
    let s = c.loop-i in
    let test = mark-of c.args.key c.args.lodgements.now _ s.i c.if-key.false c.loop-i-test.true ∙ sym c.is_beside.ensures in
    elim c.if-is_beside.branch [
      | then-is_beside w ↦ rw (w.counted-is, w.push.ensures.list) (omega (arith, w.push.ensures.count, s.invariant.0), index-pushed _ _ s.i (test ∙ w.if-is_beside.true) s.invariant.1)
      | else-is_beside w ↦ rw w.counted-is (omega (arith, s.invariant.0), index-left _ _ s.i (test ∙ w.if-is_beside.false) s.invariant.1)
    ]

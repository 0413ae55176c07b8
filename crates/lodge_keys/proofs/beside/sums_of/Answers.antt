use native.Mathlib.Omega.{arith}
use Rattle.lodge_keys.proofs.SumLaws.{below-start, below_more, sums-start, sums_next, sums-all}
use Rattle.lodge_keys.proofs.beside.sums_of.Goals as goal

pub loop-i-init : goal.loop-i-init
loop-i-init c = (below-start, sums-start _ c.args.counted.now)

pub add-requires : goal.add-requires
add-requires c = let s = c.loop-i in below_more s.i-index 128 _ (omega (arith, c.requires.few)) s.invariant.0

pub loop-i-preserved : goal.loop-i-preserved
loop-i-preserved c =
    let s = c.loop-i in
    (c.add.ensures.below s.i-index s.invariant.0, sums_next c.args.energies.now c.args.counted.now s.i-index s.sums c.add.new.sums (omega arith) s.invariant.1 c.add.ensures.added)

pub returns : goal.returns
returns c =
    let s = c.loop-i in
    (sums-all c.args.energies.now c.args.counted.now s.i-index s.sums (omega arith) s.invariant.1, below_more s.i-index 128 _ (omega (arith, c.requires.few)) s.invariant.0)

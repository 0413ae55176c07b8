use Rattle.std.proofs.Common.{◌+◌, get_or, arith, ◌∙◌}
use lib.Seq.{get_or-set_other}
use Rattle.rules.specs.Share.{pro_rata}
use Rattle.rules.proofs.ShareLaws.{pro-rata-le}
use Rattle.hour_share.proofs.Laws.{floor-next, floor-sum, floors-end, floors-counted}
use Rattle.hour_share.proofs.add_floors.Goals as goal

pub overflow_add-deductions : goal.overflow_add-deductions
overflow_add-deductions c =
    let l = c.loop-i in
    omega (arith, c.pro_rata-floor.ensures, pro-rata-le c.args.r c.args.g (get_or c.args.amounts.now l.i 0) c.requires.within, c.requires.ranged l.i, l.invariant.room l.i (omega arith))

pub overflow_add-floored : goal.overflow_add-floored
overflow_add-floored c =
    let l = c.loop-i in
    omega (arith, c.pro_rata-floor.ensures, pro-rata-le c.args.r c.args.g (get_or c.args.amounts.now l.i 0) c.requires.within, c.requires.ranged l.i, l.invariant.small, c.requires.few, c.loop-i-test.true)

pub loop-i-preserved : goal.loop-i-preserved
loop-i-preserved c =
    let l = c.loop-i in
    let ms = c.args.amounts.now in
    let f = pro_rata c.args.r c.args.g in
    rw c.pro_rata-floor.ensures record {
      room = λ j h. omega (arith, get_or-set_other l.deductions l.i j (get_or l.deductions l.i 0 + f (get_or ms l.i 0)) 0 (λ z. absurd (omega arith)), l.invariant.room j (omega arith));
      small = omega (arith, pro-rata-le c.args.r c.args.g (get_or ms l.i 0) c.requires.within, c.requires.ranged l.i, l.invariant.small);
      counted = omega (arith, floor-sum f l.deductions ms l.i c.loop-i-test.true, l.invariant.counted);
      whole = floor-next f l.deductions ms l.i (omega arith) c.loop-i-test.true ∙ l.invariant.whole;
    }

pub returns-clause-added : goal.returns-clause-added
returns-clause-added c =
    floors-end (pro_rata c.args.r c.args.g) c.loop-i.deductions c.args.amounts.now c.loop-i.i (omega arith) (omega arith) c.loop-i.invariant.whole

pub returns-clause-floored : goal.returns-clause-floored
returns-clause-floored c = floors-counted (pro_rata c.args.r c.args.g) c.loop-i.deductions c.args.amounts.now c.loop-i.i (omega arith) c.loop-i.invariant.counted

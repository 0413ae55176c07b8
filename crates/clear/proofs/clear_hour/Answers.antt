use Rattle.std.proofs.Common.{arith}
use lib.ListN.{length-take}
use Rattle.clear.proofs.EndLaws.{figures-small, hour-told, hour-none}
use Rattle.clear.proofs.clear_hour.Goals as goal

pub stored-requires : goal.stored-requires
stored-requires c =
    let s = c.args.s.now in
    let small = figures-small c.gather.new.hour c.clear_into.new.figures (rw c.if-clear_into.true at c.clear_into.ensures) in
    (omega (arith, length-take s.enrolled s.units, c.requires.0.enrolled), small.0, small.1)

pub returns-then-clear_into : goal.returns-then-clear_into
returns-then-clear_into c q =
    hour-told c.args.s.now c.args.holders.now c.args.k c.gather.new.hour c.clear_into.new.figures c.stored.result q c.gather.ensures (rw c.if-clear_into.true at c.clear_into.ensures) c.stored.ensures

pub returns-else-clear_into : goal.returns-else-clear_into
returns-else-clear_into c q =
    hour-none c.args.s.now c.args.holders.now c.args.k c.gather.new.hour (record { steps = 0; figures = c.no_figures.result }) q c.gather.ensures (rw c.if-clear_into.false at c.clear_into.ensures)

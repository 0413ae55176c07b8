use Rattle.std.proofs.Common.{rules, arith, [], false}
use Rattle.session.specs.declared.Published.{Published}
use Rattle.session.proofs.LaidLaws.{fill-next, fill_end}
use Rattle.notify_capacity.specs.Capacities.{direction_as}
use Rattle.notify_capacity.proofs.lay_all.Goals as goal

abbrev absent : Published
absent = record { count = 0; published = false; reserved = 0; reserved2 = 0; energies = [] }

pub loop-i-preserved : goal.loop-i-preserved
loop-i-preserved c =
    let l = c.loop-i in
    (search rules, rw c.lay.ensures (fill-next direction_as absent c.args.ps.now l.stored l.i (omega arith) (omega arith) l.invariant.1))

pub returns : goal.returns
returns c =
    let l = c.loop-i in
    fill_end direction_as c.args.ps.now l.stored l.i (omega arith) (omega arith) l.invariant.1

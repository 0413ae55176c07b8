use Rattle.std.proofs.Common.{◌-◌, arith, pos_of_ne-zero}
use lib.Count.{count_leading_zeros}
use Rattle.message.proofs.HourLaws.{leading, one_shifted, first-hour}
use Rattle.message.proofs.hours.HoursIterator.next.Goals as goal

pub overflow_sub-self-2 : goal.overflow_sub-self-2
overflow_sub-self-2 c =
    let l = leading c.self.inside.left (pos_of_ne-zero c.if-self-eq0.false) c.self.invariant in
    omega (arith, one_shifted (31 - count_leading_zeros 32 c.self.inside.left) (omega arith))

pub overflow_sub-result : goal.overflow_sub-result
overflow_sub-result c =
    let l = leading c.self.inside.left (pos_of_ne-zero c.if-self-eq0.false) c.self.invariant in
    omega (arith, l.0, l.1)

pub returns-clause-steps : goal.returns-clause-steps
returns-clause-steps c =
    let l = leading c.self.inside.left (pos_of_ne-zero c.if-self-eq0.false) c.self.invariant in
    rw (← c.self.view_is) (first-hour _ _ _ l.0 l.1 l.2 l.3 (one_shifted (31 - count_leading_zeros 32 c.self.inside.left) (omega arith)))

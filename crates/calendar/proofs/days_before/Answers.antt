use Prim.Native.Nat.{◌-◌}
use mathlib.Core.Path.{ap, sym, ◌∙◌}
use native.Mathlib.Omega.{arith}
use borrow.Author.Rules.{rules}
use Rattle.rules.specs.Hours.{days_before}
use Rattle.rules.proofs.HoursLaws.{before-most}
use Rattle.calendar.proofs.DateLaws.{month-more}
use Rattle.calendar.proofs.days_before.Goals as goal

pub loop-m-init : goal.loop-m-init
unfolding days_before
loop-m-init c = search rules

pub overflow_add-days : goal.overflow_add-days
overflow_add-days c = omega (arith, before-most c.args.year (c.loop-m.m - 1))

pub loop-m-preserved : goal.loop-m-preserved
loop-m-preserved c =
    (omega arith, omega arith, rw (c.from-days.ensures, c.loop-m.invariant.2, c.days_of_month.ensures) (sym (month-more c.args.year c.loop-m.m c.loop-m.invariant.0)))

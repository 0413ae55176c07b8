use mathlib.Core.Path.{sym}
use native.Mathlib.Omega.{arith}
use Rattle.hour_share.proofs.Laws.{none-left, none-takes, one-taken}
use Rattle.hour_share.proofs.+hand_out.Goals as goal

pub returns-then-left-eq0 : goal.returns-then-left-eq0
returns-then-left-eq0 t c = rw c.if-left-eq0.true (none-left c.args.deductions.now c.args.amounts.now c.requires.same_length)

pub returns-in_default : goal.returns-in_default
returns-in_default t c = none-takes c.args.deductions.now c.args.amounts.now c.args.left c.requires.same_length (sym c.in_default.ensures)

pub returns : goal.returns
returns t c = one-taken c.args.deductions.now c.args.amounts.now c.args.left c.in-Some.i c.requires.same_length (omega arith) (sym c.in-Some.ensures) c.hand_out.ensures

use mathlib.Core.Path.{refl, ◌∙◌}
use native.Mathlib.Omega.{arith}
use lib.ListN.{length-drop}
use Rattle.book.proofs.ReplayLaws.{size-as, record-cut, record-whole}
use Rattle.book.proofs.head_of.Goals as goal

pub returns-in_default : goal.returns-in_default
returns-in_default c = record-cut c.args.log.now _ _ refl refl (omega (arith, c.in_default.len_below))

pub returns-then-rest-size : goal.returns-then-rest-size
returns-then-rest-size c = record-cut c.args.log.now c.from.result c.from-2.result c.from.ensures c.from-2.ensures (omega (arith, length-drop 3 c.args.log.now))

pub returns-in_err-kind : goal.returns-in_err-kind
returns-in_err-kind c =
    rw c.from_residual.ensures
    (record-whole c.args.log.now c.from.result c.from-2.result c.from.ensures c.from-2.ensures _ refl (omega (arith, length-drop 3 c.args.log.now)) ∙ c.in_err-kind.ensures)

pub returns : goal.returns
returns c = (
  record-whole c.args.log.now c.from.result c.from-2.result c.from.ensures c.from-2.ensures _ refl (omega (arith, length-drop 3 c.args.log.now)) ∙ c.in_ok-kind.ensures.1,
  c.in_ok-kind.ensures.0,
  size-as c.args.log.now c.from.result c.from-2.result c.from.ensures c.from-2.ensures,
)

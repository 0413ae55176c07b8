use mathlib.Core.Path.{sym, ◌∙◌}
use Rattle.session.proofs.OpenLaws.{open-0, open-1}
use Rattle.session.proofs.open.Goals as goal
use Rattle.session.proofs.open.Goals.{then-is_date, else-is_date}

pub returns : goal.returns
returns c = elim c.if-is_date.branch [
  | then-is_date w ↦ rw w.t-6-is (open-0 _ _ _ (sym c.is_date.ensures ∙ w.if-is_date.true) w.accepted.ensures (rw w.t-6-is at c.fresh.ensures))
  | else-is_date w ↦ rw w.t-6-is (open-1 _ _ _ (sym c.is_date.ensures ∙ w.if-is_date.false) w.from.ensures (rw w.t-6-is at c.fresh.ensures))
]

use mathlib.Core.Path.{sym, ◌∙◌}
use Rattle.set_loss.proofs.LossLaws.{loss-0, loss-2, loss-5}
use Rattle.set_loss.proofs.LossCall.judge.Goals as goal

pub returns-then-s-clause-judges : goal.returns-then-s-clause-judges
returns-then-s-clause-judges c = loss-2 _ c.args.self.now c.if-s.true

pub returns-then-bad_loss-clause-judges : goal.returns-then-bad_loss-clause-judges
returns-then-bad_loss-clause-judges c = loss-5 _ _ c.if-s.false (sym c.bad_loss.ensures ∙ c.if-bad_loss.true)

pub returns-clause-judges : goal.returns-clause-judges
returns-clause-judges c = loss-0 _ _ c.if-s.false (sym c.bad_loss.ensures ∙ c.if-bad_loss.false)

use Rattle.set_loss.proofs.LossLaws.{loss-entered, border-fits}
use Rattle.set_loss.proofs.LossCall.enter.Goals as goal

pub returns-clause-entered : goal.returns-clause-entered
returns-clause-entered c = rw c.accepted.ensures (loss-entered _ c.args.self.now)

pub returns-clause-fits : goal.returns-clause-fits
returns-clause-fits c = border-fits _ _ c.requires.found

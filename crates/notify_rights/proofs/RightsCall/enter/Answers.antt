use Rattle.notify_rights.proofs.RightsLaws.{rights-entered}
use Rattle.notify_rights.proofs.RightsCall.enter.Goals as goal

pub returns-clause-entered : goal.returns-clause-entered
returns-clause-entered c =
    rw (c.stored_notice.ensures, c.front.ensures, c.accepted.ensures, c.second_index-also.ensures) (rights-entered _ c.args.self.now _ c.requires.found)

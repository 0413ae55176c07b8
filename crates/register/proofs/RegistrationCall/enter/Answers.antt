use Rattle.register.proofs.RegisterLaws.{unit-entered}
use Rattle.register.proofs.RegistrationCall.enter.Goals as goal

pub returns-clause-entered : goal.returns-clause-entered
returns-clause-entered c = rw (c.rights_from.ensures, c.accepted.ensures) (unit-entered _ _ _ c.requires.found.0 c.requires.found.1)

use native.Mathlib.Omega.{arith}
use Rattle.annul.proofs.AnnulLaws.{annulled}
use Rattle.annul.proofs.AnnulmentCall.enter.Goals as goal

pub returns-clause-entered : goal.returns-clause-entered
returns-clause-entered c =
    rw (c.no_lodgement.ensures, c.no_energies.ensures, c.accepted.ensures) (annulled _ c.args.self.now.key c.args.at c.requires.found (omega (arith, c.requires.within.standing)))

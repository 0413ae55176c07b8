use Rattle.rules.specs.Book as B
use Rattle.session.specs.Laid.{pad}
use Rattle.session.specs.Image.{image, notice_as, verdicts_in, hours_in}
use Rattle.session.proofs.Session.fresh.Goals as goal

pub returns : goal.returns
unfolding image verdicts_in hours_in B.hours B.fresh pad notice_as
returns c = rw (c.no_unit.ensures, c.no_notice.ensures, c.no_notice-2.ensures, c.no_notice-3.ensures, c.no_lodgement.ensures, c.no_energies.ensures, c.no_verdict.ensures, c.no_figures.ensures, c.hours_of.ensures)

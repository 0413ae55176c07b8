use Rattle.close.proofs.CloseLaws.{close-entered}
use Rattle.close.proofs.verdicts.Goals as goal

pub returns : goal.returns
returns c =
    let a = c.of-closing.ensures.session in
    let b = c.pass.ensures.session in
    close-entered c.args.s.now _ _ _ _ _ _ _ _ c.of-closing.ensures.closing_at (rw a at c.pass.ensures.closing_at) (rw (b, a) at c.pass-2.ensures.closing_at) (rw (c.pass-2.ensures.session, b, a) at c.pass-3.ensures.closing_at) c.pass-3.new.self.full

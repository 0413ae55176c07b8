use Rattle.lodge.proofs.EntryLaws.{entered, from-default}
use Rattle.lodge.proofs.entering.enter.Goals as goal

pub returns-clause-entered : goal.returns-clause-entered
returns-clause-entered c =
    let a = c.requires in
    let p = c.args.p.now in
    rw (c.numbered.ensures, a.key, c.left_of-left.ensures, c.unwrap_or.ensures, from-default p.replaces c.args.s.now.standing) (entered _ p.fields _ (rw a.key at a.replaced) (rw a.key at a.room))

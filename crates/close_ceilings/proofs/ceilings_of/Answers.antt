use Rattle.std.proofs.Common.{◌+◌, ap, [], ◌∷◌}
use lib.ListN.{length-append}
use Rattle.close_ceilings.specs.Ceilings.{ceiling_at}
use Rattle.close_ceilings.proofs.CeilingLaws.{ceilings_more}
use Rattle.close_ceilings.proofs.ceilings_of.Goals as goal

pub loop-p-preserved : goal.loop-p-preserved
unfolding ceiling_at
loop-p-preserved c =
    let l = c.loop-p in
    let a = c.args in
    record {
      long = rw (c.push.ensures.items, length-append l.ceilings.items (c.ceilings_at.result ∷ [])) (ap (λ n. n + 1) l.invariant.long);
      ceilings = λ cs losses lent. rw (c.push.ensures.items) (ceilings_more a.units.now a.notices.now a.rights.now cs losses l.ceilings.items c.ceilings_at.result l.p l.invariant.long (c.ceilings_at.ensures cs losses lent) (l.invariant.ceilings cs losses lent));
    }

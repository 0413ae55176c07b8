use Rattle.std.proofs.Common.{min, arith, ◌∙◌, ap}
use Rattle.rules.specs.Lists.{sum, add_each}
use Rattle.rules.specs.Share.{share}
use Rattle.hour_share.proofs.Laws.{shared-alone}
use Rattle.hour_share.proofs.share.Goals as goal

pub returns : goal.returns
returns c =
    let ms = c.args.amounts.now in
    let r = min c.args.excess (sum ms) in
    shared-alone r ms (omega arith) c.nothing-deductions.ensures (c.add_share.ensures ∙ ap (add_each (share r ms)) c.deref_mut.ensures.value)

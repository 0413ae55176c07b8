use Rattle.hour_share.proofs.Laws.{none_held, none-deducted, deducted}
use Rattle.hour_share.proofs.pro_rata.Goals as goal
use Rattle.hour_share.proofs.pro_rata.Goals.{then-m-eq0-via-then-m-eq0, then-m-eq0-via-else-m-eq0+then-g-eq0}

pub returns-then-m-eq0 : goal.returns-then-m-eq0
returns-then-m-eq0 c =
    elim c.then-m-eq0.branch [
      | then-m-eq0-via-then-m-eq0 w ↦ none_held _ _ _ w.if-m-eq0.true
      | then-m-eq0-via-else-m-eq0+then-g-eq0 w ↦ none-deducted _ _ _ w.if-g-eq0.true
    ]

pub returns : goal.returns
returns c = rw (c.from.ensures, c.from-2.ensures, c.from-3.ensures) (deducted c.args.r c.args.g c.args.m)

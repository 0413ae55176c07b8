use Rattle.std.proofs.Common.{◌≡◌, map, take, drop, ◌++◌}
use Rattle.withdraw_keep.proofs.KeptLaws.{kept}
use Rattle.withdraw_keep.proofs.keep_matched.Given as goal

abbrev pub invariant-loop-offer : goal.invariant-loop-offer
invariant-loop-offer l = l.offers ≡ map (kept l.over) (take l.offer-index l.initial.offers) ++ drop l.offer-index l.initial.offers

use Rattle.std.proofs.Common.{arith, refl}
use Rattle.rules.proofs.ListLaws.{all-at}
use Rattle.hour_match.specs.Walks.{named}
use Rattle.withdraw.proofs.PlaceLaws.{renew-more}
use Rattle.withdraw.proofs.abroad.renew.Goals as goal

pub loop-k-init : goal.loop-k-init
unfolding named
loop-k-init c = refl

pub bounds-offers-i : goal.bounds-offers-i
bounds-offers-i c = all-at c.loop-k.k 0 c.requires.names.inside c.loop-k-test.true

pub offset_bounds-offers-i : goal.offset_bounds-offers-i
offset_bounds-offers-i c = let g = c.well_formed in let i = bounds-offers-i c in record { fits = omega arith }

pub loop-k-preserved : goal.loop-k-preserved
loop-k-preserved c = renew-more c.args.offers.now c.args.places.now c.loop-k.k c.loop-k.abroad c.args.abroad.now c.loop-k-test.true c.requires.same_length c.loop-k.invariant

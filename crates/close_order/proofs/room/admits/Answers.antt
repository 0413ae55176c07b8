use Rattle.std.proofs.Common.{refl, arith}
use Rattle.close_order.specs.Room.{taken, left}
use Rattle.close_order.proofs.FitLaws.{fits-as}
use Rattle.close_order.proofs.room.admits.Goals as goal

pub returns-then-not-fits : goal.returns-then-not-fits
returns-then-not-fits c = left (fits-as _ _ c.fits.ensures c.if-not-fits.true) refl

pub returns : goal.returns
returns c = taken (fits-as _ _ c.fits.ensures c.if-not-fits.false) (record { named = λ h i. c.loop-h.invariant.passed h (omega arith); behind = λ h i. c.loop-h.invariant.left h (omega arith) })

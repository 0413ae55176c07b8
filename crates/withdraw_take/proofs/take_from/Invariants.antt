use Rattle.std.proofs.Common.{◌≡◌, take}
use Rattle.rules.specs.Withdrawal.{remain}
use Rattle.hour_offers.specs.View.{offers_in}
use Rattle.hour_borders.specs.Directions.{over_in}
use Rattle.withdraw_keep.specs.Group.{group_in}
use Rattle.withdraw_take.specs.Given.{gives_in}
use Rattle.withdraw_take.proofs.take_from.Given as goal

abbrev pub invariant-loop-i : goal.invariant-loop-i
invariant-loop-i l = offers_in l.offers ≡ remain (gives_in (group_in l.group) (over_in l.over)) (take l.i l.deductions.items) (offers_in l.initial.offers)

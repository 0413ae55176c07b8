-- The group of offers that gives way in a step.
use Rattle.rules.specs.Withdrawal.{Group as GroupOf, at_price, legacy_offers}
use Rattle.withdraw_keep.specs.declared.Group.{Group}
use Rattle.withdraw_keep.specs.declared.Group.TheVariants.{Legacy, AtPrice}

-- the group of the code as that of the rules
abbrev pub group_in : Group → GroupOf
group_in Legacy = legacy_offers
group_in (AtPrice purchase price) = at_price purchase price

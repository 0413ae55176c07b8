-- Steps 3 and 4: who gives way, and with what.
use Rattle.std.specs.Prelude.{Bool, cond, List}
use Rattle.rules.specs.Lists.{any}
use Rattle.rules.specs.Match.{Offer}
use Rattle.rules.specs.Borders.{Directed, at_border}
use Rattle.rules.specs.Withdrawal.{Group, in_group, gives_way}
use Rattle.hour_share.specs.declared.Amount.{Amount}
use Rattle.hour_borders.specs.Directions.{own_direction}

-- an offer gives way in one of the directions passed
abbrev pub gives_in : Group → List Directed → Offer → Bool
gives_in g ds o = any (λ d. gives_way g d o) ds

-- what an offer of the group has matched, as counted at its border, in the direction in which it runs; the others have nothing
abbrev pub given_of : Group → Offer → Amount
given_of g o = record { direction = own_direction o.holder.border o.holder.purchase; energy = at_border o.holder (cond (in_group g o) o.matched 0) }

-- The repetition of the step.
use Rattle.std.specs.Prelude.{ℕ, ◌≡◌, List}
use Rattle.rules.specs.Lists.{Each}
use Rattle.rules.specs.Match.{Offer, volume}
use Rattle.rules.specs.Borders.{Directed}
use Rattle.rules.specs.Withdrawal.{withdraw}
use Rattle.withdraw.specs.declared.Ended.{Ended}
use Rattle.withdraw.specs.Steps.{Laid, Lowered}

-- A withdrawal from some offers to others, by the maxima ms.
pub record Withdrew (ms : List Directed) (sales purchases : List ℕ) (before after : List Offer) (r : Ended) : Type 0 where
  pub done : withdraw ms before ≡ record { offers = after; steps = r.steps }
  pub traded : r.volume ≡ volume after
  pub laid : Laid after sales purchases
  pub lowered : Each Lowered before after

-- What executions lose.
use Rattle.std.specs.Prelude.{◌≡◌, ◌≤◌, List}
use Rattle.rules.specs.Lists.{sum}
use Rattle.rules.specs.Match.{Offer}
use Rattle.rules.specs.Borders.{Directed, Execution}
use Rattle.rules.specs.Executions.{bilateral_excess}
use Rattle.rules.specs.Demands.{amounts_on}

-- "R ≤ G": a direction's excess is at most what the executions in it count for
abbrev pub Enough : List Offer → List Execution → Directed → Type 0
Enough os xs c = bilateral_excess os xs c ≤ sum (amounts_on c xs)

-- an execution y has no more than x, and is of the same holder
pub record Lowered (x y : Execution) : Type 0 where
  pub holder : y.holder ≡ x.holder
  pub energy : y.energy ≤ x.energy

-- Step 2: whose prices are compared, and a price that may be missing.
use Rattle.std.specs.Prelude.{ℕ, Bool, not, ◌&&◌, List, ltb, Option as Maybe, Some, None}
use Rattle.std.specs.Bool.{beq}
use Rattle.std.proofs.Math.Option.{Option, some, none}
use Rattle.rules.specs.Match.{Offer}
use Rattle.rules.specs.Borders.{Directed}
use Rattle.rules.specs.Withdrawal.{runs_among}

-- "matched, non-legacy offers there in the direction passed", of one side
abbrev pub priced_of : Bool → List Directed → Offer → Bool
priced_of side ds o = beq o.holder.purchase side && ltb 0 o.matched && not o.holder.legacy && runs_among ds o

-- a price of the code as that of the rules
abbrev pub price_in : Maybe ℕ → Option ℕ
price_in None = none
price_in (Some p) = some p

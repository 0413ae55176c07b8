-- The balance that a flow stands for.
use Rattle.std.specs.Prelude.{ℤ}
use Rattle.std.proofs.Math.IntN.{sub_ℕ}
use Rattle.hour_split.specs.declared.Flow.{Flow}

-- "exports less imports" for export, negated for import
abbrev pub balance_of : Flow → ℤ
balance_of f = sub_ℕ f.along f.against

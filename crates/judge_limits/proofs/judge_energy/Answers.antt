use mathlib.Core.Path.{sym, ◌∙◌}
use native.Mathlib.Omega.{arith}
use Rattle.judge_limits.proofs.RowLaws.{at-absent, at-passed, at-unpassed, at-end}
use Rattle.judge_limits.proofs.judge_energy.Goals as goal

pub loop-limit-preserved-in_default : goal.loop-limit-preserved-in_default
loop-limit-preserved-in_default c = c.loop-limit.invariant ∙ at-absent _ _ _ _ c.loop-limit.limit-index _ (omega arith) c.in_default.is

pub returns-in-Some-lowest_hour : goal.returns-in-Some-lowest_hour
returns-in-Some-lowest_hour c =
    sym (c.loop-limit.invariant ∙ at-passed _ _ _ _ c.loop-limit.limit-index _ (omega arith) _ c.in-Some.is _ (sym c.lowest_hour.ensures ∙ c.in-Some-lowest_hour.is))

pub loop-limit-preserved : goal.loop-limit-preserved
loop-limit-preserved c =
    c.loop-limit.invariant ∙ at-unpassed _ _ _ _ c.loop-limit.limit-index _ (omega arith) _ c.in-Some.is (sym c.lowest_hour.ensures ∙ c.in_default-lowest_hour.is)

pub returns : goal.returns
returns c = sym (c.loop-limit.invariant ∙ at-end _ _ _ c.args.limits.now c.loop-limit.limit-index (omega arith))

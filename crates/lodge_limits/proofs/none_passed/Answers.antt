use mathlib.Core.Path.{sym, ap, ◌∙◌}
use native.Mathlib.Omega.{arith}
use Rattle.judge_limits.proofs.RowLaws.{at-absent, at-passed, at-unpassed, at-end}
use Rattle.lodge_limits.specs.Judging.{is_clear}
use Rattle.lodge_limits.proofs.PassedLaws.{passed-nowhere, passed-somewhere}
use Rattle.lodge_limits.proofs.none_passed.Goals as goal

pub loop-limit-preserved-in_default : goal.loop-limit-preserved-in_default
loop-limit-preserved-in_default c = c.loop-limit.invariant ∙ at-absent _ _ _ _ c.loop-limit.limit-index _ (omega arith) c.in_default.is

pub returns-then-not-passed_nowhere : goal.returns-then-not-passed_nowhere
returns-then-not-passed_nowhere c =
    sym (ap is_clear (c.loop-limit.invariant ∙ at-passed _ _ _ _ c.loop-limit.limit-index _ (omega arith) _ c.in-Some.is _ (passed-somewhere _ _ _ _ (sym c.passed_nowhere.ensures ∙ c.if-not-passed_nowhere.true))))

pub loop-limit-preserved : goal.loop-limit-preserved
loop-limit-preserved c =
    c.loop-limit.invariant ∙ at-unpassed _ _ _ _ c.loop-limit.limit-index _ (omega arith) _ c.in-Some.is (passed-nowhere _ _ _ _ (sym c.passed_nowhere.ensures ∙ c.if-not-passed_nowhere.false))

pub returns : goal.returns
returns c = sym (ap is_clear (c.loop-limit.invariant ∙ at-end _ _ _ c.args.limits.now c.loop-limit.limit-index (omega arith)))

use mathlib.Core.Path.{sym, ap, ◌∙◌}
use native.Mathlib.Omega.{arith}
use Rattle.lodge_limits.specs.Judging.{is_clear}
use Rattle.lodge_limits.proofs.PassedLaws.{is-clear}
use Rattle.lodge_limits.proofs.CountedLaws.{counted-in, for-sums, for-indices}
use Rattle.lodge_limits.proofs.judge_by.Goals as goal

pub returns-then-none_passed : goal.returns-then-none_passed
returns-then-none_passed c =
    let by = for-sums _ _ c.requires.awaits (omega arith) _ c.as_slice-counted.ensures.value c.args.limits.now _ (rw c.as_slice-counted.ensures.value c.requires.sums) in
    is-clear _ (sym (ap is_clear by) ∙ sym c.none_passed.ensures ∙ c.if-none_passed.true)

pub judge_energy-requires : goal.judge_energy-requires
judge_energy-requires c = (c.requires.awaits.within.hours, counted-in _ _ c.requires.awaits (omega arith) _ c.as_slice-counted.ensures.value)

pub returns : goal.returns
returns c = c.judge_energy.ensures ∙ for-indices _ _ c.requires.awaits (omega arith) _ c.as_slice-counted.ensures.value c.args.limits.now

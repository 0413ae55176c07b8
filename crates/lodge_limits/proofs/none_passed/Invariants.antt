use Rattle.std.proofs.Common.{◌≡◌, drop}
use Rattle.judge_limits.specs.Limits.{first_passed}
use Rattle.lodge_keys.specs.Sums.{load_on}
use Rattle.lodge_limits.proofs.none_passed.Given as goal

abbrev pub invariant-loop-limit : goal.invariant-loop-limit
invariant-loop-limit l =
    first_passed l.limits l.hours l.own (load_on l.own l.sums) ≡ first_passed (drop l.limit-index l.limits) l.hours l.own (load_on l.own l.sums)

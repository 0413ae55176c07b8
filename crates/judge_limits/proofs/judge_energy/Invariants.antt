use Rattle.std.proofs.Common.{◌≡◌, drop}
use Rattle.judge_loads.specs.Loads.{load_by}
use Rattle.judge_limits.specs.Limits.{first_passed}
use Rattle.judge_limits.proofs.judge_energy.Given as goal

abbrev pub invariant-loop-limit : goal.invariant-loop-limit
invariant-loop-limit l =
    first_passed l.limits l.hours l.own (load_by l.own l.energies l.others) ≡ first_passed (drop l.limit-index l.limits) l.hours l.own (load_by l.own l.energies l.others)

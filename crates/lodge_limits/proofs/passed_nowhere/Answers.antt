use Rattle.std.proofs.Common.{rules, refl, ◌∙◌, arith}
use Rattle.std.proofs.lemmas.Iterator.{YieldsList-from_range}
use Rattle.std.proofs.lemmas.Iterator.Search.{all_from_yields_List}
use Rattle.lodge_limits.proofs.PassedLaws.{within_at, all-within}
use Rattle.lodge_limits.proofs.passed_nowhere.Goals as goal

pub returns : goal.returns
returns c =
    all_from_yields_List (within_at c.args.own.now c.args.sums.now c.args.limit.now) _ _ _ c.all.ensures.ran (YieldsList-from_range 0 c.args.hours c.args.hours refl (omega arith)) (λ x b q k. search rules)
    ∙ all-within _ _ _ c.args.hours

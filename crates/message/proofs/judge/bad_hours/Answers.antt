use Rattle.std.proofs.Common.{rules, tests, refl, ◌∙◌}
use Rattle.std.proofs.lemmas.Iterator.{YieldsList-from_range}
use Rattle.std.proofs.lemmas.Iterator.Search.{any_from_yields_List}
use Rattle.rules.specs.Message.{bad_hour}
use Rattle.message.specs.View.{fields_in}
use Rattle.message.proofs.JudgeLaws.{any_list}
use Rattle.message.proofs.judge.bad_hours.Goals as goal

pub returns : goal.returns
returns c =
    any_from_yields_List (bad_hour c.args.top (fields_in c.args.m.now)) _ _ _ c.any.ensures.ran (YieldsList-from_range 1 26 25 refl refl) (λ x b q k. search (rules, tests))
    ∙ any_list _ 1 25

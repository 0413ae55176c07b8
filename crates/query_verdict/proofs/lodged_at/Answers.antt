use Rattle.std.proofs.Common.{rules}
use mathlib.Core.Path.{◌∙◌}
use Rattle.std.proofs.lemmas.List.Sorted.{answers_always}
use Rattle.query_verdict.proofs.HalvingLaws.{halved}
use Rattle.query_verdict.proofs.lodged_at.Goals as goal

pub returns-clause-found : goal.returns-clause-found
returns-clause-found c = λ rising.
    let facts = c.binary_search_by_key.ensures in
    let by_key = facts.position (λ l. l.number) (answers_always _ _ _ (λ f a r g called. search rules)) in
    c.ok.ensures.value ∙ halved _ rising _ _ facts.bound by_key

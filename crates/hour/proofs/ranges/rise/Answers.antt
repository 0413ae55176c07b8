use Rattle.std.proofs.Common.{rules, nat_lt}
use Rattle.std.proofs.lemmas.List.Sorted.{answers_always}
use Rattle.hour.proofs.RiseLaws.{rises_answer}
use Rattle.hour.proofs.ranges.rise.Goals as goal

pub returns : goal.returns
returns g c =
    let number = g.L.Lodged.number in
    rises_answer number c.args.lodged.now c.is_sorted_by.result
    (c.is_sorted_by.ensures.cases (λ x y. nat_lt (number x) (number y)) (answers_always _ _ _ (λ f a r q k. search rules)))

use Rattle.std.proofs.Common.{rules, ◌≡◌, ◌∙◌}
use Rattle.rules.proofs.ElementLaws.{all-every, all-unmapped}
use Rattle.rules.proofs.ListLaws.{all_map}
use Rattle.hour_offers.specs.View.{offer_in}
use Rattle.withdraw_keep.specs.Group.{group_in}
use Rattle.withdraw_take.specs.Given.{given_of}
use Rattle.withdraw_take.proofs.GivenLaws.{lost-said, given-small}
use Rattle.withdraw_take.proofs.deductions.Goals as goal

pub deductions-requires-clause-ranged : goal.deductions-requires-clause-ranged
deductions-requires-clause-ranged c =
    all_map (λ x r a h. let e : a ≡ given_of (group_in c.args.group) (offer_in x) = search rules in rw e (given-small (group_in c.args.group) (offer_in x) r)) (all-unmapped offer_in c.args.offers.now c.requires.in_range)

pub returns-clause-value : goal.returns-clause-value
returns-clause-value c =
    c.deductions.ensures.value (λ x. given_of (group_in c.args.group) (offer_in x)) (all-every (λ x a h. search rules) c.args.offers.now)
    ∙ lost-said (group_in c.args.group) c.args.over.now c.args.offers.now

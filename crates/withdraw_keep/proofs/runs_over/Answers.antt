use Rattle.std.proofs.Common.{sym, ◌∙◌}
use Rattle.hour_offers.specs.View.{offer_in}
use Rattle.withdraw_keep.proofs.KeptLaws.{among-over, among-outside}
use Rattle.withdraw_keep.proofs.runs_over.Goals as goal

pub returns-in-Some : goal.returns-in-Some
returns-in-Some c =
    let own = c.own_direction.ensures in
    sym (among-over c.args.over.now (offer_in c.args.offer.now) c.in-Some.d (sym own.own ∙ c.in-Some.is) (own.within c.in-Some.d c.in-Some.is))

pub returns-in-None : goal.returns-in-None
returns-in-None c = sym (among-outside c.args.over.now (offer_in c.args.offer.now) (sym c.own_direction.ensures.own ∙ c.in-None.is))

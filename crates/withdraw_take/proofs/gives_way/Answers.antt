use Rattle.hour_offers.specs.View.{offer_in}
use Rattle.hour_borders.specs.Directions.{over_in}
use Rattle.withdraw_keep.specs.Group.{group_in}
use Rattle.withdraw_take.proofs.GivenLaws.{gives-among}
use Rattle.withdraw_take.proofs.gives_way.Goals as goal

pub returns-then-runs_over : goal.returns-then-runs_over
returns-then-runs_over c = rw (gives-among (group_in c.args.group) (over_in c.args.over.now) (offer_in c.args.offer.now), ← c.runs_over.ensures, c.if-runs_over.true) c.is_inside.ensures

pub returns-else-runs_over : goal.returns-else-runs_over
returns-else-runs_over c = rw (gives-among (group_in c.args.group) (over_in c.args.over.now) (offer_in c.args.offer.now), ← c.runs_over.ensures, c.if-runs_over.false)

use mathlib.Core.Path.{sym, ◌∙◌}
use Rattle.notify_capacity.proofs.CapacityLaws.{capacity-0, capacity-2, capacity-4, capacity-5}
use Rattle.notify_capacity.proofs.CapacitiesCall.judge.Goals as goal

pub returns-then-s-clause-judges : goal.returns-then-s-clause-judges
returns-then-s-clause-judges c = capacity-2 _ c.args.self.now c.if-s.true

pub returns-then-any_off_hours-clause-judges : goal.returns-then-any_off_hours-clause-judges
returns-then-any_off_hours-clause-judges c = capacity-4 _ _ c.if-s.false (sym c.any_off_hours.ensures ∙ c.if-any_off_hours.true)

pub returns-then-any_off_range-clause-judges : goal.returns-then-any_off_range-clause-judges
returns-then-any_off_range-clause-judges c = capacity-5 _ _ c.if-s.false (sym c.any_off_hours.ensures ∙ c.if-any_off_hours.false) (sym c.any_off_range.ensures ∙ c.if-any_off_range.true)

pub returns-clause-judges : goal.returns-clause-judges
returns-clause-judges c = capacity-0 _ _ c.if-s.false (sym c.any_off_hours.ensures ∙ c.if-any_off_hours.false) (sym c.any_off_range.ensures ∙ c.if-any_off_range.false)

use Rattle.std.proofs.Common.{sym, ◌∙◌, ◌≡◌, false}
use Rattle.rules.proofs.BoolLaws.{both}
use Rattle.hour.specs.Ready.{is_in_range, is_ready, units_possible, figures_of, figures_in_range}
use Rattle.hour_clear.proofs.clear.Goals as goal

pub returns-then-ready : goal.returns-then-ready
unfolding figures_of figures_in_range is_ready
returns-then-ready c =
    let h = c.args.h.now in
    let k = both (is_in_range h) (units_possible h) (sym c.ready.ensures ∙ c.if-ready.true) in
    c.clear_in_range.ensures ∙ rw (k.0, k.1)

pub returns-else-ready : goal.returns-else-ready
unfolding figures_of
returns-else-ready c = let failed : is_ready c.args.h.now ≡ false = sym c.ready.ensures ∙ c.if-ready.false in rw failed

-- The invariant: whatever is taken of the hours that are left completes the slots.
use Rattle.message_cursor.proofs.HourLaws.{midway_start, midway_next, midway_end}
use Rattle.message_cursor.proofs.ReadLaws.{step}
use Rattle.message_cursor.proofs.fieldwise.take_hours.Goals as goal

pub loop-h-init : goal.loop-h-init
loop-h-init c = rw (c.into_iter-h-iterator.ensures.into_iter_gives, c.of-hours.ensures, c.requires.energies, c.requires.prices) (midway_start _ _ _ c.requires.map)

pub loop-h-preserved : goal.loop-h-preserved
loop-h-preserved c =
    let i = c.loop-h.invariant in
    let message = c.args.reader.now.message in
    let energy = step message c.loop-h.reader c.take.new.self 17 i.same c.take.ensures.value c.take.ensures.same c.take.ensures.moved in
    let price = step message c.take.new.self c.take-in-loop-h.new.self c.price_width.result energy.1 c.take-in-loop-h.ensures.value c.take-in-loop-h.ensures.same c.take-in-loop-h.ensures.moved in
    midway_next _ _ _ i c.in-Some.ensures.steps price.1 energy.0 (rw c.price_width.ensures.value at price.0)

pub returns-clause-taken : goal.returns-clause-taken
returns-clause-taken c = midway_end _ _ _ c.loop-h.invariant c.in-None.ensures.steps.0

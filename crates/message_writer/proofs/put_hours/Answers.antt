use Rattle.std.proofs.Common.{◌∙◌}
use lib.Dec.{lit<}
use lib.ListN.{get_or}
use Rattle.rules.specs.Units.{max_energy}
use Rattle.message.specs.View.{fields_in}
use Rattle.message_pen.specs.Pens.{SlotWord}
use Rattle.message_pen.proofs.SlotLaws.{hours-fit, map-fits}
use Rattle.message_writer.proofs.HourLaws.{midway_end, midway-room, midway-next}
use Rattle.message_writer.proofs.put_hours.Goals as goal

pub of-h-items-requires : goal.of-h-items-requires
of-h-items-requires c = (map-fits _ c.requires.ranges.map).1

pub put_bits-requires-clause-room : goal.put_bits-requires-clause-room
put_bits-requires-clause-room c =
    let word : SlotWord 17 c.args.m.now.execution (get_or c.args.m.now.energies c.in-Some.h 0) (get_or c.args.m.now.prices c.in-Some.h 0) c.slot_word-word.result =
    c.slot_word-word.ensures 17 (hours-fit 17 max_energy (fields_in c.args.m.now) _ (lit< tt) c.requires.ranges.values c.in-Some.ensures.steps.within) in
    midway-room 17 (fields_in c.args.m.now) _ _ c.loop-h.invariant.1 c.in-Some.ensures.steps c.slot_width-width.ensures.value word

pub put_bits-requires-clause-fits : goal.put_bits-requires-clause-fits
put_bits-requires-clause-fits c =
    let word : SlotWord 17 c.args.m.now.execution (get_or c.args.m.now.energies c.in-Some.h 0) (get_or c.args.m.now.prices c.in-Some.h 0) c.slot_word-word.result =
    c.slot_word-word.ensures 17 (hours-fit 17 max_energy (fields_in c.args.m.now) _ (lit< tt) c.requires.ranges.values c.in-Some.ensures.steps.within) in
    rw c.slot_width-width.ensures.value word.small

pub loop-h-preserved : goal.loop-h-preserved
loop-h-preserved c =
    let word : SlotWord 17 c.args.m.now.execution (get_or c.args.m.now.energies c.in-Some.h 0) (get_or c.args.m.now.prices c.in-Some.h 0) c.slot_word-word.result =
    c.slot_word-word.ensures 17 (hours-fit 17 max_energy (fields_in c.args.m.now) _ (lit< tt) c.requires.ranges.values c.in-Some.ensures.steps.within) in
    let next =
    midway-next 17 (fields_in c.args.m.now) _ _ c.loop-h.invariant.1 c.in-Some.ensures.steps c.slot_width-width.ensures.value
    word c.put_bits.ensures.at in
    (c.put_bits.ensures.same ∙ c.loop-h.invariant.0, next)

pub returns : goal.returns
returns c = record { same = c.loop-h.invariant.0; at = midway_end 17 _ _ _ c.loop-h.invariant.1 c.in-None.ensures.steps.0 }

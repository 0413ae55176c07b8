-- After the test nothing is refused; after the head the slots find room.
use Rattle.std.proofs.Common.{ap, arith, length, refl, rules, sym}
use lib.Dec.{lit<}
use Rattle.rules.specs.Message.{form1, form_for}
use Rattle.message.specs.View.{fields_in}
use Rattle.message_pen.proofs.PenLaws.{room-last}
use Rattle.message_writer.proofs.WriteLaws.{none_told, row_positive, owed-refused, owed-given, head-room, slots-room}
use Rattle.message_writer.proofs.write_fields.Goals as goal

pub returns-in_err-count-clause-buffer : goal.returns-in_err-count-clause-buffer
returns-in_err-count-clause-buffer c =
    (owed-refused _ _ (ap (λ w. w.row) c.in_err-count.ensures) (λ z. absurd (omega (arith, row_positive c.in_err-count.field-0.0)))).1

pub put_head-requires-clause-ranges : goal.put_head-requires-clause-ranges
put_head-requires-clause-ranges c = (none_told (length c.args.buf.now) (fields_in c.args.m.now) (sym (ap (λ w. w.row) c.in_ok-count.ensures))).0

pub put_head-requires-clause-room : goal.put_head-requires-clause-room
unfolding form_for
put_head-requires-clause-room c =
    let told = none_told (length c.args.buf.now) (fields_in c.args.m.now) (sym (ap (λ w. w.row) c.in_ok-count.ensures)) in
    rw (c.new-page.ensures.buffer, c.new-page.ensures.at_first) (head-room form1 (fields_in c.args.m.now) refl c.args.buf.now told.1)

pub put_hours-requires-clause-ranges : goal.put_hours-requires-clause-ranges
put_hours-requires-clause-ranges c = (none_told (length c.args.buf.now) (fields_in c.args.m.now) (sym (ap (λ w. w.row) c.in_ok-count.ensures))).0

pub put_hours-requires-clause-room : goal.put_hours-requires-clause-room
unfolding form_for
put_hours-requires-clause-room c =
    let told = none_told (length c.args.buf.now) (fields_in c.args.m.now) (sym (ap (λ w. w.row) c.in_ok-count.ensures)) in
    let head = rw (c.new-page.ensures.buffer, c.new-page.ensures.at_first) at c.put_head.ensures.at in
    slots-room form1 (fields_in c.args.m.now) refl c.args.buf.now (lit< tt) told.1 head

pub finish-requires : goal.finish-requires
unfolding form_for
finish-requires c =
    let told = none_told (length c.args.buf.now) (fields_in c.args.m.now) (sym (ap (λ w. w.row) c.in_ok-count.ensures)) in
    let head = rw (c.new-page.ensures.buffer, c.new-page.ensures.at_first) at c.put_head.ensures.at in
    room-last c.put_hours.ensures.at (slots-room form1 (fields_in c.args.m.now) refl c.args.buf.now (lit< tt) told.1 head)

pub returns-clause-buffer : goal.returns-clause-buffer
unfolding form_for
returns-clause-buffer c =
    let told = none_told (length c.args.buf.now) (fields_in c.args.m.now) (sym (ap (λ w. w.row) c.in_ok-count.ensures)) in
    let head = rw (c.new-page.ensures.buffer, c.new-page.ensures.at_first) at c.put_head.ensures.at in
    let end = (owed-given form1 (fields_in c.args.m.now) refl c.args.buf.now told refl head c.put_hours.ensures.at c.finish.ensures).1 in
    search rules

use borrow.Author.Tests.{lt-ltb, le-ltb}
use Rattle.std.proofs.Common.{refl}
use Rattle.rules.specs.Message.{form_for, message_length}
use Rattle.message_writer.proofs.WriteLaws.{number-4, number-5, number-14, number-0}
use Rattle.message_writer.proofs.judged.Goals as goal

pub returns-then-bad_map : goal.returns-then-bad_map
returns-then-bad_map c = number-4 _ _ c.bad_map.ensures refl c.if-bad_map.true

pub returns-then-bad_fields : goal.returns-then-bad_fields
returns-then-bad_fields c = number-5 _ _ c.bad_map.ensures c.bad_fields.ensures c.if-bad_map.false c.if-bad_fields.true

pub returns-then-room-count : goal.returns-then-room-count
unfolding form_for message_length
returns-then-room-count c =
    number-14 _ _ c.bad_map.ensures c.bad_fields.ensures c.length_for-count.ensures c.if-bad_map.false c.if-bad_fields.false (lt-ltb _ _ c.if-room-count.true)

pub returns : goal.returns
unfolding form_for message_length
returns c = number-0 _ _ c.bad_map.ensures c.bad_fields.ensures c.length_for-count.ensures c.if-bad_map.false c.if-bad_fields.false (le-ltb _ _ c.if-room-count.false)

-- The bits up to the end of the last slot are there, and fewer than eight follow.
use Rattle.std.proofs.Common.{arith}
use Rattle.rules.specs.Message.{form1}
use Rattle.message.proofs.FormLaws.{ends-in}
use Rattle.message_reader.proofs.head.Head.bad_filling.Goals as goal

pub overflow_mul-self : goal.overflow_mul-self
overflow_mul-self c =
    let room = ends-in form1 _ _ c.requires c.slots_end-end.ensures.value in
    omega (arith, room, c.slots_end-end.ensures.most)

pub overflow_sub-self : goal.overflow_sub-self
overflow_sub-self c = (ends-in form1 _ _ c.requires c.slots_end-end.ensures.value).0

pub slot_at-requires-clause-in_four : goal.slot_at-requires-clause-in_four
slot_at-requires-clause-in_four c =
    let room = ends-in form1 _ _ c.requires c.slots_end-end.ensures.value in
    omega (arith, room)

pub slot_at-requires-clause-there : goal.slot_at-requires-clause-there
slot_at-requires-clause-there c =
    let room = ends-in form1 _ _ c.requires c.slots_end-end.ensures.value in
    omega (arith, room)

-- A right form has the bits of every field, and each is judged as it is read.
use Rattle.std.proofs.Common.{refl, sym}
use Rattle.rules.specs.Message.{form1, form_of}
use Rattle.message_reader.proofs.ReadLaws.{to_fill, whole-read}
use Rattle.message_reader.proofs.SlotLaws.{fields_told}
use Rattle.message_reader.proofs.said.Goals as goal

pub fill_by_kind-hours_out-requires : goal.fill_by_kind-hours_out-requires
unfolding form_of
fill_by_kind-hours_out-requires c = to_fill _ form1 refl _ c.put.ensures c.requires

pub returns-clause-fields : goal.returns-clause-fields
unfolding form_of
returns-clause-fields c = rw c.fill_by_kind-hours_out.ensures.filled (whole-read _ form1 refl _ c.put.ensures c.requires)

pub returns-clause-judged : goal.returns-clause-judged
unfolding form_of
returns-clause-judged c = sym (fields_told form1 _ refl _ c.put.ensures _ _ c.bad_key-key_out.ensures c.fill_by_kind-hours_out.ensures.judged)

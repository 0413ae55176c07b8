-- What is taken one after the other is what the rules read.
use Rattle.std.proofs.Common.{arith, refl, ◌∙◌}
use Rattle.rules.specs.Message.{form1, form_of}
use Rattle.rules.proofs.BitLaws.{bits_of-under, field_lt}
use Rattle.message_cursor.specs.Taking.{taken}
use Rattle.message_cursor.proofs.ReadLaws.{none-taken, step, taken-read}
use Rattle.message_cursor.proofs.fieldwise.fields_of.Goals as goal

pub take_hours-requires-clause-map : goal.take_hours-requires-clause-map
take_hours-requires-clause-map c = rw c.take-map.ensures.value (field_lt _ 25 (bits_of-under _))

pub returns : goal.returns
unfolding form_of
returns c =
    let form = step c.args.s c.over-reader.result c.take-form.new.self 4 c.over-reader.ensures.over c.take-form.ensures.value c.take-form.ensures.same c.take-form.ensures.moved in
    let kind = step c.args.s c.take-form.new.self c.take-kind.new.self 2 form.1 c.take-kind.ensures.value c.take-kind.ensures.same c.take-kind.ensures.moved in
    let mark = step c.args.s c.take-kind.new.self c.take-mark.new.self 1 kind.1 c.take-mark.ensures.value c.take-mark.ensures.same c.take-mark.ensures.moved in
    let unit = step c.args.s c.take-mark.new.self c.take-unit.new.self 16 mark.1 c.take-unit.ensures.value c.take-unit.ensures.same c.take-unit.ensures.moved in
    let contract = step c.args.s c.take-unit.new.self c.take-contract.new.self 16 unit.1 c.take-contract.ensures.value c.take-contract.ensures.same c.take-contract.ensures.moved in
    let map = step c.args.s c.take-contract.new.self c.take-map.new.self 25 contract.1 c.take-map.ensures.value c.take-map.ensures.same c.take-map.ensures.moved in
    c.take_hours.ensures.others
    ∙ taken-read c.args.s.now form1 refl (omega arith) (omega arith)
    (taken (rw c.over-reader.ensures.at_first at form.0) kind.0 mark.0 unit.0 contract.0 map.0 (none-taken _ _ (omega (arith, map.0.1))) (rw map.1 at c.take_hours.ensures.taken))

use Rattle.std.proofs.Common.{refl}
use Rattle.message_reader.proofs.ReadLaws.{form-wrong, form-filled, form-offer}
use Rattle.message_reader.proofs.head.Head.bad_form.Goals as goal

pub returns-then-wrong : goal.returns-then-wrong
returns-then-wrong c = form-wrong _ c.args.self.long c.field-kind.ensures c.field-map.ensures c.field.ensures c.length_for.ensures refl c.if-wrong.true

pub returns-then-kind-eq1 : goal.returns-then-kind-eq1
returns-then-kind-eq1 c =
    form-filled _ c.args.self.long c.field-kind.ensures c.field-map.ensures c.field.ensures c.length_for.ensures refl c.if-wrong.false c.if-kind-eq1.true c.bad_filling.ensures

pub returns-else-kind-eq1 : goal.returns-else-kind-eq1
returns-else-kind-eq1 c =
    form-offer _ c.args.self.long c.field-kind.ensures c.field-map.ensures c.field.ensures c.length_for.ensures refl c.if-wrong.false c.if-kind-eq1.false

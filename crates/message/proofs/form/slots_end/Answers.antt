use native.Mathlib.Omega.{arith}
use Rattle.message.proofs.FormLaws.{named-hours, slots-most}
use Rattle.message.proofs.form.slots_end.Goals as goal

pub returns-clause-value : goal.returns-clause-value
returns-clause-value c = rw (named-hours, c.slot_width.ensures.value)

pub returns-clause-most : goal.returns-clause-most
returns-clause-most c = rw (named-hours, c.slot_width.ensures.value) (omega (arith, slots-most 17 c.args.execution c.args.map))

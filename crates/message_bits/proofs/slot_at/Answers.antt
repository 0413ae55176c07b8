-- `message_bits::slot_at` meets its contract: the four bytes up to the field's end hold it.
use mathlib.Core.Path.{◌∙◌}
use native.Mathlib.Omega.{arith}
use Rattle.rules.proofs.ListLaws.{Under, all_of}
use Rattle.message_bits.proofs.WordLaws.{slot_read}
use Rattle.message_bits.proofs.slot_at.Goals as goal

pub returns-clause-value : goal.returns-clause-value
returns-clause-value c =
    let u : Under 256 c.args.s.now = all_of 0 _ (λ i l. (c.type_inv.s i).fits) in
    c.part.ensures.value ∙ (rw (c.from-word.ensures, c.four_at.ensures) (slot_read _ _ _ _ u (omega arith) (rw c.four_at.ensures at c.four_at.type_inv) (omega arith) (omega arith)))

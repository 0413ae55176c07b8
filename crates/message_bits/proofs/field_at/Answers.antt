-- `message_bits::field_at` meets its contract: the five bytes from the first bit's byte on hold the field.
use Rattle.std.proofs.Common.{◌∙◌}
use Rattle.rules.proofs.ListLaws.{Under, all_of}
use Rattle.message_bits.proofs.WordLaws.{field-read}
use Rattle.message_bits.proofs.field_at.Goals as goal

pub returns-clause-value : goal.returns-clause-value
returns-clause-value c =
    let u : Under 256 c.args.s.now = all_of 0 _ (λ i l. (c.type_inv.s i).fits) in
    c.part.ensures.value ∙ (rw (c.from.ensures, c.from-last.ensures, c.word_at.ensures, c.byte_at.ensures) (field-read _ _ u c.requires.width c.requires.there))

-- `message_bits::bits_at` meets its contract: a field is that of its bits that are there.
use Rattle.std.proofs.Common.{sym}
use Rattle.message_bits.proofs.WordLaws.{field-there, field-none}
use Rattle.message_bits.proofs.bits_at.Goals as goal

pub returns-in-0 : goal.returns-in-0
returns-in-0 c = sym (rw (field-there c.args.at, ← c.there_at.ensures, c.in-0.is) (field-none _ _))

pub returns-in_default : goal.returns-in_default
returns-in_default c = rw (field-there c.args.at, ← c.there_at.ensures) c.field_at.ensures.value

-- `message_bits::part` meets its contract: a mask of ones leaves a remainder.
use Rattle.std.proofs.Common.{arith, refl}
use lib.Bits.{and_mask}
use Rattle.message_bits.proofs.WordLaws.{shifted_one}
use Rattle.message_bits.proofs.part.Goals as goal

pub returns-clause-value : goal.returns-clause-value
returns-clause-value c = rw (shifted_one 64 c.args.width (omega arith), and_mask) refl

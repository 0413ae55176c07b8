-- `message_bits::has_at` meets its contract: the bytes up to the last bit's are there exactly when the bit is.
use Rattle.std.proofs.Common.{arith}
use Rattle.std.proofs.lemmas.Bool.Decides.{nat_tests}
use Rattle.rules.proofs.BitLaws.{length-bits_of}
use Rattle.message_bits.proofs.has_at.Goals as goal

pub returns : goal.returns
returns c = rw length-bits_of (grind (arith, nat_tests))

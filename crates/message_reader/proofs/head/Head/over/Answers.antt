use Rattle.std.proofs.Common.{arith}
use Rattle.rules.proofs.ListLaws.{Under, all_of}
use Rattle.rules.proofs.BitLaws.{word}
use Rattle.message_bits.proofs.WordLaws.{head_read}
use Rattle.message_reader.proofs.head.Head.over.Goals as goal

pub invariant_of-result : goal.invariant_of-result
unfolding word
invariant_of-result c =
    let u : Under 256 c.args.bytes.now = all_of 0 _ (λ i l. (c.type_inv.bytes i).fits) in
    record { long = c.in-len8-up.len_at_least; whole = head_read u c.in-len8-up.len_at_least c.from_be_bytes.type_inv (omega (arith, c.from_be_bytes.ensures)) }

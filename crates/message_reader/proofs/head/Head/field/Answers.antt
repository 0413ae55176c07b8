use Rattle.std.proofs.Common.{◌+◌, ◌-◌, arith}
use Rattle.message_bits.proofs.WordLaws.{head-part}
use Rattle.message_reader.proofs.head.Head.field.Goals as goal

pub returns : goal.returns
returns c = head-part c.args.at c.args.width (64 - (c.args.at + c.args.width)) _ c.args.self.long (omega arith) c.args.self.whole c.part.ensures.value

use Rattle.std.proofs.Common.{Ok, Err, ◌∙◌}
use Rattle.message.proofs.OutcomeLaws.{reading-same}
use Rattle.message_reader.proofs.read.Goals as goal

pub returns-in_default : goal.returns-in_default
returns-in_default c = reading-same (Ok c.read_into.new.m) _ c.in_default.ensures.outcome c.in_default.ensures.reserved

pub returns-in-Err : goal.returns-in-Err
returns-in-Err c = c.from-reading.ensures ∙ reading-same (Err c.in-Err.row) _ c.in-Err.ensures.outcome tt

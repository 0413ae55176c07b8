use Rattle.query.proofs.ReplyLaws.{out-refused, out-shown}
use Rattle.query.proofs.reply.Goals as goal

pub returns-in-Ok : goal.returns-in-Ok
returns-in-Ok g c = out-shown _ _ _ c.judge.ensures.judges c.in-Ok.found _ c.in-Ok.is c.show.ensures

pub returns-in-Err : goal.returns-in-Err
returns-in-Err g c = rw c.from.ensures (out-refused _ _ _ c.judge.ensures.judges c.in-Err.row c.in-Err.is)

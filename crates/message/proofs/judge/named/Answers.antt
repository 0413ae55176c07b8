use Rattle.message.proofs.JudgeLaws.{named-is}
use Rattle.message.proofs.judge.named.Goals as goal

pub returns : goal.returns
returns c = named-is _ _ c.requires.first c.requires.last

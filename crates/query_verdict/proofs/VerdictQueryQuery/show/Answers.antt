use Rattle.query_verdict.proofs.VerdictLaws.{verdict-shown}
use Rattle.query_verdict.proofs.VerdictQueryQuery.show.Goals as goal

pub returns : goal.returns
returns c = rw c.response_of.ensures (verdict-shown _ _ _ c.requires)

use Rattle.query.proofs.ReplyLaws.{judged-alike}
use Rattle.query_balance.proofs.RowLaws.{balance-rows}
use Rattle.query_balance.proofs.BalanceQueryQuery.judge.Goals as goal

pub returns-clause-judges : goal.returns-clause-judges
returns-clause-judges c = judged-alike _ _ _ _ (balance-rows c.args.self.balance _ _) c.judge_border.ensures.judges

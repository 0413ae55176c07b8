use Rattle.query_balance.proofs.FlowLaws.{balance-shown}
use Rattle.query_balance.proofs.BalanceQueryQuery.show.Goals as goal

pub returns : goal.returns
returns c = rw (c.net.ensures, c.among.ensures) (λ b sound e. balance-shown _ b e _ _ _ c.requires c.args.self.balance)

use Rattle.std.proofs.Common.{◌∙◌}
use Rattle.close_judge.proofs.CountLaws.{none-accepted}
use Rattle.close_order.proofs.Closing.put_accepted.Goals as goal

pub returns-then-not-self-p-clause-accepted : goal.returns-then-not-self-p-clause-accepted
returns-then-not-self-p-clause-accepted c =
    let x = c.args.self.now in
    c.clear.ensures ∙ none-accepted c.args.p x.verdicts x.standing.holders.items x.used x.marked c.if-not-self-p.true

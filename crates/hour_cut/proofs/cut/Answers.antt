use Rattle.std.proofs.Common.{arith, rules, ◌≡◌, ◌∙◌, ap, sym}
use Rattle.rules.specs.Executions.{less_each, cut_all}
use Rattle.rules.proofs.ListLaws.{all_map}
use Rattle.rules.proofs.CrossingLaws.{at-le}
use Rattle.rules.proofs.ElementLaws.{all-every, all-unmapped}
use Rattle.hour_offers.specs.View.{holder_in, execution_in, executions_in}
use Rattle.hour_cut.proofs.CutLaws.{given, published-said, uncut-said, unchanged, lowered, lowered-in-range}
use Rattle.hour_cut.proofs.cut.Goals as goal

pub deductions-lost-requires-clause-ranged : goal.deductions-lost-requires-clause-ranged
deductions-lost-requires-clause-ranged c =
    all_map (λ x r a h. let e : a ≡ given x = search rules in rw e (omega (arith, at-le (holder_in x.holder) x.energy, r.energy))) (all-unmapped execution_in c.args.executions.now c.requires.in_range)

pub returns-then-not-passed-clause-cut : goal.returns-then-not-passed-clause-cut
returns-then-not-passed-clause-cut c os km kx k =
    uncut-said c.args.executions.now os c.args.capacities.now c.args.market.now c.args.before.now c.together-both.result c.excesses-over.result km kx c.together-both.ensures c.excesses-over.ensures.by_index
    (sym c.passed.ensures ∙ c.if-not-passed.true) k

pub returns-then-not-passed-clause-lowered : goal.returns-then-not-passed-clause-lowered
returns-then-not-passed-clause-lowered c = unchanged (executions_in c.args.executions.now)

pub execution_flows-requires-clause-in_range : goal.execution_flows-requires-clause-in_range
execution_flows-requires-clause-in_range c =
    rw c.reduce.ensures (lowered-in-range (lowered c.deref.result.now (executions_in c.args.executions.now)) c.requires.in_range)

pub returns-clause-cut : goal.returns-clause-cut
unfolding cut_all
returns-clause-cut c os km kx k =
    let xs = c.args.executions.now in
    c.reduce.ensures
    ∙ ap (λ ks. less_each ks (executions_in xs))
    (c.deref.ensures.0
    ∙ c.deductions-lost.ensures.value given (all-every (λ x a h. search rules) xs)
    ∙ published-said xs os c.args.capacities.now c.args.market.now c.args.before.now c.together-both.result c.excesses-over.result km kx c.together-both.ensures c.excesses-over.ensures.by_index k)

pub returns-clause-lowered : goal.returns-clause-lowered
returns-clause-lowered c = rw c.reduce.ensures (lowered c.deref.result.now (executions_in c.args.executions.now))

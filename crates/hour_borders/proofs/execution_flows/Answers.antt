use Rattle.std.proofs.Common.{arith, rules, refl, ◌∙◌, ap, true}
use Rattle.rules.specs.Borders.{flow, Execution as RuleExecution}
use Rattle.rules.proofs.ListLaws.{all_map}
use Rattle.rules.proofs.CrossingLaws.{at-le}
use Rattle.rules.proofs.ElementLaws.{all-every, all-unmapped}
use Rattle.hour_offers.specs.declared.Execution.{Execution}
use Rattle.hour_offers.specs.View.{holder_in, execution_in, executions_in}
use Rattle.hour_share.specs.declared.Amount.{Amount}
use Rattle.rules.specs.Units.{direction}
use Rattle.hour_borders.specs.Flows.{amount_of}
use Rattle.hour_borders.proofs.DirectionLaws.{own-small}
use Rattle.hour_borders.proofs.FlowLaws.{all-counted, flow-said, keep-all}
use Rattle.hour_borders.proofs.execution_flows.Goals as goal

-- what the closure gives
abbrev given : Execution → Amount
given x = amount_of x.holder x.energy

pub flows-requires-clause-countable : goal.flows-requires-clause-countable
flows-requires-clause-countable c =
    all-counted given (λ x a h. search rules) (all_map (λ x r. record { direction = own-small x.holder.border x.holder.purchase; energy = omega (arith, at-le (holder_in x.holder) x.energy, r.energy) }) (all-unmapped execution_in c.args.executions.now c.requires.in_range))

pub returns-clause-flows : goal.returns-clause-flows
returns-clause-flows c b e above below =
    let xs = c.args.executions.now in
    c.flows.ensures.sums given (all-every (λ x a h. search rules) xs) (direction b e)
    ∙ flow-said given execution_in (λ x. x.holder) (λ x. x.energy) (λ x. true) (λ x. refl) (λ x. refl) b e above below xs
    ∙ ap (λ ys. flow (λ (x : RuleExecution). x.holder) (λ x. x.energy) b e ys) (keep-all (executions_in xs))

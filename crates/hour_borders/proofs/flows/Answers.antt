use Rattle.std.proofs.Common.{arith, ap, get_or, ◌+◌, refl, ◌≡◌, ◌∙◌, length-set}
use Rattle.std.specs.Fn.{FnReturnsAt}
use Rattle.rules.specs.Lists.{All}
use Rattle.rules.specs.Units.{max_energy}
use Rattle.rules.proofs.ListLaws.{all-at}
use Rattle.hour_share.specs.declared.Amount.{Amount}
use Rattle.hour_share.specs.Deductions.{energy_in}
use Rattle.hour_borders.specs.Flows.{Countable}
use Rattle.hour_borders.proofs.FlowLaws.{flow-next, flow-skip, left-next, left-end, more-small}
use Rattle.hour_borders.proofs.flows.Given.{Over}
use Rattle.hour_borders.proofs.flows.Goals as goal
use Rattle.hour_borders.proofs.flows.Goals.{After-of-a, in-Some, in_default}

module _ (g : Over) (c : After-of-a g) where
  -- what the closure gave is the holder's amount,
  said : (amount : g.row.T.Denot → Amount) → All (λ x. (a : Amount) → FnReturnsAt g.F.Fn c.args.of x a → a ≡ amount x) c.args.holders.now → c.of-a.result ≡ amount c.x-item.result
  said amount k =
      (rw (← c.x-item.is) at (all-at c.loop-x.x-index c.x-item.result k (omega arith))) c.of-a.result (record { shown = _; shows = refl; says = record { met = c.of-a.ensures } })

  -- so it can be counted
  counted : Countable c.of-a.result
  counted = (rw (← c.x-item.is) at (all-at c.loop-x.x-index c.x-item.result c.requires.countable (omega arith))) c.of-a.result (record { shown = _; shows = refl; says = record { met = c.of-a.ensures } })

pub offset_bounds-flows-d : goal.offset_bounds-flows-d
offset_bounds-flows-d g c = omega (arith, (counted g c.before).direction c.in-Some.d c.in-Some.is)

pub bounds-flows-d : goal.bounds-flows-d
bounds-flows-d g c = (counted g c.before).direction c.in-Some.d c.in-Some.is

pub overflow_add-flows : goal.overflow_add-flows
overflow_add-flows g c = omega (arith, c.loop-x.invariant.small c.in-Some.d, (counted g c.before.before).energy, c.requires.few)

pub bounds-flows-d-in-Some : goal.bounds-flows-d-in-Some
bounds-flows-d-in-Some g c = (counted g c.before.before).direction c.in-Some.d c.in-Some.is

pub loop-x-preserved : goal.loop-x-preserved
loop-x-preserved g c =
    let l = c.loop-x in
    let a = c.of-a.result in
    let can = counted g c.before in
    elim c.match-a.branch [
      | in-Some w ↦
          let o = w.in-Some.d in
          rw w.flows-is record {
            eight = length-set l.flows o (get_or l.flows o 0 + a.energy) ∙ l.invariant.eight;
            small = more-small l.flows o a.energy max_energy l.x-index l.invariant.small can.energy;
            whole = λ amount k d. omega (
              arith,
              flow-next l.flows a o d w.in-Some.is (omega (arith, can.direction o w.in-Some.is)),
              left-next amount d c.args.holders.now l.x-index c.x-item.result (omega arith) c.x-item.is,
              ap (energy_in d) (said g c.before amount k),
              l.invariant.whole amount k d,
            );
          }
      | in_default w ↦ rw w.flows-is record {
        eight = l.invariant.eight;
        small = λ d. omega (arith, l.invariant.small d);
        whole = λ amount k d. omega (
          arith,
          flow-skip a d w.in_default.is,
          left-next amount d c.args.holders.now l.x-index c.x-item.result (omega arith) c.x-item.is,
          ap (energy_in d) (said g c.before amount k),
          l.invariant.whole amount k d,
        );
      }
    ]

pub returns-clause-sums : goal.returns-clause-sums
returns-clause-sums g c amount k d = omega (arith, c.loop-x.invariant.whole amount k d, left-end amount d c.args.holders.now c.loop-x.x-index (omega arith))

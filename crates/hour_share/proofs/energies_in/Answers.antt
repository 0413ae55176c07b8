use Rattle.std.proofs.Common.{arith, refl, ◌≡◌, add-one}
use lib.Seq.{take-suc}
use mathlib.Core.List.{map-append}
use Rattle.rules.proofs.ListLaws.{all-at}
use Rattle.hour_share.specs.Deductions.{AmountInRange}
use Rattle.hour_share.proofs.Laws.{ranged-last, energy-ranged}
use Rattle.hour_share.proofs.energies_in.Goals as goal

pub loop-x-preserved : goal.loop-x-preserved
loop-x-preserved g c =
    let i = c.loop-x.x-index in
    let holders = c.args.holders.now in
    let x = c.x-item.result in
    let within : AmountInRange c.of.result =
    (rw (← c.x-item.is) at (all-at i x c.requires.ranged (omega arith))) c.of.result (record { shown = _; shows = refl; says = record { met = c.of.ensures } }) in
    record {
      count = omega (arith, c.push.ensures.len);
      ranged = rw (c.push.ensures.items, c.energy_in.ensures) (ranged-last c.loop-x.energies.items _ c.loop-x.invariant.ranged (energy-ranged c.args.d c.of.result within));
      said = λ amount k.
          let said : c.of.result ≡ amount x =
          (rw (← c.x-item.is) at (all-at i x k (omega arith))) c.of.result (record { shown = _; shows = refl; says = record { met = c.of.ensures } }) in
          rw (c.push.ensures.items, c.energy_in.ensures, c.loop-x.invariant.said amount k, add-one i, take-suc holders i x (omega arith), map-append, map-append, ← c.x-item.is, said);
    }

use Rattle.std.proofs.Common.{arith, refl, sym, ◌≡◌, map, take, add-one}
use lib.Seq.{take-suc}
use mathlib.Core.List.{map-append}
use Rattle.std.proofs.lemmas.List.Sums.{sum_by_push}
use Rattle.rules.proofs.ListLaws.{all-at}
use Rattle.clear_store.specs.Slots.{energy_of}
use Rattle.clear_store.proofs.portions.Slots.of.Goals as goal

pub add-requires-clause-ranged : goal.add-requires-clause-ranged
add-requires-clause-ranged g c =
    let i = c.loop-x.x-index in
    let x = c.x-item.result in
    (rw (← c.x-item.is) at (all-at i x c.requires.ranged (omega arith))) c.of.result (record { shown = _; shows = refl; says = record { met = c.of.ensures } })

pub loop-x-preserved : goal.loop-x-preserved
loop-x-preserved g c =
    let i = c.loop-x.x-index in
    let holders = c.args.holders.now in
    let x = c.x-item.result in
    record {
      kept = c.add.ensures.kept_after i c.loop-x.invariant.kept;
      said = λ f k u.
          let said : c.of.result ≡ f x =
          (rw (← c.x-item.is) at (all-at i x k (omega arith))) c.of.result (record { shown = _; shows = refl; says = record { met = c.of.ensures } }) in
          rw (c.add.ensures.sums u, c.loop-x.invariant.said f k u, add-one i, take-suc holders i x (omega arith), map-append, ← c.x-item.is, said)
          (sym (sum_by_push (energy_of u) (map f (take i holders)) (f x)));
    }

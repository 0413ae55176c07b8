use Rattle.std.proofs.Common.{◌≡◌, List, ℕ, ◌+◌, ◌-◌, ◌*◌, ◌≤◌, min, map, refl, arith, ap, ◌∙◌, length, get_or}
use Rattle.std.proofs.lemmas.List.{length-replicate}
use Rattle.rules.specs.Lists.{add_each, sum}
use Rattle.rules.specs.Share.{share}
use Rattle.rules.specs.Units.{max_energy}
use Rattle.rules.proofs.ShareLaws.{share-length}
use Rattle.hour_share.specs.Deductions.{deductions_from}
use Rattle.hour_share.proofs.Laws.{zeros-of, zeros-map, refilled, sums-small, sums-length, lost-ranged, lost-said, deductions-start, deductions-more, deductions-same}
use Rattle.hour_share.proofs.deductions.Goals as goal

pub loop-d-init : goal.loop-d-init
loop-d-init g c =
    let hs = c.args.holders.now in
    let e = c.nothing-sums.ensures in
    record {
      last = omega arith;
      same_length = ap length e ∙ length-replicate (length hs) 0;
      room = rw e (zeros-of (length hs));
      added = λ amount k. e ∙ zeros-map amount hs ∙ deductions-start c.args.over.now (map amount hs) 8 (omega arith);
    }

pub loop-d-preserved-then-over-d-gt0 : goal.loop-d-preserved-then-over-d-gt0
loop-d-preserved-then-over-d-gt0 g c =
    let l = c.loop-d in
    let over = c.args.over.now in
    let v = l.d - 1 in
    let es = c.energies_in-energies.result.items in
    let lost = share (min (get_or over v 0) (sum es)) es in
    let next : l.d ≡ v + 1 = omega arith in
    let added : c.add_share.new.deductions ≡ add_each lost l.sums.items = rw (c.add_share.ensures, c.deref.ensures.0, c.deref_mut.ensures.value) in
    let even : length lost ≡ length l.sums.items = omega (arith, share-length (min (get_or over v 0) (sum es)) es (omega arith), c.energies_in-energies.ensures.same_length, l.invariant.same_length) in
    let e : length c.add_share.new.deductions ≡ length l.sums.items = ap length added ∙ sums-length lost l.sums.items even in
    let room : (i : ℕ) → get_or c.add_share.new.deductions i 0 ≤ (8 - v) * max_energy =
    λ i. omega (
      arith,
      ap (λ (s : List ℕ). get_or s i 0) added,
      sums-small ((8 - l.d) * max_energy) lost l.sums.items (lost-ranged (min (get_or over v 0) (sum es)) es (omega arith) c.energies_in-energies.ensures.ranged_after) l.invariant.room i,
    ) in
    rw (refilled l.sums.items c.add_share.new.deductions e) record {
      last = omega arith;
      same_length = e ∙ l.invariant.same_length;
      room = room;
      added = λ amount k.
          let ams = map amount c.args.holders.now in
          deductions-more over ams v l.sums.items (omega arith) c.if-over-d-gt0.true (lost-said (get_or over v 0) v ams (c.energies_in-energies.ensures.value amount k) refl)
          (l.invariant.added amount k ∙ ap (deductions_from over ams) next) added;
    }

pub loop-d-preserved : goal.loop-d-preserved
loop-d-preserved g c =
    let l = c.loop-d in
    let over = c.args.over.now in
    let next : l.d ≡ l.d - 1 + 1 = omega arith in
    record {
      last = omega arith;
      same_length = l.invariant.same_length;
      room = λ i. omega (arith, l.invariant.room i);
      added = λ amount k.
          let ams = map amount c.args.holders.now in
          l.invariant.added amount k ∙ ap (deductions_from over ams) next ∙ deductions-same over ams (l.d - 1) (omega arith) c.if-over-d-gt0.false;
    }

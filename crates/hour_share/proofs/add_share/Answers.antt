use Rattle.std.proofs.Common.{◌≡◌, ◌≤◌, ◌*◌, min, arith, ◌∙◌, ap, map, get_or}
use Rattle.rules.specs.Share.{pro_rata}
use Rattle.rules.specs.Lists.{sum}
use Rattle.rules.specs.Units.{max_energy}
use Rattle.rules.proofs.ShareLaws.{floors-le}
use Rattle.hour_share.proofs.Laws.{floors-ranged, share-said, unshared, sums-small, add-comm}
use Rattle.hour_share.proofs.add_share.Goals as goal

pub overflow_sub-r : goal.overflow_sub-r
overflow_sub-r c =
    rw c.add_floors-floored.ensures.floored (floors-le c.min-r.result c.total-g.result c.args.amounts.now (omega (arith, c.min-r.ensures)) (omega (arith, c.total-g.ensures)))

pub hand_out-requires-clause-room : goal.hand_out-requires-clause-room
hand_out-requires-clause-room c i =
    let ms = c.args.amounts.now in
    let ds = c.args.deductions.now in
    let fs = map (pro_rata c.min-r.result c.total-g.result) ms in
    let w : c.min-r.result ≤ c.total-g.result = omega (arith, c.min-r.ensures) in
    omega (
      arith,
      ap (λ l. get_or l i 0) (c.add_floors-floored.ensures.added ∙ add-comm ds fs),
      sums-small (8 * max_energy) fs ds (floors-ranged c.min-r.result c.total-g.result ms w c.requires.ranged) c.requires.room i,
    )

pub returns-then-r-eq0 : goal.returns-then-r-eq0
returns-then-r-eq0 c = unshared (min c.args.excess (sum c.args.amounts.now)) c.args.amounts.now c.args.deductions.now (omega (arith, c.min-r.ensures, c.total-g.ensures, c.if-r-eq0.true)) c.requires.same_length

pub returns : goal.returns
returns c =
    let ms = c.args.amounts.now in
    let r : c.min-r.result ≡ min c.args.excess (sum ms) = omega (arith, c.min-r.ensures, c.total-g.ensures) in
    rw (← r) (share-said c.min-r.result ms c.args.deductions.now c.total-g.ensures c.add_floors-floored.ensures.floored c.add_floors-floored.ensures.added c.hand_out.ensures)

use Rattle.std.proofs.Common.{◌∙◌, rules, ◌≡◌, get_or, length, arith, refl, ◌<◌, Some, None}
use Rattle.close_judge.proofs.StandingLaws.{holder-index, holder-inside}
use Rattle.close_order.proofs.PassLaws.{owns, energies-full, next-past, next-absent, next-admitted, next-refused, put-back}
use Rattle.close_order.proofs.Closing.step.Goals as goal

pub returns-then-not-takes-clause-closing_at : goal.returns-then-not-takes-clause-closing_at
returns-then-not-takes-clause-closing_at c =
    let x = c.args.self.now in
    next-past x.standing.session.now _ c.args.at x.verdicts x.room.items c.requires c.takes.result c.takes.ensures c.if-not-takes.true

pub returns-in_default-clause-closing_at : goal.returns-in_default-clause-closing_at
returns-in_default-clause-closing_at c =
    let x = c.args.self.now in
    let e : get_or c.deref.result.now c.args.at None ≡ None = search rules in
    next-absent x.standing.session.now _ c.args.at x.verdicts x.room.items c.requires x.standing.holders.items x.standing.units (rw c.deref.ensures.0 at e)

pub returns-then-admits-clause-closing_at : goal.returns-then-admits-clause-closing_at
returns-then-admits-clause-closing_at c =
    let x = c.args.self.now in
    let s = x.standing.session.now in
    let e : get_or x.standing.holders.items c.args.at None ≡ Some c.in-Some.p = rw c.deref.ensures.0 at c.in-Some.is in
    let inside : c.in-Some.p < length x.room.items = omega (arith, holder-inside s x.standing.holders.items x.standing.units c.args.at c.in-Some.p e, x.rows) in
    let long : c.args.at < length x.verdicts = omega (arith, x.standing.within.standing) in
    let o = owns s c.args.at x.standing.energies.now _ x.standing.loads refl c.requires (omega arith) in
    rw (c.give.ensures.verdicts, c.give.ensures.room, c.deref_mut.ensures.value, put-back x.room.items c.in-Some.p c.admits.new.row)
    (next-admitted s _ c.args.at x.verdicts x.room.items c.requires c.takes.result c.takes.ensures c.if-not-takes.false long x.standing.within (energies-full s x.standing.energies.now x.standing.loads x.standing.long) _ o c.in-Some.p
    (holder-index s x.standing.holders.items x.standing.units c.args.at c.in-Some.p e) c.accepted.result c.admits.new.row c.admits.result (rw c.deref_mut.ensures.value at c.admits.ensures) c.if-admits.true c.accepted.ensures inside)

pub returns-clause-closing_at : goal.returns-clause-closing_at
returns-clause-closing_at c =
    let x = c.args.self.now in
    let s = x.standing.session.now in
    let e : get_or x.standing.holders.items c.args.at None ≡ Some c.in-Some.p = rw c.deref.ensures.0 at c.in-Some.is in
    let long : c.args.at < length x.verdicts = omega (arith, x.standing.within.standing) in
    let o = owns s c.args.at x.standing.energies.now _ x.standing.loads refl c.requires (omega arith) in
    rw (c.give-2.ensures.verdicts, c.give-2.ensures.room, c.deref_mut.ensures.value, put-back x.room.items c.in-Some.p c.admits.new.row)
    (next-refused s _ c.args.at x.verdicts x.room.items c.requires c.takes.result c.takes.ensures c.if-not-takes.false long x.standing.within (energies-full s x.standing.energies.now x.standing.loads x.standing.long) _ o c.in-Some.p
    (holder-index s x.standing.holders.items x.standing.units c.args.at c.in-Some.p e) c.judge-verdict.result c.admits.new.row c.admits.result (rw c.deref_mut.ensures.value at c.admits.ensures) c.if-admits.false (c.judge-verdict.ensures x.verdicts (c.deref-2.ensures.0 ∙ c.put_accepted.ensures.accepted)))

use Rattle.std.proofs.Common.{◌<◌, ap, sym, ◌∙◌, rules, Some}
use Rattle.hour_borders.proofs.DirectionLaws.{own-abroad, own-none}
use Rattle.hour_borders.proofs.own_direction.Goals as goal

pub returns-then-contains-clause-own : goal.returns-then-contains-clause-own
returns-then-contains-clause-own c =
    let h : 0 < c.args.holder.now.border = search rules in
    let k : c.args.holder.now.border < 5 = search rules in
    ap Some c.direction.ensures.index ∙ sym (own-abroad c.args.holder.now.border c.args.holder.now.purchase h k)

pub returns-else-contains-clause-own : goal.returns-else-contains-clause-own
returns-else-contains-clause-own c = sym (own-none c.args.holder.now.border c.args.holder.now.purchase (λ h k. search rules))

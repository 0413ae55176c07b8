use Rattle.std.proofs.Common.{rules, ◌≡◌, ◌-◌, min, get_or}
use Rattle.close_ceilings.proofs.CeilingLaws.{under-none, under-sum}
use Rattle.close_ceilings.proofs.under_line.Goals as goal

pub returns-in_default : goal.returns-in_default
returns-in_default c = under-none c.args.limit c.args.taken c.args.h c.args.line.now c.in_default.is

pub returns : goal.returns
returns c =
    let a = c.args in
    let e : c.min.result ≡ min a.limit (get_or c.in-Some.sums a.h 0 - a.taken) = search rules in
    under-sum a.limit a.taken a.h a.line.now c.in-Some.sums c.min.result c.in-Some.is e

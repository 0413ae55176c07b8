use Rattle.std.proofs.Common.{rules, ◌≡◌, ◌∙◌, get_or}
use Rattle.close_ceilings.specs.Ceilings.{ceiling_in, line_of}
use Rattle.close_ceilings.proofs.CeilingLaws.{line-as, ceiling-as}
use Rattle.close_ceilings.proofs.ceilings_at.Goals as goal

pub returns : goal.returns
returns c = λ cs losses lent h i.
    let a = c.args in
    let r = c.from_fn.ensures.items.at h 0 i in
    let line = line_of a.lines.now a.unit.now in
    let e : get_or c.from_fn.result h 0 ≡ ceiling_in a.unit.now a.notice.now a.rights.now line h = search rules in
    e ∙ ceiling-as a.unit.now a.notice.now a.rights.now cs losses line h (line-as cs losses a.lines.now a.unit.now _ lent)

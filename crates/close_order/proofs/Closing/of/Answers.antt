use Rattle.std.proofs.Common.{rules, replicate, false}
use Rattle.close_judge.proofs.CountLaws.{used_start}
use Rattle.close_judge.proofs.ClassLaws.{reached-first}
use Rattle.close_judge.proofs.JudgeLaws.{units-full}
use Rattle.session.proofs.ImageLaws.{standing-as}
use Rattle.close_order.proofs.RoomLaws.{closing_at, kept-of}
use Rattle.close_order.proofs.Closing.of.Goals as goal

pub returns-clause-closing_at : goal.returns-clause-closing_at
returns-clause-closing_at c = λ b sound e.
    let s = c.args.session.now in
    closing_at (rw (c.no_verdict.ensures, ← standing-as s b e) (reached-first b)) (kept-of s _ _ c.requires c.no_verdict.ensures (units-full s b e) (c.ceilings_of-room.ensures.ceilings s.capacities s.losses c.lines_of-lines.ensures))

pub invariant_of-result : goal.invariant_of-result
invariant_of-result c = record { marked = used_start c.no_verdict.result c.of-standing.result.holders.items (replicate 64 false) c.no_verdict.ensures; full = search rules; rows = search rules }

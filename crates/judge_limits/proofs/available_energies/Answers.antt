use Rattle.std.proofs.Common.{rules, arith}
use lib.Seq.{ext_get_or}
use Rattle.judge_limits.proofs.available_energies.Goals as goal

pub returns-then-notice : goal.returns-then-notice
returns-then-notice c =
    rw (c.if-notice.true)
    (ext_get_or 0 c.from_fn.result c.args.notice.now.energies (omega (arith, c.from_fn.ensures.items.long))
    (λ i h. let r = c.from_fn.ensures.items.at i 0 (omega (arith, c.from_fn.ensures.items.long)) in search rules))

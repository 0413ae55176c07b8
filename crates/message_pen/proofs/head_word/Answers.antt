use Rattle.std.proofs.Common.{arith, refl, ◌∙◌}
use Rattle.rules.specs.Units.{max_energy}
use Rattle.rules.specs.Message.{form1}
use Rattle.message_pen.proofs.HeadLaws.{bit-of, head-fits, head-word-alone}
use Rattle.message_pen.proofs.head_word.Goals as goal

pub returns-clause-small : goal.returns-clause-small
returns-clause-small c =
    omega (arith, head-fits max_energy _ c.requires.values, (bit-of c.args.m.now.execution).1, (bit-of c.args.m.now.default).1)

pub returns-clause-bits : goal.returns-clause-bits
returns-clause-bits c =
    let x = bit-of c.args.m.now.execution in
    let d = bit-of c.args.m.now.default in
    rw (c.from-3.ensures, c.from-4.ensures)
    (head-word-alone form1 max_energy _ _ _ refl (c.from.ensures ∙ x.0) (c.from-2.ensures ∙ d.0) (rw c.from.ensures x.1) (rw c.from-2.ensures d.1) c.requires.values)

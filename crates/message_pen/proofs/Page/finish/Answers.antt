use Rattle.message_pen.proofs.PenLaws.{last-whole, last-part}
use Rattle.message_pen.proofs.Page.finish.Goals as goal

pub returns-then-left-ne0 : goal.returns-then-left-ne0
returns-then-left-ne0 c = last-part _ c.args.self.pen c.requires.byte c.if-left-ne0.true

pub returns-else-left-ne0 : goal.returns-else-left-ne0
returns-else-left-ne0 c = last-whole _ c.args.self.pen c.if-left-ne0.false

use Rattle.std.proofs.Common.{sym}
use Rattle.rules.specs.Message.{form1, form_of, wrong_form}
use Rattle.message.proofs.FormLaws.{form-short}
use Rattle.message_reader.proofs.right_head.Goals as goal

pub returns-in_err-head : goal.returns-in_err-head
unfolding wrong_form form_of
returns-in_err-head c = rw c.from_residual.ensures (sym (form-short form1 _ c.in_err-head.ensures))

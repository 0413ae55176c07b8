use Rattle.std.proofs.Common.{◌-◌, arith, ap, drop, length, length-drop, ◌∙◌}
use lib.Seq.{take_all}
use Rattle.message_pen.proofs.PenLaws.{stored-copy}
use Rattle.message_pen.proofs.Page.put_bytes.Goals as goal

pub returns-clause-buffer : goal.returns-clause-buffer
returns-clause-buffer c =
    stored-copy _ _ _ _ c.requires.eight c.requires.room
    (c.copy_from_slice.ensures.after ∙ take_all _ (drop (8 - c.args.n) c.to_be_bytes-bytes.result) (simp length-drop (omega (arith, ap length c.to_be_bytes-bytes.ensures))) ∙ ap (drop (8 - c.args.n)) c.to_be_bytes-bytes.ensures)

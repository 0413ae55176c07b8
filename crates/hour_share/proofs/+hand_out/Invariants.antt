use Rattle.hour_share.proofs.+hand_out.Given as goal

abbrev pub decreases-hand_out : goal.decreases-hand_out
decreases-hand_out l = l.left

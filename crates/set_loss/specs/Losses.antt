-- What the code makes of a border's loss.
use Rattle.rules.specs.DayBook as D
use Rattle.set_loss.specs.declared.Loss.{Loss}

-- the call that it stands for
abbrev pub loss_in : Loss → D.Call
loss_in l = D.loss l.border l.loss

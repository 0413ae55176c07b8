use Rattle.rules.specs.Message.{bad_key}
use Rattle.lodge_keys.proofs.bad_key.Goals as goal

pub returns : goal.returns
unfolding bad_key
returns c = c.bad_key.ensures

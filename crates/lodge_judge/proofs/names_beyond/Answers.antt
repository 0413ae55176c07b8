use native.Mathlib.Omega.{arith}
use Prim.Native.Nat.{◌-◌}
use Rattle.message_bits.proofs.WordLaws.{shifted_one}
use Rattle.lodge_judge.proofs.BeyondLaws.{beyond-bits}
use Rattle.lodge_judge.proofs.names_beyond.Goals as goal

pub returns : goal.returns
returns c = rw (shifted_one 32 (25 - c.args.hours) (omega arith)) (beyond-bits _ _ (omega arith))

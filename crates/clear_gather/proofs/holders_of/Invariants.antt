use Rattle.std.proofs.Common.{◌≡◌, map, take}
use Rattle.clear_gather.specs.Built.{holder_of}
use Rattle.clear_gather.proofs.holders_of.Given as goal

abbrev pub invariant-loop-lodgement : goal.invariant-loop-lodgement
invariant-loop-lodgement l = l.holders.items ≡ map (holder_of l.units l.losses) (take l.lodgement-index l.lodgements)

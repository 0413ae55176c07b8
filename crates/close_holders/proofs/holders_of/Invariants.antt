use Rattle.std.proofs.Common.{◌≡◌, map, take}
use Rattle.close_holders.specs.Holders.{holder_of}
use Rattle.close_holders.proofs.holders_of.Given as goal

abbrev pub invariant-loop-lodgement : goal.invariant-loop-lodgement
invariant-loop-lodgement l = l.holders.items ≡ map (holder_of l.units) (take l.lodgement-index l.lodgements)

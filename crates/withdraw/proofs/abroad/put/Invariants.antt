use Rattle.std.proofs.Common.{◌≡◌, drop, length}
use Rattle.withdraw_keep.specs.Abroad.{put_at}
use Rattle.withdraw.proofs.abroad.put.Given as goal

abbrev pub invariant-loop-i : goal.invariant-loop-i
invariant-loop-i l = put_at (drop (length l.yielded) l.places) (drop (length l.yielded) l.abroad) l.offers ≡ put_at l.places l.abroad l.initial.offers

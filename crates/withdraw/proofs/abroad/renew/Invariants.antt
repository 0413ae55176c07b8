use Rattle.std.proofs.Common.{◌≡◌, ◌++◌, take, drop}
use Rattle.hour_offers.specs.View.{offers_in}
use Rattle.hour_match.specs.Walks.{named}
use Rattle.withdraw.proofs.abroad.renew.Given as goal

abbrev pub invariant-loop-k : goal.invariant-loop-k
invariant-loop-k l = offers_in l.abroad ≡ named (offers_in l.offers) (take l.k l.places) ++ drop l.k (offers_in l.initial.abroad)

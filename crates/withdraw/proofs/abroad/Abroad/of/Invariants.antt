use Rattle.std.proofs.Common.{◌≡◌, ◌≤◌, ◌++◌, drop, length}
use Rattle.hour_offers.specs.View.{offers_in}
use Rattle.withdraw_keep.specs.Abroad.{abroad_of, places_from}
use Rattle.withdraw.proofs.abroad.Abroad.of.Given as goal

abbrev pub invariant-loop-i : goal.invariant-loop-i
invariant-loop-i l = record {
  few_places : length l.places.items ≤ l.i;
  few_offers : length l.abroad.items ≤ l.i;
  places : l.places.items ++ places_from l.i (offers_in (drop l.i l.offers)) ≡ places_from 0 (offers_in l.offers);
  offers : offers_in l.abroad.items ++ abroad_of (offers_in (drop l.i l.offers)) ≡ abroad_of (offers_in l.offers);
}

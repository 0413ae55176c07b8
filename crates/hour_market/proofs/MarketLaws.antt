-- The parts of an hour's market together are the rules'.
use Prim.Native.Nat.{ℕ, ◌≤◌, ◌<◌}
use mathlib.Core.Path.{◌≡◌, sym, ◌∙◌, ap}
use mathlib.Core.Bool.{true, false}
use mathlib.Core.List.{List, map}
use native.Mathlib.Omega.{arith}
use lib.Dec.{ltb}
use lib.ListN.{get_or, length, length-map, get_or-eq_default}
use borrow.Author.Tests.{ltb-true, ltb-false}
use Rattle.std.specs.Prelude.{Option, unwrap_or}
use Rattle.rules.proofs.BoolLaws.{by_bool}
use Rattle.rules.specs.Lists.{All, Each}
use Rattle.rules.specs.Units.{max_energy}
use Rattle.rules.specs.Match.{Offer, volume, match_all, hour_price}
use Rattle.rules.specs.Borders.{Execution}
use Rattle.rules.specs.Split.{maximum_of}
use Rattle.rules.specs.Withdrawal.{Withdrawn, withdraw}
use Rattle.rules.specs.Clearing as C
use Rattle.rules.proofs.ListLaws.{all_map}
use Rattle.rules.proofs.ElementLaws.{each-trans}
use Rattle.rules.proofs.MatchLaws.{volume-again}
use Rattle.rules.proofs.WithdrawalLaws.{lowered-trans, match-lowered}
use Rattle.hour_offers.specs.Sound.{Sound, SoundUnmatched}
use Rattle.hour_match.specs.Orders.{in_order, Along}
use Rattle.hour_match.specs.Walks.{Matched}
use Rattle.hour_match.proofs.KeptLaws.{along-unmatched, along-kept, match-unmatched}
use Rattle.hour_borders.specs.Directions.{energies_of, published_in}
use Rattle.hour_borders.specs.Flows.{Small}
use Rattle.withdraw.specs.declared.Ended.{Ended}
use Rattle.withdraw.specs.Steps.{Laid, Lowered}
use Rattle.withdraw.specs.Rounds.{Withdrew}
use Rattle.withdraw.proofs.StepLaws.{lowered-of, lowered-less}
use Rattle.hour_market.specs.Parts.{MarketCleared}

pub offered-small : {os : List Offer} → SoundUnmatched os → All (λ o. o.offered ≤ max_energy) os
offered-small s = all_map (λ o h. h.offered) s.in_range

pub matched-in-range : {os : List Offer} → Sound os → All (λ o. o.matched ≤ max_energy) os
matched-in-range s = all_map (λ o h. h.matched) s.in_range

-- numbers that can be added, at every index
pub small : (cs : List (Option ℕ)) → length cs ≡ 8 → ((d : ℕ) → d < 8 → get_or (energies_of cs) d 0 < 2147483648) → Small (energies_of cs)
unfolding energies_of
small cs l f d =
    by_bool (ltb d 8)
    (λ t. f d (ltb-true d 8 t))
    (λ t. omega (arith, get_or-eq_default (map (λ o. unwrap_or o 0) cs) 0 {n = d} (omega (arith, ltb-false d 8 t, l, length-map cs (λ o. unwrap_or o 0)))))

-- the first match, by orders that are read where they stand
pub first-matched : {os ps : List Offer} {v : ℕ} {sales purchases xs ys : List ℕ} → SoundUnmatched os → xs ≡ sales → sales ≡ in_order false os → ys ≡ purchases → purchases ≡ in_order true os
    → (Along false os xs → Along true os ys → Matched os ps v) → Matched os ps v
first-matched s d e f g h = h (along-unmatched s (d ∙ e)) (along-unmatched s (f ∙ g))

-- the offers after the first match
module _ {os ps : List Offer} {v : ℕ} (s : SoundUnmatched os) (m : Matched os ps v) where
  pub first-sound : Sound ps
  first-sound = rw m.offers (match-unmatched os s)

  pub first-traded : v ≡ volume ps
  first-traded = rw (m.offers, volume-again os) m.traded

  pub first-laid : {sales purchases : List ℕ} → sales ≡ in_order false os → purchases ≡ in_order true os → Laid ps sales purchases
  first-laid a b = record {
    sound = first-sound;
    within = m.within;
    rising = rw m.offers ((along-kept (match-lowered os) {side = false} (along-unmatched s a)).order);
    falling = rw m.offers ((along-kept (match-lowered os) {side = true} (along-unmatched s b)).order);
  }

-- holders and prices stay, and no offer offers more, from the first match on
pub market-lowered : {os ps qs : List Offer} {v : ℕ} → Matched os ps v → Each Lowered ps qs → Each Lowered os qs
market-lowered {os} m l = lowered-of (each-trans lowered-trans (match-lowered os) (rw m.offers at (lowered-less l)))

-- the withdrawal is the rules', and so is the market's part
module _ {os ps qs : List Offer} {v : ℕ} (m : Matched os ps v) (capacities maxima : List (Option ℕ)) (xs : List Execution) {sales purchases : List ℕ} {r : Ended}
    (split : published_in maxima ≡ map (maximum_of ps xs) (published_in capacities))
    (ended : Withdrew (published_in maxima) sales purchases ps qs r) where
  withdrawn : withdraw (map (maximum_of (match_all os) xs) (published_in capacities)) (match_all os) ≡ record { offers = qs; steps = r.steps }
  withdrawn = rw (← m.offers, ← split) ended.done

  pub market-said : (f : List ℕ) {p : ℕ} → p ≡ hour_price qs
      → MarketCleared os capacities xs qs (record { maxima = maxima; flows = f; steps = r.steps; price = p })
  unfolding C.clear_hour
  market-said f q = record {
    offers = ap (λ w. w.offers) withdrawn;
    maxima = rw (← m.offers) (sym split);
    steps = ap (λ w. w.steps) withdrawn;
    price = ap (λ (w : Withdrawn). hour_price w.offers) withdrawn ∙ sym q;
  }

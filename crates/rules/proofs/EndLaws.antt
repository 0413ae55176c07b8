-- The withdrawal steps end: each takes at least one tenth of MWh from what is offered, and at the end no balance passes its maximum.
use Prim.Native.Nat.{ℕ, zero, suc, ◌+◌, ◌≤◌, ◌<◌}
use mathlib.Core.Path.{◌≡◌, refl, ap}
use mathlib.Core.Bool.{Bool, not}
use mathlib.Core.List.{List, [], ◌∷◌, map}
use native.Mathlib.Omega.{arith}
use native.Mathlib.Nat.{le_refl}
use lib.Dec.{ltb}
use lib.IntN.{pos}
use lib.Signed.{◌≤ℤ◌}
use borrow.Author.Tests.{ltb-true, ltb-false}
use Rattle.rules.specs.Lists.{All, none, more, keep, sum, sum_of}
use Rattle.rules.specs.Match.{Offer, with_energies, volume, match_all}
use Rattle.rules.specs.Borders.{Directed, runs, at_border, flow, market_balance, toward}
use Rattle.rules.specs.Withdrawal.{excess_of, overruns, keep_matched, group_of, take_from, step, Withdrawn, repeat, step_bound, withdraw}
use Rattle.rules.proofs.BoolLaws.{by_bool}
use Rattle.rules.proofs.ListLaws.{all_map}
use Rattle.rules.proofs.ElementLaws.{some-all, pairwise-keep, pairwise_map, Each, each-refl, each-trans}
use Rattle.rules.proofs.MatchLaws.{Rising, Within, matched_on, matched-volume, match-within, match-again}
use Rattle.rules.proofs.BalanceLaws.{sub-le, market_flow, market-toward, excess-flows}
use Rattle.rules.proofs.DirectionLaws.{same_direction, Once}
use Rattle.rules.proofs.WithdrawalLaws.{Lowered, lowered-refl, lowered-trans, lowered-rising, lowered-total, kept-lowered, kept-within, take_less, match-lowered, step-lowered}
use Rattle.rules.proofs.ProgressLaws.{something}

-- where a balance passes its maximum something is matched in that direction
excess-matched : (os : List Offer) (m : Directed) → 0 < (excess_of os m).energy → 0 < market_flow (excess_of os m).border (excess_of os m).export os
unfolding excess_of
excess-matched os m h = omega (arith, excess-flows os m)

-- and where it does not, what flows in it is at most the maximum and what flows against it
pub excess-none : (os : List Offer) (m : Directed) → (excess_of os m).energy ≤ 0
    → market_flow m.border m.export os ≤ market_flow m.border (not m.export) os + m.energy
excess-none os m h = omega (arith, excess-flows os m)

-- a direction passed has an excess, and something matched in it
over-facts : (ms : List Directed) (os : List Offer) → All (λ d. (0 < d.energy) × (0 < market_flow d.border d.export os)) (overruns ms os)
unfolding overruns keep
over-facts [] os = none
over-facts (m ∷ ms) os =
    by_bool (ltb 0 (excess_of os m).energy)
    (λ e. let h = ltb-true 0 (excess_of os m).energy e in rw e (more {x = excess_of os m} (h, excess-matched os m h) (over-facts ms os)))
    (λ e. rw e (over-facts ms os))

-- the directions passed stand at most once each
pub overruns-once : (os : List Offer) {ms : List Directed} → Once ms → Once (overruns ms os)
unfolding overruns excess_of same_direction
overruns-once os once = pairwise-keep (λ d. ltb 0 d.energy) (pairwise_map (excess_of os) (λ c d h. h) once)

-- keeping only what is matched changes no flow
kept-flow : (ds : List Directed) (border : ℕ) (export : Bool) (os : List Offer) → market_flow border export (map (keep_matched ds) os) ≡ market_flow border export os
unfolding flow keep sum_of sum keep_matched with_energies
kept-flow ds border export [] = refl
kept-flow ds border export (o ∷ os) =
    by_bool (runs border export o.holder) (λ e. rw e (ap (λ n. at_border o.holder o.matched + n) (kept-flow ds border export os))) (λ e. rw e (kept-flow ds border export os))

-- a step takes at least one tenth from what is offered
step_less : (d : Directed) (ds : List Directed) (os : List Offer) → Once (d ∷ ds) → Within os
    → All (λ d. (0 < d.energy) × (0 < market_flow d.border d.export os)) (d ∷ ds) → step_bound (step (d ∷ ds) os) < step_bound os
unfolding step
step_less d ds os once w (more h t) =
    let kept = map (keep_matched (d ∷ ds)) os in
    let g = group_of (d ∷ ds) kept in
    omega (
      arith,
      lowered-total (match-lowered (take_from g (d ∷ ds) kept)),
      take_less g once (kept-within (d ∷ ds) w) (some-all (λ e k l. (l.0, k)) (something d ds kept (rw (kept-flow (d ∷ ds) d.border d.export os) h.1)) (more h t)),
      lowered-total (kept-lowered (d ∷ ds) w),
    )

-- Offers as a match leaves them: matching again changes nothing.
pub record Settled (os : List Offer) : Type 0 where
  pub rising : Rising os
  pub again : match_all os ≡ os

-- those of any match
pub match-settled : (os : List Offer) → Rising os → Settled (match_all os)
match-settled os r = record { rising = lowered-rising (match-lowered os) r; again = match-again os }

module _ {os : List Offer} (s : Settled os) where
  -- no offer is matched beyond what it offers
  pub settled-within : Within os
  settled-within = rw s.again at (match-within os s.rising)

  -- what is matched on either side is V
  pub settled-volume : (side : Bool) → matched_on side os ≡ volume os
  settled-volume side = rw s.again at (matched-volume side os s.rising)

-- where nothing overruns there is no excess
pub none-excess : (os : List Offer) (ms : List Directed) → overruns ms os ≡ [] → All (λ m. (excess_of os m).energy ≤ 0) ms
unfolding overruns keep
none-excess os [] h = none
none-excess os (m ∷ ms) h =
    by_bool (ltb 0 (excess_of os m).energy)
    (λ e. let k = rw e at h in let z : ◌≡◌ {A = ℕ} 0 1 = cc in absurd (omega arith))
    (λ e. more {x = m} (ltb-false 0 (excess_of os m).energy e) (none-excess os ms (rw e at h)))

-- and no market balance passes its maximum
pub none_passes : (os : List Offer) (ms : List Directed) → overruns ms os ≡ [] → All (λ m. toward m.export (market_balance m.border os) ≤ℤ pos m.energy) ms
none_passes os ms h =
    all_map (λ m k. rw (market-toward m.border m.export os) (sub-le _ _ _ (excess-none os m k))) (none-excess os ms h)

-- What repeated steps leave of some offers: again as a match leaves them, each with its holder and price and offering no more;
-- no market balance passes its maximum; and no more steps were made than tenths taken from what is offered.
pub record Ended (ms : List Directed) (before : List Offer) (made : ℕ) (after : Withdrawn) : Type 0 where
  pub settled : Settled after.offers
  pub lowered : Each Lowered before after.offers
  pub none_over : overruns ms after.offers ≡ []
  pub counted : after.steps + step_bound after.offers ≤ made + step_bound before

-- a step leaves a match
pub step-settled : (ds : List Directed) (os : List Offer) → Once ds → Settled os → Settled (step ds os)
unfolding step
step-settled ds os once s =
    record { rising = lowered-rising (step-lowered ds os once (settled-within s)) s.rising; again = match-again _ }

module _ (ms : List Directed) (once : Once ms) where
  -- a step on an hour with an overrun takes at least one tenth from what is offered
  pub step-takes : (d : Directed) (ds : List Directed) (os : List Offer) → Within os → overruns ms os ≡ d ∷ ds → step_bound (step (d ∷ ds) os) < step_bound os
  step-takes d ds os w e = step_less d ds os (rw e at (overruns-once os once)) w (rw e at (over-facts ms os))

  -- where no balance passes its maximum no step is made
  no_step : (os : List Offer) (made : ℕ) → Settled os → overruns ms os ≡ [] → Ended ms os made (record { offers = os; steps = made })
  no_step os made s e = record { settled = s; lowered = each-refl lowered-refl os; none_over = e; counted = le_refl (made + step_bound os) }

  -- one step, and then the others
  one_more : (d : Directed) (ds : List Directed) (os : List Offer) (made : ℕ) {w : Withdrawn} → Settled os → overruns ms os ≡ d ∷ ds
      → Ended ms (step (d ∷ ds) os) (suc made) w → Ended ms os made w
  one_more d ds os made s e k =
      record {
        settled = k.settled;
        lowered = each-trans lowered-trans (step-lowered (d ∷ ds) os (rw e at (overruns-once os once)) (settled-within s)) k.lowered;
        none_over = k.none_over;
        counted = omega (arith, step-takes d ds os (settled-within s) e, k.counted);
      }

  -- with as many steps as tenths are offered none is left to make
  pub repeat-ends : (bound : ℕ) (os : List Offer) (made : ℕ) → Settled os → step_bound os ≤ bound → Ended ms os made (repeat bound ms os made)
  unfolding repeat
  repeat-ends zero os made s h = go (overruns ms os) refl
    where
      go : (ds : List Directed) → overruns ms os ≡ ds → Ended ms os made (record { offers = os; steps = made })
      go [] e = no_step os made s e
      go (d ∷ ds) e = absurd (omega (arith, step-takes d ds os (settled-within s) e))
  repeat-ends (suc bound) os made s h =
      go (overruns ms os) refl
      (λ d ds e. repeat-ends bound (step (d ∷ ds) os) (suc made) (step-settled (d ∷ ds) os (rw e at (overruns-once os once)) s)
      (omega (arith, step-takes d ds os (settled-within s) e)))
    where
      go : (ds : List Directed) → overruns ms os ≡ ds
          → ((d : Directed) (ds : List Directed) → overruns ms os ≡ d ∷ ds → Ended ms (step (d ∷ ds) os) (suc made) (repeat bound ms (step (d ∷ ds) os) (suc made)))
          → Ended ms os made (repeat (suc bound) ms os made)
      go [] e rec = rw (e, repeat) (no_step os made s e)
      go (d ∷ ds) e rec = rw (e, repeat) (one_more d ds os made s e (rec d ds e))

  -- "while a market balance passes its maximum": the definition's bound suffices, and afterwards none does
  pub withdraw-ends : (first : List Offer) → Settled first → Ended ms first 0 (withdraw ms first)
  unfolding withdraw
  withdraw-ends first s = repeat-ends (step_bound first) first 0 s (le_refl (step_bound first))

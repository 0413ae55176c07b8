-- An hour's clearing: what demand 3 says of it.
use Prim.Native.Nat.{ℕ, ◌+◌, ◌-◌, ◌≤◌}
use mathlib.Core.Path.{◌≡◌, ap, sym, ◌∙◌}
use mathlib.Core.Bool.{Bool, true, false, not}
use mathlib.Core.List.{List, [], map}
use native.Mathlib.Omega.{arith}
use native.Mathlib.Nat.{le_trans, add-le-add}
use lib.Dec.{eqb}
use lib.IntN.{pos, neg_ℤ}
use lib.Signed.{◌≤ℤ◌}
use Rattle.rules.specs.Lists.{All, none, more, keep, any, sum_of}
use Rattle.rules.specs.Match.{Offer, volume, match_all}
use Rattle.rules.specs.Borders.{Directed, Execution, runs, market_balance, execution_balance, toward, positive}
use Rattle.rules.specs.Split.{legacy_flow, maximum_of}
use Rattle.rules.specs.Withdrawal.{excess_of, overruns, step_bound, withdraw}
use Rattle.rules.specs.Clearing.{Hour, Figures, clear_hour}
use Rattle.rules.proofs.ListLaws.{all_map}
use Rattle.rules.proofs.ElementLaws.{all-unmapped, pairwise_map, Each, each0, each, each-trans}
use Rattle.rules.proofs.SumLaws.{each-le}
use Rattle.rules.proofs.SplitLaws.{positive-neg, maximum-le}
use Rattle.rules.proofs.MatchLaws.{Rising, Within, matched_on}
use Rattle.rules.proofs.BalanceLaws.{execution_flow, execution-toward}
use Rattle.rules.proofs.DirectionLaws.{same_direction, Once}
use Rattle.rules.proofs.WithdrawalLaws.{Lowered, lowered-trans, lowered-total, match-lowered}
use Rattle.rules.proofs.EndLaws.{match-settled, settled-within, settled-volume, excess-none, none-excess, none_passes, Ended, withdraw-ends}
use Rattle.rules.proofs.BorderLaws.{CutDown, BorderCleared, Fits, borders-cleared, all-uncut, all-down}

-- What an hour of the day book is: the offers' lodging numbers rise, and each border and direction is published at most once.
pub record Sound (x : Hour) : Type 0 where
  pub rising : Rising x.offers
  pub once : Once x.capacities

-- An offer at the end against the offer that was lodged: the same holder and price, no more is offered, and no more than that is matched.
pub record Final (before after : Offer) : Type 0 where
  pub holder : after.holder ≡ before.holder
  pub price : after.price ≡ before.price
  pub offered : after.offered ≤ before.offered
  pub matched : after.matched ≤ after.offered

-- Demand 3, of an hour and its figures.
pub record HourCleared (x : Hour) (f : Figures) : Type 0 where
  -- "Matched sales equal matched purchases": both are V of the last match
  pub balanced : matched_on false f.offers ≡ matched_on true f.offers
  pub volumes : (side : Bool) → matched_on side f.offers ≡ volume f.offers
  -- the offers are as the last match leaves them
  pub last-match : match_all f.offers ≡ f.offers
  -- each offer has its holder and price, and is matched within what was offered
  pub offers : Each Final x.offers f.offers
  -- at the end no market balance passes its maximum
  pub no-overrun : overruns f.maxima f.offers ≡ []
  pub maxima : All (λ m. toward m.export (market_balance m.border f.offers) ≤ℤ pos m.energy) f.maxima
  -- each execution has its holder and at most its energy, and all of it in a direction without capacity
  pub executions : Each CutDown x.executions f.executions
  pub uncut : Each (λ e g. any (λ c. runs c.border c.export e.holder) x.capacities ≡ false → g.energy ≡ e.energy) x.executions f.executions
  -- in each published direction of a border: within its capacity, cut exactly when the sum with none cut passes it, and then at it
  pub borders : All (λ c. BorderCleared c f.offers x.executions f.executions) x.capacities
  -- no more withdrawal steps than tenths of MWh were offered
  pub steps : f.steps ≤ step_bound x.offers

-- executions against a direction free their balance
freed : (c : Directed) (xs : List Execution) → positive (neg_ℤ (toward c.export (execution_balance c.border xs)))
    ≡ execution_flow c.border (not c.export) xs - execution_flow c.border c.export xs
freed c xs = rw (execution-toward c.border c.export xs) (positive-neg (execution_flow c.border c.export xs) (execution_flow c.border (not c.export) xs))

-- a maximum is at most the capacity and what they free, so the market alone fits
market-fits : (os first : List Offer) (xs : List Execution) (c : Directed) → (excess_of os (maximum_of first xs c)).energy ≤ 0 → Fits os xs c
unfolding Fits maximum_of
market-fits os first xs c h =
    omega (
      arith,
      excess-none os (maximum_of first xs c) h,
      maximum-le c.energy (toward c.export (execution_balance c.border xs)) (toward c.export (market_balance c.border first)) (legacy_flow c.border c.export first),
      freed c xs,
    )

-- so it does in every published direction
all_fit : (os first : List Offer) (xs : List Execution) (cs : List Directed) → overruns (map (maximum_of first xs) cs) os ≡ [] → All (Fits os xs) cs
all_fit os first xs cs h = all_map (market-fits os first xs) (all-unmapped (maximum_of first xs) cs (none-excess os (map (maximum_of first xs) cs) h))

-- offers that were lowered and are matched within what they offer
finals : {os ps : List Offer} → Each Lowered os ps → Within ps → Each Final os ps
finals each0 none = each0
finals (each h t) (more k u) = each (record { holder = h.holder; price = h.price; offered = h.offered; matched = k }) (finals t u)

module _ (x : Hour) (s : Sound x) where
  -- the first match
  abbrev first : List Offer
  first = match_all x.offers

  -- the market maxima after it
  abbrev maxima : List Directed
  maxima = map (maximum_of first x.executions) x.capacities

  -- each border and direction has at most one
  maxima-once : Once maxima
  unfolding maximum_of same_direction
  maxima-once = pairwise_map (maximum_of first x.executions) (λ c d h. h) s.once

  -- the withdrawal from the first match to the last
  ended-hour : Ended maxima first 0 (withdraw maxima first)
  ended-hour = withdraw-ends maxima maxima-once first (match-settled x.offers s.rising)

  -- after it the market alone fits in every published direction
  fit : All (Fits (withdraw maxima first).offers x.executions) x.capacities
  fit = all_fit _ first x.executions x.capacities ended-hour.none_over

  -- an hour of the day book is cleared as demand 3 says
  pub hour-cleared : HourCleared x (clear_hour x)
  unfolding clear_hour
  hour-cleared =
      record {
        balanced = settled-volume ended-hour.settled false ∙ sym (settled-volume ended-hour.settled true);
        volumes = settled-volume ended-hour.settled;
        last-match = ended-hour.settled.again;
        offers = finals (each-trans lowered-trans (match-lowered x.offers) ended-hour.lowered) (settled-within ended-hour.settled);
        no-overrun = ended-hour.none_over;
        maxima = none_passes _ maxima ended-hour.none_over;
        executions = all-down _ x.capacities x.executions;
        uncut = all-uncut _ x.executions s.once fit;
        borders = borders-cleared _ x.executions s.once fit;
        steps = omega (arith, ended-hour.counted, lowered-total (match-lowered x.offers));
      }

-- "A unit's energy is matched plus executed, after cuts": it is at most what the unit offered and what its executions had
pub unit-energy : {x : Hour} {f : Figures} → HourCleared x f → (u : ℕ)
    → sum_of (λ o. o.matched) (keep (λ o. eqb o.holder.unit u) f.offers) + sum_of (λ e. e.energy) (keep (λ e. eqb e.holder.unit u) f.executions)
    ≤ sum_of (λ o. o.offered) (keep (λ o. eqb o.holder.unit u) x.offers) + sum_of (λ e. e.energy) (keep (λ e. eqb e.holder.unit u) x.executions)
unit-energy k u =
    add-le-add (each-le (λ o. eqb o.holder.unit u) (λ o. o.offered) (λ o. o.matched) (λ o p r. (ap (λ h. eqb h.unit u) r.holder, le_trans r.matched r.offered)) k.offers)
    (each-le (λ e. eqb e.holder.unit u) (λ e. e.energy) (λ e. e.energy) (λ e g r. (ap (λ h. eqb h.unit u) r.holder, r.energy)) k.executions)

-- One round of the withdrawal, and its end.
use Rattle.std.proofs.Common.{ap₂, ℕ, ◌+◌, ◌-◌, ◌≡◌, refl, sym, ◌∙◌, ap, ◌<◌, true, false, List, [], ◌∷◌, map}
use Rattle.std.specs.Prelude.{sum}
use mathlib.Core.Bool.{true≢false, false≢true}
use Rattle.rules.specs.Lists.{Each, sum_of, sum as sum-of}
use Rattle.rules.specs.Match.{Offer, volume}
use Rattle.rules.specs.Borders.{Directed}
use Rattle.rules.specs.Withdrawal.{overruns, step, step_bound, repeat, withdraw}
use Rattle.rules.proofs.ElementLaws.{each-trans, each-refl}
use Rattle.rules.proofs.RepeatLaws.{repeat-ended, repeat-step, repeat-out}
use Rattle.rules.proofs.WithdrawalLaws.{lowered-trans, lowered-refl}
use Rattle.hour_offers.specs.declared.Offer.{Offer as Held}
use Rattle.hour_offers.specs.View.{offer_in, offers_in}
use Rattle.hour_borders.specs.Limits.{non_empty}
use Rattle.withdraw_choose.proofs.PriceLaws.{sum-read, map-read}
use Rattle.withdraw.specs.Steps.{Laid, Lowered, Stepped}
use Rattle.withdraw.specs.Rounds.{Withdrew}
use Rattle.withdraw.proofs.StepLaws.{lowered-of, lowered-less}

-- what is offered in all
pub bound-said : (os : List Held) → sum (map (λ (o : Held). o.offered) os) ≡ step_bound (offers_in os)
unfolding step_bound sum_of
bound-said os = sum-read _ ∙ ap sum-of (sym (map-read offer_in (λ (o : Offer). o.offered) os))

empty : (ds : List Directed) → non_empty ds ≡ false → ds ≡ []
unfolding non_empty
empty [] e = refl
empty (d ∷ ds) e = absurd (true≢false e)

-- A withdrawal of which some steps are made, with `left` to come at most: offers os now, `before` at its start.
pub record Repeating (ms : List Directed) (sales purchases : List ℕ) (before os : List Offer) (left steps v : ℕ) : Type 0 where
  pub ahead : repeat left ms os steps ≡ withdraw ms before
  pub traded : v ≡ volume os
  pub laid : Laid os sales purchases
  pub lowered : Each Lowered before os

-- its start: the bound of the steps is what is offered
pub start-said : {ms : List Directed} {sales purchases : List ℕ} {os : List Offer} {left v : ℕ} → left ≡ step_bound os → v ≡ volume os → Laid os sales purchases
    → Repeating ms sales purchases os os left 0 v
unfolding withdraw
start-said {ms} {os = os} b q l = record { ahead = ap (λ n. repeat n ms os 0) b; traded = q; laid = l; lowered = lowered-of (each-refl lowered-refl os) }

module _ {ms : List Directed} {sales purchases : List ℕ} {before os : List Offer} {left steps v : ℕ} (t : Repeating ms sales purchases before os left steps v) where
  -- with no step left
  pub out-said : {n : ℕ} → left ≡ 0 → n ≡ steps → Withdrew ms sales purchases before os (record { steps = n; volume = v })
  out-said z e = record { done = sym t.ahead ∙ rw e (repeat-out left ms os steps z); traded = t.traded; laid = t.laid; lowered = t.lowered }

  module _ (ds : List Directed) (same : ds ≡ overruns ms os) where
    -- with no balance over its maximum
    pub end-said : non_empty ds ≡ false → Withdrew ms sales purchases before os (record { steps = steps; volume = v })
    end-said z = record { done = sym t.ahead ∙ repeat-ended left ms os steps (sym same ∙ empty ds z); traded = t.traded; laid = t.laid; lowered = t.lowered }

    -- a step more
    pub next-said : {after : List Offer} {rest w : ℕ} → non_empty ds ≡ true → 0 < left → left - 1 ≡ rest → Stepped ds sales purchases os after w
        → Repeating ms sales purchases before after rest (steps + 1) w
    unfolding non_empty
    next-said {after} {rest} z h e s = record {
      ahead = ap₂ (λ n o. repeat n ms o (steps + 1)) (sym e) s.offers ∙ sym (going ds z same) ∙ t.ahead;
      traded = s.traded;
      laid = s.laid;
      lowered = lowered-of (each-trans lowered-trans (lowered-less t.lowered) (lowered-less s.lowered));
    }
      where
        going : (ds : List Directed) → non_empty ds ≡ true → ds ≡ overruns ms os → repeat left ms os steps ≡ repeat (left - 1) ms (step ds os) (steps + 1)
        going [] z e = absurd (false≢true z)
        going (d ∷ ds) z e = repeat-step left ms os steps d ds h (sym e)

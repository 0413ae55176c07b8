-- Which offers run in a direction passed, and what they keep.
use Rattle.std.proofs.Common.{ℕ, ◌≡◌, refl, ◌<◌, ◌≤◌, max, Bool, true, false, cond, not, ◌&&◌, List, map, ltb, get_or, arith}
use Rattle.rules.specs.Match.{Offer, with_energies}
use Rattle.rules.specs.Borders.{Directed}
use Rattle.rules.specs.Withdrawal.{runs_in, runs_among, keep_matched}
use Rattle.rules.proofs.ElementLaws.{all-every, each_map}
use Rattle.hour_offers.specs.declared.Offer.{Offer as Held}
use Rattle.hour_offers.specs.View.{offer_in, offers_in}
use Rattle.hour_borders.specs.Directions.{own_direction, over_in}
use Rattle.hour_borders.proofs.DirectionLaws.{among-directions, among-none}
use Rattle.std.specs.Prelude.{None, Some}
use Rattle.withdraw_keep.specs.Change.{Changed}
use Rattle.withdraw_keep.proofs.ChangeLaws.{read-mapped}
use Rattle.rules.specs.Lists.{Each}

module _ (over : List ℕ) (o : Offer) where
  -- an offer with a direction of its own runs in one of those passed if that is one
  pub among-over : (d : ℕ) → own_direction o.holder.border o.holder.purchase ≡ Some d → d < 8 → runs_among (over_in over) o ≡ ltb 0 (get_or over d 0)
  unfolding runs_among runs_in over_in
  among-over d e h = among-directions over (λ d. ltb 0 (get_or over d 0)) o.holder d e h

  -- one with none, in none
  pub among-outside : own_direction o.holder.border o.holder.purchase ≡ None → runs_among (over_in over) o ≡ false
  unfolding runs_among runs_in over_in
  among-outside e = among-none over (λ d. ltb 0 (get_or over d 0)) o.holder e

-- an offer with what it keeps
abbrev pub kept : List ℕ → Held → Held
kept over o = record { holder = o.holder; price = o.price; offered = (keep_matched (over_in over) (offer_in o)).offered; matched = o.matched }

kept-read : (over : List ℕ) (o : Held) → offer_in (kept over o) ≡ keep_matched (over_in over) (offer_in o)
unfolding keep_matched with_energies
kept-read over o = refl

-- offers with what they keep are the rules'
pub kept-offers : (over : List ℕ) (os : List Held) → offers_in (map (kept over) os) ≡ map (keep_matched (over_in over)) (offers_in os)
kept-offers over os = read-mapped offer_in (kept over) (keep_matched (over_in over)) (kept-read over) os

kept-le : (b : Bool) (m e : ℕ) → cond b m e ≤ max e m
kept-le true m e = omega arith
kept-le false m e = omega arith

-- no offer offers more than before, or than is matched
pub kept-changed : (ds : List Directed) (os : List Offer) → Each Changed os (map (keep_matched ds) os)
unfolding keep_matched with_energies
kept-changed ds os =
    each_map (keep_matched ds) (all-every (λ o. record { holder = refl; price = refl; matched = refl; offered = kept-le (runs_among ds o && not o.holder.legacy) o.matched o.offered }) os)

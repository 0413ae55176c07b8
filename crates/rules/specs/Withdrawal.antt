-- "Withdrawal step", and its repetition.
use Rattle.std.specs.Prelude.{ℕ, zero, suc, ◌-◌, ◌≤◌, min, max, ◌≡◌, Bool, true, false, cond, not, ◌&&◌, List, [], ◌∷◌, map, leb, ltb, eqb, pos, ◌-ℤ◌}
use Rattle.std.specs.Bool.{beq}
use Rattle.std.proofs.Math.Option.{Option, some, none}
use Rattle.rules.specs.Lists.{Each, Each3, keep, any, sum, sum_of, add_each}
use Rattle.rules.specs.Share.{share}
use Rattle.rules.specs.Match.{Offer, with_energies, match_all, hour_price}
use Rattle.rules.specs.Borders.{Directed, runs, at_border, keeps, Largest, flow, market_balance, toward, positive}

-- how far a market balance passes its maximum, 0 where it does not: "the overrun being the excess"
unfoldable pub excess_of : List Offer → Directed → Directed
excess_of os m = record {
  border = m.border;
  export = m.export;
  energy = positive (toward m.export (market_balance m.border os) -ℤ pos m.energy);
}

-- the directions whose market balance passes its maximum, each with the excess
unfoldable pub overruns : List Directed → List Offer → List Directed
overruns ms os = keep (λ d. ltb 0 d.energy) (map (excess_of os) ms)

unfoldable pub runs_in : Directed → Offer → Bool
runs_in d o = runs d.border d.export o.holder

-- the offer runs in one of the directions
unfoldable pub runs_among : List Directed → Offer → Bool
runs_among ds o = any (λ d. runs_in d o) ds

-- 1. "On each such border, offers in that direction, not legacy, keep only what is matched."
unfoldable pub keep_matched : List Directed → Offer → Offer
keep_matched ds o = with_energies (cond (runs_among ds o && not o.holder.legacy) o.matched o.offered) o.matched o

-- 2. "among matched, non-legacy offers there in the direction passed": the prices on one side
unfoldable pub prices_over : Bool → List Directed → List Offer → List ℕ
prices_over side ds os =
    map (λ o. o.price) (keep (λ o. beq o.holder.purchase side && ltb 0 o.matched && not o.holder.legacy && runs_among ds o) os)

unfoldable pub further : (ℕ → ℕ → ℕ) → ℕ → Option ℕ → ℕ
further f p none = p
further f p (some q) = f p q

-- the least (f is min) or the greatest (max) of some prices, none of none
unfoldable pub extreme : (ℕ → ℕ → ℕ) → List ℕ → Option ℕ
extreme f [] = none
extreme f (p ∷ ps) = some (further f p (extreme f ps))

-- "C is all matched purchases in the hour below the first"
unfoldable pub purchases_below : ℕ → List Offer → ℕ
purchases_below p os = sum_of (λ o. o.matched) (keep (λ o. o.holder.purchase && ltb o.price p) os)

-- "V' all matched sales above the second"
unfoldable pub sales_above : ℕ → List Offer → ℕ
sales_above q os = sum_of (λ o. o.matched) (keep (λ o. not o.holder.purchase && ltb q o.price) os)

-- Which offers give way in a step: those of one side at a price, not legacy; or the legacy offers.
pub data Group : Type 0 where
  at_price : Bool → ℕ → Group
  legacy_offers : Group

-- "With both prices, purchases go if C ≤ V', else sales; with one, its side goes." 4. "With neither price, [..] legacy offers".
unfoldable pub choose : List Offer → Option ℕ → Option ℕ → Group
choose os none none = legacy_offers
choose os (some p) none = at_price true p
choose os none (some q) = at_price false q
choose os (some p) (some q) = cond (leb (purchases_below p os) (sales_above q os)) (at_price true p) (at_price false q)

-- "the lowest purchase price and the highest sale price"
unfoldable pub group_of : List Directed → List Offer → Group
group_of ds os = choose os (extreme min (prices_over true ds os)) (extreme max (prices_over false ds os))

-- an offer as it would be if its unit had no loss
unfoldable pub without_loss : Offer → Offer
without_loss o = record {
  holder = record { number = o.holder.number; unit = o.holder.unit; border = o.holder.border; purchase = o.holder.purchase; legacy = o.holder.legacy; loss = 0 };
  price = o.price;
  offered = o.offered;
  matched = o.matched;
}

-- What reads no loss. K2: "the match itself stays in energies".
pub record InEnergies (os : List Offer) : Type 0 where
  pub matches : match_all (map without_loss os) ≡ map without_loss (match_all os)
  pub price : hour_price (map without_loss os) ≡ hour_price os
  -- K2 does not name step 1 and what step 2 compares, the prices, C and V': they are of energies too
  pub kept : (ds : List Directed) → map (keep_matched ds) (map without_loss os) ≡ map without_loss (map (keep_matched ds) os)
  pub prices : (side : Bool) (ds : List Directed) → prices_over side ds (map without_loss os) ≡ prices_over side ds os
  pub purchases : (p : ℕ) → purchases_below p (map without_loss os) ≡ purchases_below p os
  pub sales : (q : ℕ) → sales_above q (map without_loss os) ≡ sales_above q os
  pub group : (ds : List Directed) → group_of ds (map without_loss os) ≡ group_of ds os

-- the theorem `in-energies` of proofs/EnergyLaws.antt
abbrev pub MatchInEnergies : Type 0
MatchInEnergies = (os : List Offer) → InEnergies os

unfoldable pub in_group : Group → Offer → Bool
in_group (at_price side p) o = beq o.holder.purchase side && not o.holder.legacy && eqb o.price p
in_group legacy_offers o = o.holder.legacy

unfoldable pub gives_way : Group → Directed → Offer → Bool
gives_way g d o = runs_in d o && in_group g o

-- the matched energy of the offers that give way in a direction, as counted at the border, 0 for the others. K2: "Share of an excess among exports" is of
-- border figures.
unfoldable pub amounts : Group → Directed → List Offer → List ℕ
amounts g d os = map (λ o. cond (gives_way g d o) (at_border o.holder o.matched) 0) os

-- 3. "On each border over in that direction, the lesser of the excess and the matched non-legacy energy at that price is
-- taken by Share"; 4. "each border's excess is taken likewise from its legacy offers in that direction". K2: "excesses, the matched energy set against an
-- excess [..] use that figure". Offers stand by rising lodging number.
unfoldable pub deductions : Group → List Offer → Directed → List ℕ
deductions g os d = share (min d.energy (sum (amounts g d os))) (amounts g d os)

-- What Share deducts for an excess.
pub record Deducting (g : Group) (os : List Offer) (d : Directed) : Type 0 where
  -- "the lesser of the excess and the matched [..] energy": of border figures, as balances are
  pub lesser : sum (deductions g os d) ≡ min d.energy (flow (λ o. o.holder) (λ o. o.matched) d.border d.export (keep (in_group g) os))
  -- from no offer more than it counts for
  pub no_more : Each (λ k o. k ≤ at_border o.holder o.matched) (deductions g os d) os

-- the theorem `deductions-counted` of proofs/WithdrawalLaws.antt
abbrev pub DeductionsCounted : Type 0
DeductionsCounted = (g : Group) (os : List Offer) (d : Directed) → Deducting g os d

-- what each loses in all directions; an offer runs in one
unfoldable pub all_deductions : Group → List Offer → List Directed → List ℕ
all_deductions g os [] = map (λ o. 0) os
all_deductions g os (d ∷ ds) = add_each (deductions g os d) (all_deductions g os ds)

-- "what remains offered is matched less taken". K2: less in border figures; what remains is the largest energy that has the border figure left.
unfoldable pub remain : (Offer → Bool) → List ℕ → List Offer → List Offer
remain gives ks [] = []
remain gives [] (o ∷ os) = o ∷ os
remain gives (k ∷ ks) (o ∷ os) =
    with_energies (cond (gives o) (keeps o.holder o.matched k) o.offered) o.matched o ∷ remain gives ks os

unfoldable pub take_from : Group → List Directed → List Offer → List Offer
take_from g ds os = remain (λ o. any (λ d. gives_way g d o) ds) (all_deductions g os ds) os

-- K2: "After a cut the lodgement keeps the largest energy, no more than was matched [..], that has the border figure left to it.": so does an offer x that
-- gives way; k of its border figure is taken, and y is x then (`taken-largest` of proofs/WithdrawalLaws.antt)
abbrev pub TakenLargest : Type 0
TakenLargest = (g : Group) (ds : List Directed) (os : List Offer)
    → Each3 (λ x k y. any (λ d. gives_way g d x) ds ≡ true → Largest x.holder.loss x.matched (at_border x.holder x.matched - k) y.offered)
    os (all_deductions g os ds) (take_from g ds os)

-- one step, of the directions passed. 5. "Match again."
unfoldable pub step : List Directed → List Offer → List Offer
step ds os =
    let kept = map (keep_matched ds) os in
    match_all (take_from (group_of ds kept) ds kept)

pub record Withdrawn : Type 0 where
  pub offers : List Offer
  pub steps : ℕ

-- "while a market balance passes its maximum": at most `bound` steps, and how many were made.
-- "Split figures stay those of the first match": ms does not change.
unfoldable pub repeat : ℕ → List Directed → List Offer → ℕ → Withdrawn
repeat zero ms os made = record { offers = os; steps = made }
repeat (suc bound) ms os made =
    elim (overruns ms os) [
      | [] ↦ record { offers = os; steps = made }
      | d ∷ ds ↦ repeat bound ms (step (d ∷ ds) os) (suc made)
    ]

-- A bound that no hour passes: each step takes at least one tenth of MWh from what is offered, and nothing adds to it.
unfoldable pub step_bound : List Offer → ℕ
step_bound os = sum_of (λ o. o.offered) os

-- from the first match to the last
unfoldable pub withdraw : List Directed → List Offer → Withdrawn
withdraw ms first = repeat (step_bound first) ms first 0

-- The bound cuts no withdrawal short, `Ends` says: at the end no market balance passes its maximum, and no more steps were made than
-- tenths of MWh were offered. (It holds in every hour of a book: `Cleared`, specs/Demands.antt.)
pub record Ends (ms : List Directed) (before : List Offer) (last : Withdrawn) : Type 0 where
  pub none_over : overruns ms last.offers ≡ []
  pub counted : last.steps ≤ step_bound before

unfoldable pub unfold_withdrawal : Unit {0}
unfolding excess_of overruns runs_in runs_among keep_matched prices_over further extreme purchases_below sales_above choose group_of without_loss in_group gives_way amounts deductions all_deductions remain take_from step repeat step_bound withdraw
unfold_withdrawal = tt

-- A step on a list of offers is the rules' step.
use Rattle.std.proofs.Common.{ℕ, suc, ◌≡◌, refl, sym, ◌∙◌, ap, ◌<◌, ◌≤◌, ◌^◌, List, [], ◌∷◌, length, map, drop, Bool, true, false, ltb, arith}
use Rattle.std.specs.Bool.{beq}
use Rattle.std.specs.List.{sum_by, refill}
use Rattle.std.specs.Prelude.{All as Every}
use Rattle.std.proofs.Math.Seq.{take-append_seam}
use Rattle.std.proofs.lemmas.List.{length-map}
use Rattle.std.proofs.lemmas.List.Sums.{sum_by-le}
use Rattle.rules.specs.Lists.{All, Each, keep, from}
use Rattle.rules.specs.Units.{max_energy}
use Rattle.rules.specs.Match.{Offer, match_all, volume}
use Rattle.rules.specs.Borders.{Directed, flow}
use Rattle.rules.specs.Withdrawal.{Group, keep_matched, group_of, take_from, step}
use Rattle.rules.proofs.BoolLaws.{by_bool}
use Rattle.rules.proofs.IndexLaws.{length_from}
use Rattle.rules.proofs.ListLaws.{all_map, all_keep, length-keep}
use Rattle.rules.proofs.ElementLaws.{each-trans, each_weaken}
use Rattle.rules.proofs.MatchLaws.{volume-again}
use Rattle.rules.proofs.WithdrawalLaws.{Lowered as Less, lowered-trans, kept-within, match-lowered}
use Rattle.hour_offers.specs.declared.Offer.{Offer as Held}
use Rattle.hour_offers.specs.View.{offer_in, offers_in}
use Rattle.hour_offers.specs.Sound.{Sound}
use Rattle.hour_offers.proofs.SoundLaws.{offer-in-range}
use Rattle.hour_match.specs.Orders.{Names, no_offer, nth, key_at, insert_on, sort_on, in_order, Along}
use Rattle.hour_match.specs.Walks.{named, Matched}
use Rattle.hour_match.proofs.OrderLaws.{order-within}
use Rattle.hour_match.proofs.KeptLaws.{along-of, along-kept, match-sound}
use Rattle.hour_borders.specs.Directions.{over_in}
use Rattle.hour_borders.specs.Flows.{MarketFlows}
use Rattle.withdraw_keep.specs.Abroad.{crosses, abroad_of, places_from, put_at}
use Rattle.withdraw_keep.specs.Change.{Changed}
use Rattle.withdraw_keep.proofs.AbroadLaws.{homed-trans, put-back, read-abroad, places-same, places-length, places-inside, kept-abroad, kept-homed, kept-group, flow-abroad}
use Rattle.withdraw_keep.proofs.ChangeLaws.{changed-sound, changed-lowered}
use Rattle.withdraw_keep.proofs.KeptLaws.{kept-changed}
use Rattle.withdraw_take.proofs.AbroadLaws.{take-abroad, take-homed}
use Rattle.withdraw_take.proofs.GivenLaws.{taken-changed}
use Rattle.withdraw.specs.Steps.{Laid, Lowered, Stepped}

-- a sum of energies fits
sum-fits : (f : Held → ℕ) (os : List Held) → Sound (offers_in os) → Every (λ o. f o ≤ max_energy) os → sum_by f os < 2 ^ 32
sum-fits f os s h =
    let n : length os ≤ 128 = rw (length-map os offer_in) at s.few in
    omega (arith, sum_by-le f max_energy os h)

pub matched-fits : (os : List Held) → Sound (offers_in os) → sum_by (λ o. o.matched) os < 2 ^ 32
matched-fits os s = sum-fits (λ o. o.matched) os s (λ i d h. (offer-in-range os i d s.in_range h).matched)

pub offered-fits : (os : List Held) → Sound (offers_in os) → sum_by (λ o. o.offered) os < 2 ^ 32
offered-fits os s = sum-fits (λ o. o.offered) os s (λ i d h. (offer-in-range os i d s.in_range h).offered)

module _ {os : List Offer} (s : Sound os) where
  pub matched-ranged : All (λ o. o.matched ≤ max_energy) os
  matched-ranged = all_map (λ o h. h.matched) s.in_range

  pub offered-ranged : All (λ o. o.offered ≤ max_energy) os
  offered-ranged = all_map (λ o h. h.offered) s.in_range

-- the same, as contracts say it
pub lowered-of : {os ps : List Offer} → Each Less os ps → Each Lowered os ps
lowered-of = each_weaken (λ o p h. record { holder = h.holder; price = h.price; offered = h.offered })

pub lowered-less : {os ps : List Offer} → Each Lowered os ps → Each Less os ps
lowered-less = each_weaken (λ o p h. record { holder = h.holder; price = h.price; offered = h.offered })

-- An order names offers

insert-length : (key : ℕ → ℕ) (x : ℕ) (xs : List ℕ) → length (insert_on key x xs) ≡ suc (length xs)
unfolding insert_on
insert-length key x [] = refl
insert-length key x (y ∷ ys) = by_bool (ltb (key x) (key y)) (λ t. rw t refl) (λ t. rw t (ap suc (insert-length key x ys)))

sort-length : (key : ℕ → ℕ) (xs : List ℕ) → length (sort_on key xs) ≡ length xs
unfolding sort_on
sort-length key [] = refl
sort-length key (x ∷ xs) = insert-length key x (sort_on key xs) ∙ ap suc (sort-length key xs)

order-length : (side : Bool) (os : List Offer) → length (in_order side os) ≤ length os
unfolding in_order
order-length side os =
    let is : List ℕ = keep (λ i. beq (nth os i).holder.purchase side) (from 0 (length os)) in
    let n : length is ≤ length (from 0 (length os)) = length-keep (λ i. beq (nth os i).holder.purchase side) (from 0 (length os)) in
    omega (arith, sort-length (key_at side os) is, length_from 0 (length os))

pub names-of : (side : Bool) {os : List Offer} {is : List ℕ} {n : ℕ} → Sound os → is ≡ in_order side os → length os ≡ n → Names n is
names-of side {os} s e l = record {
  few = rw e (omega (arith, order-length side os, s.few));
  inside = rw (e, ← l) (order-within side os);
}

module _ (ds : List Directed) {sales purchases : List ℕ} {os ks ts : List Offer} (l : Laid os sales purchases)
    (ek : ks ≡ map (keep_matched ds) os) (ck : Each Changed os ks) (ct : Each Changed ks ts) where
  -- what is matched anew is as sound as before
  pub taken-sound : Sound ts
  taken-sound = changed-sound ct (changed-sound ck l.sound)

  -- none offers more
  taken-less : Each Less os ts
  taken-less = each-trans lowered-trans (changed-lowered ck l.within) (changed-lowered ct (rw ek (kept-within ds l.within)))

  -- both sides are in their orders still
  pub sales-along : Along false ts sales
  sales-along = along-kept taken-less (along-of l.sound l.rising)

  pub purchases-along : Along true ts purchases
  purchases-along = along-kept taken-less (along-of l.sound l.falling)

  -- 5. "Match again."
  pub step-said : (g : Group) {after : List Offer} {v : ℕ} → g ≡ group_of ds ks → ts ≡ take_from g ds ks → Matched ts after v → Stepped ds sales purchases os after v
  unfolding step
  step-said g {after} {v} eg et m =
      let less : Each Less os after = each-trans lowered-trans taken-less (rw m.offers (match-lowered ts)) in
      record {
        offers = m.offers ∙ ap match_all (et ∙ ap (λ k. take_from k ds ks) eg ∙ ap (λ k. take_from (group_of ds k) ds k) ek);
        traded = m.traded ∙ sym (ap volume m.offers ∙ volume-again ts);
        laid = record {
          sound = rw m.offers (match-sound ts taken-sound);
          within = m.within;
          rising = (along-kept less (along-of l.sound l.rising)).order;
          falling = (along-kept less (along-of l.sound l.falling)).order;
        };
        lowered = lowered-of less;
      }

-- a list that is lent as a slice, and comes back as long as it was
pub refilled : {A : Type 0} (xs ws : List A) → length ws ≡ length xs → refill (length xs) xs ws ≡ ws
refilled xs ws e = rw (← e) (take-append_seam ws (drop (length ws) xs))

-- The same by the offers at a border, put back among all

abroad-fewer : (os : List Offer) → length (abroad_of os) ≤ length os
unfolding abroad_of
abroad-fewer os = length-keep crosses os

module _ {places : List ℕ} (os : List Offer) (at : places ≡ places_from 0 os) where
  -- their indices are those of offers
  pub places-named : {n : ℕ} → length os ≤ 128 → length os ≡ n → Names n places
  places-named {n} few e = record {
    few = rw at (omega (arith, places-length 0 os, abroad-fewer os));
    inside = rw at (places-inside 0 n os (omega arith));
  }

  -- at which they are read
  pub read-places : named os places ≡ abroad_of os
  unfolding named
  read-places = rw at (read-abroad no_offer os)

-- what they have can be counted at the borders
pub counted-abroad : {os bs : List Offer} → Sound os → bs ≡ abroad_of os → All (λ o. o.matched ≤ max_energy) bs
unfolding abroad_of
counted-abroad s e = rw e (all_keep crosses (matched-ranged s))

-- and is what all have there
pub flows-abroad : (f : List ℕ) (os : List Offer) {bs : List Offer} → bs ≡ abroad_of os → MarketFlows f bs → MarketFlows f os
flows-abroad f os e m = λ b x o h. m b x o h ∙ ap (λ l. flow (λ (p : Offer). p.holder) (λ p. p.matched) b x l) e ∙ flow-abroad b x o os

module _ (over : List ℕ) {sales purchases places : List ℕ} {os bs : List Offer} (l : Laid os sales purchases) (at : places ≡ places_from 0 os) (eb : bs ≡ abroad_of os) where
  -- what all keep
  abbrev pub kept : List Offer
  kept = map (keep_matched (over_in over)) os

  kept-sound : Sound kept
  kept-sound = changed-sound (kept-changed (over_in over) os) l.sound

  module _ {ks : List Offer} (ek : ks ≡ map (keep_matched (over_in over)) bs) where
    kept-at : ks ≡ abroad_of kept
    kept-at = ek ∙ ap (map (keep_matched (over_in over))) eb ∙ sym (kept-abroad over os)

    pub kept-few : length ks ≤ 128
    kept-few = rw kept-at (omega (arith, abroad-fewer kept, kept-sound.few))

    pub kept-ranged : All (λ o. o.matched ≤ max_energy) ks
    unfolding abroad_of
    kept-ranged = rw kept-at (all_keep crosses (matched-ranged kept-sound))

    module _ (g : Group) {ts : List Offer} (et : ts ≡ take_from g (over_in over) ks) where
      -- what is left of all
      abbrev pub taken : List Offer
      taken = take_from g (over_in over) kept

      taken-at : ts ≡ abroad_of taken
      taken-at = et ∙ ap (take_from g (over_in over)) kept-at ∙ sym (take-abroad g over kept)

      taken-lowered : Each Less os taken
      taken-lowered =
          each-trans lowered-trans (changed-lowered (kept-changed (over_in over) os) l.within)
          (changed-lowered (taken-changed g (over_in over) kept) (kept-within (over_in over) l.within))

      pub taken-length : length ts ≡ length places
      taken-length = rw (taken-at, at) (sym (places-length 0 taken) ∙ ap length (places-same (λ o p h. h.holder) 0 taken-lowered))

      module _ {qs : List Offer} (eq : qs ≡ put_at places ts os) where
        again : qs ≡ taken
        again = eq ∙ rw (at, taken-at) (put-back (each-trans homed-trans (kept-homed over os) (take-homed g over kept)))

        all-kept : Each Changed os kept
        all-kept = kept-changed (over_in over) os

        all-taken : Each Changed kept qs
        all-taken = rw again (taken-changed g (over_in over) kept)

        -- all offers may be matched again, in their orders
        pub again-ranged : All (λ o. o.offered ≤ max_energy) qs
        again-ranged = offered-ranged (taken-sound (over_in over) l refl all-kept all-taken)

        -- and the match makes the rules' step
        pub step-again : {after : List Offer} {v : ℕ} → g ≡ group_of (over_in over) os → (Along false qs sales → Along true qs purchases → Matched qs after v)
            → Stepped (over_in over) sales purchases os after v
        step-again eg m =
            step-said (over_in over) l refl all-kept all-taken g (eg ∙ sym (kept-group over os)) again
            (m (sales-along (over_in over) l refl all-kept all-taken) (purchases-along (over_in over) l refl all-kept all-taken))

  -- a match leaves them at the same indices
  pub places-after : {after : List Offer} → Each Lowered os after → places ≡ places_from 0 after
  places-after e = at ∙ sym (places-same (λ o p h. h.holder) 0 e)

  pub abroad-after : {after : List Offer} → Each Lowered os after → named after places ≡ abroad_of after
  abroad-after {after} e = read-places after (places-after e)

-- The match: what is matched on each side is V, no offer is matched beyond what it offers, and matching again changes nothing.
use Prim.Native.Nat.{ℕ, zero, suc, ◌+◌, ◌≤◌, ◌<◌, zero-le}
use mathlib.Core.Path.{◌≡◌, refl, ap, ap₂, sym, ◌∙◌}
use mathlib.Core.Bool.{Bool, true, false, cond, beq}
use mathlib.Core.List.{List, [], ◌∷◌, ◌++◌, map}
use native.Mathlib.Omega.{arith}
use native.Mathlib.Nat.{le_trans, le_refl, le_of_eq}
use lib.Dec.{leb, eqb}
use lib.ListN.{length, take, replicate}
use lib.Seq.{length-take-le}
use borrow.Author.Tests.{eq-eqb, ne_eqb}
use Rattle.rules.specs.Lists.{All, none, more, keep, sum, sum_of}
use Rattle.rules.specs.Match.{Offer, with_energies, stands_before, insert_by, sort_by, ordered, Place, place_of, lay_out, places, meeting, volume, places_of, matched_of, match_all, unfold_match}
unfoldable pub use Rattle.rules.specs.Demands.{matched_on}
use Rattle.rules.proofs.BoolLaws.{by_bool, beq-true, eqb-sym}
use Rattle.rules.proofs.ListLaws.{all_map, all_append, all_take, all_replicate, all-cond, all-mapped, keep-map}
use Rattle.rules.proofs.ElementLaws.{all_both, Pairwise, empty, ahead, pairwise-keep}
use Rattle.rules.proofs.SumLaws.{sum_both, sum_zeros, keep-le, cond-le}

-- the offers' lodging numbers rise
abbrev pub Rising : List Offer → Type 0
Rising os = Pairwise (λ o p. o.holder.number < p.holder.number) os

-- no offer is matched beyond what it offers
abbrev pub Within : List Offer → Type 0
Within os = All (λ o. o.matched ≤ o.offered) os

-- an offer is on a side
abbrev on_side : Bool → Offer → Bool
on_side side o = beq o.holder.purchase side

-- What is matched on a side

-- places that meet are at most those of the sales
meeting-left : (ss ps : List Place) → meeting ss ps ≤ length ss
unfolding meeting
meeting-left [] ps = zero-le
meeting-left (s ∷ ss) [] = zero-le
meeting-left (s ∷ ss) (p ∷ ps) = omega (arith, cond-le (leb s.price p.price) 1, meeting-left ss ps)

-- and at most those of the purchases
meeting-right : (ss ps : List Place) → meeting ss ps ≤ length ps
unfolding meeting
meeting-right [] ps = zero-le
meeting-right (s ∷ ss) [] = zero-le
meeting-right (s ∷ ss) (p ∷ ps) = omega (arith, cond-le (leb s.price p.price) 1, meeting-right ss ps)

-- so V is at most what is laid out on either side
pub volume-le : (side : Bool) (os : List Offer) → volume os ≤ length (places side os)
unfolding volume
volume-le false os = meeting-left (places false os) (places true os)
volume-le true os = meeting-right (places false os) (places true os)

-- offers with higher numbers have none of a number's places
later : (f : Offer → ℕ) (n : ℕ) (os : List Offer) → All (λ x. n < x.holder.number) os
    → sum_of (λ o. cond (eqb o.holder.number n) (f o) 0) os ≡ 0
unfolding sum_of sum
later f n [] none = refl
later f n (o ∷ os) (more h t) = rw (ne_eqb o.holder.number n (λ e. omega arith)) (omega (arith, later f n os t))

-- of offers by rising number only one has a given number
pub alone : (f : Offer → ℕ) {os : List Offer} → Rising os
    → All (λ x. sum_of (λ o. cond (eqb o.holder.number x.holder.number) (f o) 0) os ≡ f x) os
unfolding sum_of sum
alone f empty = none
alone f (ahead {x = o} {xs = os} h t) =
    more {x = o} (rw (eq-eqb o.holder.number o.holder.number refl) (omega (arith, later f o.holder.number os h)))
    (all_both (λ x k e. rw (ne_eqb o.holder.number x.holder.number (λ q. omega arith)) (omega (arith, e))) h (alone f t))

-- how many offers have a number, asked from the other side
turned : (n : ℕ) (os : List Offer) → sum_of (λ o. cond (eqb n o.holder.number) 1 0) os ≡ sum_of (λ o. cond (eqb o.holder.number n) 1 0) os
unfolding sum_of sum
turned n [] = refl
turned n (o ∷ os) = rw (eqb-sym n o.holder.number) (omega (arith, turned n os))

-- where each place is that of one offer, the offers' places are all the places
count-all : (os : List Offer) (l : List Place) → All (λ p. sum_of (λ o. cond (eqb o.holder.number p.number) 1 0) os ≡ 1) l
    → sum_of (λ o. places_of o.holder.number l) os ≡ length l
unfolding places_of sum_of
count-all os [] none = sum_zeros os
count-all os (p ∷ l) (more h t) =
    omega (
      arith,
      sum_both (λ (o : Offer). cond (eqb p.number o.holder.number) 1 0) (λ o. places_of o.holder.number l) os,
      turned p.number os,
      count-all os l t,
    )

module _ {P : Offer → Type 0} where
  -- what holds of each, of the list with one put in its place too
  all_insert : (f : Offer → Offer → Bool) (o : Offer) {os : List Offer} → P o → All P os → All P (insert_by f o os)
  unfolding insert_by
  all_insert f o h none = more h none
  all_insert f o h (more {x} k t) = all-cond (f o x) (more h (more k t)) (more k (all_insert f o h t))

  -- and of the sorted list
  pub all-sort : (f : Offer → Offer → Bool) {os : List Offer} → All P os → All P (sort_by f os)
  unfolding sort_by
  all-sort f none = none
  all-sort f (more {x} h t) = all_insert f x h (all-sort f t)

  -- and of the places laid out
  all-lay_out : {Q : Place → Type 0} → ((o : Offer) → P o → Q (place_of o)) → {os : List Offer} → All P os → All Q (lay_out os)
  unfolding lay_out
  all-lay_out f none = none
  all-lay_out f (more {x} h t) = all_append (all_replicate x.offered (place_of x) (f x h)) (all-lay_out f t)

-- the first v places of a side, counted by offers
side-sum : (side : Bool) (os : List Offer) (v : ℕ) → Rising os → v ≤ length (places side os)
    → sum_of (λ o. places_of o.holder.number (take v (places side os))) (keep (on_side side) os) ≡ v
unfolding places ordered
side-sum side os v r h =
    count-all (keep (on_side side) os) _
    (all_take v (all-lay_out (λ o k. k) (all-sort (stands_before side) (alone (λ o. 1) (pairwise-keep (on_side side) r))))) ∙ length-take-le v _ h

-- what is matched on a side, if an offer has as many as it has places among those of its side
filled-sum : (side : Bool) (l : Bool → List Place) (os : List Offer)
    → matched_on side (map (λ o. with_energies o.offered (places_of o.holder.number (l o.holder.purchase)) o) os)
    ≡ sum_of (λ o. places_of o.holder.number (l side)) (keep (on_side side) os)
unfolding matched_on keep sum_of sum with_energies
filled-sum side l [] = refl
filled-sum side l (o ∷ os) =
    by_bool (on_side side o)
    (λ e. rw e (ap₂ ◌+◌ (ap (λ s. places_of o.holder.number (l s)) (beq-true o.holder.purchase side e)) (filled-sum side l os)))
    (λ e. rw e (filled-sum side l os))

-- "the first V on each side are matched"
pub matched-volume : (side : Bool) (os : List Offer) → Rising os → matched_on side (match_all os) ≡ volume os
unfolding match_all matched_of
matched-volume side os r =
    filled-sum side (λ s. take (volume os) (places s os)) os ∙ side-sum side os (volume os) r (volume-le side os)

-- matched sales equal matched purchases
pub match-balances : (os : List Offer) → Rising os → matched_on false (match_all os) ≡ matched_on true (match_all os)
match-balances os r = matched-volume false os r ∙ sym (matched-volume true os r)

-- What is matched of an offer

-- places of a number in two lists are those of each
places-append : (n : ℕ) (l r : List Place) → places_of n (l ++ r) ≡ places_of n l + places_of n r
unfolding places_of
places-append n [] r = omega arith
places-append n (p ∷ l) r = omega (arith, places-append n l r)

-- among the first v places are at most all of a number's
places-take : (n v : ℕ) (l : List Place) → places_of n (take v l) ≤ places_of n l
unfolding places_of
places-take n zero l = zero-le
places-take n (suc v) [] = le_refl _
places-take n (suc v) (p ∷ l) = omega (arith, places-take n v l)

-- an offer's places are all of its own number
places-replicate : (n k : ℕ) (p : Place) → places_of n (replicate k p) ≡ cond (eqb p.number n) k 0
unfolding places_of
places-replicate n zero p = by_bool (eqb p.number n) (λ e. rw e) (λ e. rw e)
places-replicate n (suc k) p =
    by_bool (eqb p.number n) (λ e. rw e (omega (arith, rw e at (places-replicate n k p)))) (λ e. rw e (omega (arith, rw e at (places-replicate n k p))))

-- as many places of a number are laid out as are offered under it
pub places-offered : (n : ℕ) (os : List Offer) → places_of n (lay_out os) ≡ sum_of (λ o. cond (eqb o.holder.number n) o.offered 0) os
unfolding lay_out places_of sum_of sum
places-offered n [] = refl
places-offered n (o ∷ os) =
    places-append n (replicate o.offered (place_of o)) (lay_out os) ∙ ap₂ ◌+◌ (places-replicate n o.offered (place_of o)) (places-offered n os)

-- one put in its place adds its own
insert-sum : (g : Offer → ℕ) (f : Offer → Offer → Bool) (o : Offer) (os : List Offer) → sum_of g (insert_by f o os) ≡ g o + sum_of g os
unfolding insert_by sum_of sum
insert-sum g f o [] = refl
insert-sum g f o (x ∷ os) = by_bool (f o x) (λ e. rw e) (λ e. rw e (omega (arith, insert-sum g f o os)))

-- their order changes no sum
pub sort-sum : (g : Offer → ℕ) (f : Offer → Offer → Bool) (os : List Offer) → sum_of g (sort_by f os) ≡ sum_of g os
unfolding sort_by sum_of sum
sort-sum g f [] = refl
sort-sum g f (o ∷ os) = insert-sum g f o (sort_by f os) ∙ ap (λ n. g o + n) (sort-sum g f os)

-- no side has more places of a number than are offered under it
side-places : (n : ℕ) (side : Bool) (os : List Offer) → places_of n (places side os) ≤ sum_of (λ o. cond (eqb o.holder.number n) o.offered 0) os
unfolding places ordered
side-places n side os =
    rw (places-offered n (sort_by (stands_before side) (keep (on_side side) os)), sort-sum (λ (o : Offer). cond (eqb o.holder.number n) o.offered 0) (stands_before side) (keep (on_side side) os))
    (keep-le _ (on_side side) os)

-- no offer is matched beyond what it offers
pub match-within : (os : List Offer) → Rising os → Within (match_all os)
unfolding match_all matched_of with_energies
match-within os r =
    all-mapped _ (all_map (λ o e. le_trans (places-take o.holder.number (volume os) (places o.holder.purchase os))
    (le_trans (side-places o.holder.number o.holder.purchase os) (le_of_eq e))) (alone (λ o. o.offered) r))

-- Matching again: places look at holder, price and what is offered, none of which the match changes

module _ (g : Offer → ℕ) where
  -- an offer with another matched energy
  abbrev refill : Offer → Offer
  refill o = with_energies o.offered (g o) o

  -- their order does not look at what is matched
  stands-refill : (side : Bool) (a b : Offer) → stands_before side (refill a) (refill b) ≡ stands_before side a b
  unfolding unfold_match
  stands-refill true a b = refl
  stands-refill false a b = refl

  -- nor does putting one in its place
  insert-refill : (side : Bool) (o : Offer) (os : List Offer) → insert_by (stands_before side) (refill o) (map refill os) ≡ map refill (insert_by (stands_before side) o os)
  unfolding insert_by
  insert-refill side o [] = refl
  insert-refill side o (x ∷ os) =
      rw (stands-refill side o x) (by_bool (stands_before side o x) (λ e. rw e)
      (λ e. rw e (ap (λ (l : List Offer). refill x ∷ l) (insert-refill side o os))))

  -- nor sorting
  sort-refill : (side : Bool) (os : List Offer) → sort_by (stands_before side) (map refill os) ≡ map refill (sort_by (stands_before side) os)
  unfolding sort_by
  sort-refill side [] = refl
  sort-refill side (o ∷ os) = rw (sort-refill side os) (insert-refill side o (sort_by (stands_before side) os))

  -- nor laying out
  lay_out-refill : (os : List Offer) → lay_out (map refill os) ≡ lay_out os
  unfolding lay_out with_energies
  lay_out-refill [] = refl
  lay_out-refill (o ∷ os) = ap (λ (l : List Place). replicate o.offered (place_of o) ++ l) (lay_out-refill os)

  -- so the places do not
  pub places-refill : (side : Bool) (os : List Offer) → places side (map refill os) ≡ places side os
  unfolding places ordered with_energies
  places-refill side os = rw (keep-map refill (on_side side) os, sort-refill side (keep (on_side side) os)) (lay_out-refill (sort_by (stands_before side) (keep (on_side side) os)))

-- the match changes no place
pub places-again : (side : Bool) (os : List Offer) → places side (match_all os) ≡ places side os
unfolding match_all
places-again side os = places-refill (matched_of os) side os

-- so V stays
pub volume-again : (os : List Offer) → volume (match_all os) ≡ volume os
unfolding volume
volume-again os = rw (places-again false os, places-again true os)

-- and what is matched of an offer
pub matched-again : (os : List Offer) (o : Offer) → matched_of (match_all os) o ≡ matched_of os o
unfolding matched_of
matched-again os o = rw (volume-again os, places-again o.holder.purchase os)

-- matching again changes nothing
pub match-again : (os : List Offer) → match_all (match_all os) ≡ match_all os
unfolding match_all matched_of with_energies
match-again os = go os
  where
    go : (xs : List Offer) → map (λ o. with_energies o.offered (matched_of (match_all os) o) o) (map (λ o. with_energies o.offered (matched_of os o) o) xs)
        ≡ map (λ o. with_energies o.offered (matched_of os o) o) xs
    go [] = refl
    go (o ∷ xs) = ap₂ (λ (n : ℕ) (l : List Offer). with_energies o.offered n o ∷ l) (matched-again os o) (go xs)

-- K2: "the match itself stays in energies": it is the same where no unit has a loss, and so are step 1 and what step 2 compares.
use Prim.Native.Nat.{ℕ}
use mathlib.Core.Path.{◌≡◌, refl, ap, ap₂}
use mathlib.Core.Bool.{Bool, true, false, beq, not, ◌&&◌}
use mathlib.Core.List.{List, [], ◌∷◌, ◌++◌, map}
use mathlib.Core.Option.{Option, some, none as nothing}
use lib.Dec.{ltb}
use lib.ListN.{replicate}
use Rattle.rules.specs.Lists.{keep, sum_of, sum}
use Rattle.rules.specs.Match.{Offer, with_energies, better_price, stands_before, insert_by, sort_by, ordered, place_of, lay_out, places, volume, matched_of, match_all, hour_price}
use Rattle.rules.specs.Borders.{Directed, runs}
use Rattle.rules.specs.Withdrawal.{runs_in, runs_among, keep_matched, prices_over, purchases_below, sales_above, choose, group_of, without_loss, MatchInEnergies}
use Rattle.rules.proofs.BoolLaws.{by_bool}
use Rattle.rules.proofs.ListLaws.{keep-map}

-- The match

same-before : (side : Bool) (a b : Offer) → stands_before side (without_loss a) (without_loss b) ≡ stands_before side a b
unfolding without_loss stands_before better_price
same-before false a b = refl
same-before true a b = refl

insert-same : (side : Bool) (o : Offer) (os : List Offer)
    → insert_by (stands_before side) (without_loss o) (map without_loss os) ≡ map without_loss (insert_by (stands_before side) o os)
unfolding insert_by
insert-same side o [] = refl
insert-same side o (x ∷ xs) =
    rw (same-before side o x)
    (by_bool (stands_before side o x) (λ e. rw e refl) (λ e. rw e (ap (λ (r : List Offer). without_loss x ∷ r) (insert-same side o xs))))

sort-same : (side : Bool) (os : List Offer) → sort_by (stands_before side) (map without_loss os) ≡ map without_loss (sort_by (stands_before side) os)
unfolding sort_by
sort-same side [] = refl
sort-same side (o ∷ os) = rw (sort-same side os) (insert-same side o (sort_by (stands_before side) os))

lay-same : (os : List Offer) → lay_out (map without_loss os) ≡ lay_out os
unfolding lay_out without_loss
lay-same [] = refl
lay-same (o ∷ os) = ap (λ r. replicate o.offered (place_of o) ++ r) (lay-same os)

places-same : (side : Bool) (os : List Offer) → places side (map without_loss os) ≡ places side os
unfolding places ordered without_loss
places-same side os =
    rw (keep-map without_loss (λ o. beq o.holder.purchase side) os, sort-same side (keep (λ o. beq o.holder.purchase side) os))
    (lay-same (sort_by (stands_before side) (keep (λ o. beq o.holder.purchase side) os)))

volume-same : (os : List Offer) → volume (map without_loss os) ≡ volume os
unfolding volume
volume-same os = rw (places-same false os, places-same true os) refl

matched-same : (os : List Offer) (o : Offer) → matched_of (map without_loss os) (without_loss o) ≡ matched_of os o
unfolding matched_of without_loss
matched-same os o = rw (volume-same os, places-same o.holder.purchase os) refl

-- each offer of some, matched among os
match-same : (os xs : List Offer)
    → map (λ o. with_energies o.offered (matched_of (map without_loss os) o) o) (map without_loss xs)
    ≡ map without_loss (map (λ o. with_energies o.offered (matched_of os o) o) xs)
unfolding with_energies without_loss
match-same os [] = refl
match-same os (x ∷ xs) =
    ap₂ (λ (n : ℕ) (r : List Offer). without_loss (with_energies x.offered n x) ∷ r) (matched-same os x) (match-same os xs)

price-same : (os : List Offer) → hour_price (map without_loss os) ≡ hour_price os
unfolding hour_price
price-same os = rw (volume-same os, places-same false os) refl

-- Step 1

kept-same : (ds : List Directed) (os : List Offer) → map (keep_matched ds) (map without_loss os) ≡ map without_loss (map (keep_matched ds) os)
unfolding keep_matched runs_among runs_in runs with_energies without_loss
kept-same ds [] = refl
kept-same ds (o ∷ os) = ap (λ (r : List Offer). without_loss (keep_matched ds o) ∷ r) (kept-same ds os)

-- Step 2

-- what is read of each offer but its loss
read-same : {A : Type 0} (f : Offer → A) → ((o : Offer) → f (without_loss o) ≡ f o) → (os : List Offer) → map f (map without_loss os) ≡ map f os
read-same f h [] = refl
read-same f h (o ∷ os) = ap₂ (λ x r. x ∷ r) (h o) (read-same f h os)

prices-same : (side : Bool) (ds : List Directed) (os : List Offer) → prices_over side ds (map without_loss os) ≡ prices_over side ds os
unfolding prices_over runs_among runs_in runs without_loss
prices-same side ds os =
    let p : Offer → Bool = λ o. beq o.holder.purchase side && ltb 0 o.matched && not o.holder.legacy && runs_among ds o in
    rw (keep-map without_loss p os) (read-same (λ o. o.price) (λ o. refl) (keep p os))

below-same : (p : ℕ) (os : List Offer) → purchases_below p (map without_loss os) ≡ purchases_below p os
unfolding purchases_below sum_of without_loss
below-same p os =
    let q : Offer → Bool = λ o. o.holder.purchase && ltb o.price p in
    rw (keep-map without_loss q os) (ap sum (read-same (λ o. o.matched) (λ o. refl) (keep q os)))

above-same : (p : ℕ) (os : List Offer) → sales_above p (map without_loss os) ≡ sales_above p os
unfolding sales_above sum_of without_loss
above-same p os =
    let q : Offer → Bool = λ o. not o.holder.purchase && ltb p o.price in
    rw (keep-map without_loss q os) (ap sum (read-same (λ o. o.matched) (λ o. refl) (keep q os)))

choice-same : (os : List Offer) (p q : Option ℕ) → choose (map without_loss os) p q ≡ choose os p q
unfolding choose
choice-same os nothing nothing = refl
choice-same os (some p) nothing = refl
choice-same os nothing (some q) = refl
choice-same os (some p) (some q) = rw (below-same p os, above-same q os) refl

pub in-energies : MatchInEnergies
unfolding match_all group_of
in-energies os = record {
  matches = match-same os os;
  price = price-same os;
  kept = λ ds. kept-same ds os;
  prices = λ side ds. prices-same side ds os;
  purchases = λ p. below-same p os;
  sales = λ q. above-same q os;
  group = λ ds. rw (prices-same true ds os, prices-same false ds os) (choice-same os _ _);
}

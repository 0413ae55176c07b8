-- Prices and sums along a list of offers are the rules'.
use Rattle.std.proofs.Common.{zero-add, not, ◌&&◌, ltb, ℕ, ◌+◌, ◌^◌, ◌≡◌, refl, sym, ◌∙◌, ap, ◌<◌, ◌≤◌, min, max, Bool, true, false, cond, List, [], ◌∷◌, map, filter, fold, arith}
use Rattle.std.specs.Prelude.{sum}
use Rattle.std.specs.List.{reduce, sum_by}
use Rattle.std.proofs.lemmas.List.Sums.{sum_by-le-sum_by}
use Rattle.std.proofs.lemmas.Bool.{le-leb, lt-leb}
use Rattle.std.proofs.Math.Option.{Option, some, none}
use Rattle.std.specs.Prelude.{Option as Maybe}
use Rattle.rules.specs.Match.{Offer}
use Rattle.rules.specs.Borders.{Directed}
use Rattle.hour_offers.specs.declared.Offer.{Offer as Held}
use Rattle.hour_offers.specs.View.{offer_in, offers_in}
use Rattle.rules.specs.Lists.{keep, sum_of, sum as sum-of}
use Rattle.rules.specs.Withdrawal.{prices_over, further, extreme, purchases_below, sales_above, choose, group_of, at_price}
use Rattle.rules.proofs.BoolLaws.{by_bool}
use Rattle.rules.proofs.SumLaws.{cond-le}
use Rattle.hour_borders.specs.Directions.{over_in}
use Rattle.withdraw_keep.specs.Abroad.{abroad_of}
use Rattle.withdraw_keep.proofs.AbroadLaws.{prices-abroad}
use Rattle.withdraw_choose.specs.Prices.{priced_of, price_in}

-- those of a list that is read that pass a test
pub keep-read : {A B : Type 0} (r : A → B) (p : B → Bool) (xs : List A) → keep p (map r xs) ≡ map r (filter (λ x. p (r x)) xs)
unfolding keep
keep-read r p [] = refl
keep-read r p (x ∷ xs) = by_bool (p (r x)) (λ t. rw t (ap (λ l. r x ∷ l) (keep-read r p xs))) (λ t. rw t (keep-read r p xs))

pub map-read : {A B C : Type 0} (r : A → B) (g : B → C) (xs : List A) → map g (map r xs) ≡ map (λ x. g (r x)) xs
map-read r g [] = refl
map-read r g (x ∷ xs) = ap (λ l. g (r x) ∷ l) (map-read r g xs)

-- Prices

further-assoc : (f : ℕ → ℕ → ℕ) → ((a b c : ℕ) → f (f a b) c ≡ f a (f b c)) → (p q : ℕ) (e : Option ℕ) → further f (f p q) e ≡ f p (further f q e)
unfolding further
further-assoc f a p q none = refl
further-assoc f a p q (some e) = a p q e

reduced : (f : ℕ → ℕ → ℕ) → ((a b c : ℕ) → f (f a b) c ≡ f a (f b c)) → (p : ℕ) (ps : List ℕ) → fold f p ps ≡ further f p (extreme f ps)
unfolding further extreme
reduced f a p [] = refl
reduced f a p (q ∷ ps) = reduced f a (f p q) ps ∙ further-assoc f a p q (extreme f ps)

-- the least or the greatest of some prices
pub extreme-reduced : (f : ℕ → ℕ → ℕ) → ((a b c : ℕ) → f (f a b) c ≡ f a (f b c)) → (ps : List ℕ) → price_in (reduce f ps) ≡ extreme f ps
unfolding extreme
extreme-reduced f a [] = refl
extreme-reduced f a (p ∷ ps) = ap some (reduced f a p ps)

-- Sums

pub sum-read : (ns : List ℕ) → sum ns ≡ sum-of ns
unfolding sum-of
sum-read ns = added 0 ns ∙ zero-add (sum-of ns)
  where
    added : (a : ℕ) (ns : List ℕ) → fold (λ a x. a + x) a ns ≡ a + sum-of ns
    added a [] = omega arith
    added a (n ∷ ns) = omega (arith, added (a + n) ns)

-- the prices of one side
priced : (ds : List Directed) (os : List Held) (side : Bool) → map (λ (o : Held). o.price) (filter (λ o. priced_of side ds (offer_in o)) os) ≡ prices_over side ds (offers_in os)
unfolding prices_over
priced ds os side =
    sym (ap (map (λ (o : Offer). o.price)) (keep-read offer_in (priced_of side ds) os) ∙ map-read offer_in (λ (o : Offer). o.price) (filter (λ o. priced_of side ds (offer_in o)) os))

module _ (over : List ℕ) (os abroad : List Held) (at : offers_in abroad ≡ abroad_of (offers_in os)) where
  -- the least or the greatest of the prices of one side
  abbrev pub lowest : Maybe ℕ
  lowest = reduce min (map (λ (o : Held). o.price) (filter (λ o. priced_of true (over_in over) (offer_in o)) abroad))

  abbrev pub highest : Maybe ℕ
  highest = reduce max (map (λ (o : Held). o.price) (filter (λ o. priced_of false (over_in over) (offer_in o)) abroad))

  prices : (side : Bool) → map (λ (o : Held). o.price) (filter (λ o. priced_of side (over_in over) (offer_in o)) abroad) ≡ prices_over side (over_in over) (offers_in os)
  prices side = priced (over_in over) abroad side ∙ ap (prices_over side (over_in over)) at ∙ prices-abroad over side (offers_in os)

  -- the choice by both prices is the rules'
  pub chosen : {p q : Maybe ℕ} → p ≡ lowest → q ≡ highest → choose (offers_in os) (price_in p) (price_in q) ≡ group_of (over_in over) (offers_in os)
  unfolding group_of
  chosen {p} {q} h k =
      let a : price_in p ≡ extreme min (prices_over true (over_in over) (offers_in os)) = ap price_in h ∙ extreme-reduced min (λ a b c. omega arith) _ ∙ ap (extreme min) (prices true) in
      let b : price_in q ≡ extreme max (prices_over false (over_in over) (offers_in os)) = ap price_in k ∙ extreme-reduced max (λ a b c. omega arith) _ ∙ ap (extreme max) (prices false) in
      rw (a, b)

-- "all matched purchases in the hour below the first" and "all matched sales above the second"
summed : (f : Offer → Bool) (os : List Held) → sum (map (λ (o : Held). cond (f (offer_in o)) o.matched 0) os) ≡ sum_of (λ (o : Offer). o.matched) (keep f (offers_in os))
unfolding sum_of sum-of keep
summed f os = sum-read (map (λ (o : Held). cond (f (offer_in o)) o.matched 0) os) ∙ kept f os
  where
    kept : (f : Offer → Bool) (os : List Held) → sum-of (map (λ (o : Held). cond (f (offer_in o)) o.matched 0) os) ≡ sum_of (λ (o : Offer). o.matched) (keep f (offers_in os))
    kept f [] = refl
    kept f (o ∷ os) = by_bool (f (offer_in o)) (λ t. rw t (ap (λ n. o.matched + n) (kept f os))) (λ t. rw t (omega (arith, kept f os)))

pub below-read : (p : ℕ) (os : List Held) → sum (map (λ (o : Held). cond (o.holder.purchase && ltb o.price p) o.matched 0) os) ≡ purchases_below p (offers_in os)
unfolding purchases_below
below-read p os = summed (λ o. o.holder.purchase && ltb o.price p) os

pub above-read : (q : ℕ) (os : List Held) → sum (map (λ (o : Held). cond (not o.holder.purchase && ltb q o.price) o.matched 0) os) ≡ sales_above q (offers_in os)
unfolding sales_above
above-read q os = summed (λ o. not o.holder.purchase && ltb q o.price) os

-- which are no more than all that is matched
pub masked-fits : (f : Held → Bool) (os : List Held) → sum_by (λ o. o.matched) os < 2 ^ 32 → sum_by (λ o. cond (f o) o.matched 0) os < 2 ^ 32
masked-fits f os h = omega (arith, sum_by-le-sum_by (λ (o : Held). cond (f o) o.matched 0) (λ o. o.matched) os (λ o. cond-le (f o) o.matched))

-- "With both prices, purchases go if C ≤ V'"
pub purchases-go : (p q : ℕ) (os : List Held) {c v : ℕ} → c ≡ purchases_below p (offers_in os) → v ≡ sales_above q (offers_in os) → c ≤ v
    → at_price true p ≡ choose (offers_in os) (some p) (some q)
unfolding choose
purchases-go p q os h k l = rw (← h, ← k, le-leb _ _ l)

-- "else sales"
pub sales-go : (p q : ℕ) (os : List Held) {c v : ℕ} → c ≡ purchases_below p (offers_in os) → v ≡ sales_above q (offers_in os) → v < c
    → at_price false q ≡ choose (offers_in os) (some p) (some q)
unfolding choose
sales-go p q os h k l = rw (← h, ← k, lt-leb _ _ l)

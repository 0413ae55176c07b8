-- Where a market balance passes its maximum, a withdrawal step finds something to take.
use Prim.Native.Nat.{ℕ, ◌<◌, min, max}
use mathlib.Core.Path.{◌≡◌, refl, sym, ◌∙◌}
use mathlib.Core.Logic.{◌⊎◌, inl, inr, ⊎_elim}
use mathlib.Core.Bool.{Bool, true, false, cond, not, ◌&&◌, beq}
use mathlib.Core.List.{List, [], ◌∷◌, map}
use mathlib.Core.Option.{Option, some, none as nothing}
use native.Mathlib.Omega.{arith}
use lib.Dec.{leb, ltb}
use borrow.Author.Tests.{ltb-true, ltb-false, lt-ltb, eq-eqb, leb-true, leb-false}
use Rattle.rules.specs.Lists.{All, none, more, keep, any, sum, sum_of}
use Rattle.rules.specs.Match.{Offer}
use Rattle.rules.specs.Borders.{Directed, runs, flow}
use Rattle.rules.specs.Withdrawal.{runs_in, runs_among, prices_over, further, extreme, purchases_below, sales_above, Group, at_price, legacy_offers, choose, group_of, in_group, gives_way, amounts}
use Rattle.rules.proofs.BoolLaws.{by_bool, not-both, both, of-beq}
use Rattle.rules.proofs.ElementLaws.{all_both, Some, here, there, some-map, some-all, any-true}
use Rattle.rules.proofs.BalanceLaws.{market_flow}
use Rattle.rules.proofs.CrossingLaws.{at-le, at_some}

-- The extreme price is that of an offer

-- an offer that passes a test, at a price
abbrev Priced : (Offer → Bool) → ℕ → List Offer → Type 0
Priced t p os = Some (λ o. (t o ≡ true) × (o.price ≡ p)) os

-- prices that are there and equal
some_inj : {a b : ℕ} → some a ≡ some b → a ≡ b
some_inj h = cc

module _ (f : ℕ → ℕ → ℕ) (picks : (p q : ℕ) → (f p q ≡ p) ⊎ (f p q ≡ q)) (t : Offer → Bool) where
  -- the further of one price and others is that of an offer
  further-of : (o : Offer) (os : List Offer) (p : ℕ) → t o ≡ true → (r : Option ℕ) → ((q : ℕ) → r ≡ some q → Priced t q os)
      → further f o.price r ≡ p → Priced t p (o ∷ os)
  unfolding further
  further-of o os p e nothing rec h = here (e, h)
  further-of o os p e (some q) rec h =
      ⊎_elim (λ k. here (e, sym k ∙ h)) (λ k. there (some-map (λ x l. (l.0, l.1 ∙ sym k ∙ h)) (rec q refl))) (picks o.price q)

  -- an extreme price is that of an offer that passes the test
  extreme-of : (os : List Offer) (p : ℕ) → extreme f (map (λ o. o.price) (keep t os)) ≡ some p → Priced t p os
  unfolding extreme keep
  extreme-of [] p h = let z : ◌≡◌ {A = ℕ} 0 1 = cc in absurd (omega arith)
  extreme-of (o ∷ os) p h =
      by_bool (t o)
      (λ e. further-of o os p e (extreme f (map (λ o. o.price) (keep t os))) (λ q k. extreme-of os q k) (some_inj (rw e at h)))
      (λ e. there (extreme-of os p (rw e at h)))

  -- with no extreme price none passes
  extreme-none : (os : List Offer) → extreme f (map (λ o. o.price) (keep t os)) ≡ nothing → All (λ o. t o ≡ false) os
  unfolding extreme keep
  extreme-none [] h = none
  extreme-none (o ∷ os) h =
      by_bool (t o) (λ e. let k = rw e at h in let z : ◌≡◌ {A = ℕ} 0 1 = cc in absurd (omega arith)) (λ e. more e (extreme-none os (rw e at h)))

-- the lesser is one of the two
min-picks : (p q : ℕ) → (min p q ≡ p) ⊎ (min p q ≡ q)
min-picks p q = by_bool (leb p q) (λ e. inl (omega (arith, leb-true p q e))) (λ e. inr (omega (arith, leb-false p q e)))

-- and the greater
max-picks : (p q : ℕ) → (max p q ≡ p) ⊎ (max p q ≡ q)
max-picks p q = by_bool (leb p q) (λ e. inr (omega (arith, leb-true p q e))) (λ e. inl (omega (arith, leb-false p q e)))

-- From an offer to an amount

-- some direction has an amount to take from
abbrev pub Amount : Group → List Directed → List Offer → Type 0
Amount g ds os = Some (λ d. 0 < sum (amounts g d os)) ds

-- a matched offer of the group that runs in one of the directions
amount-of : (g : Group) (ds : List Directed) {os : List Offer} → Some (λ o. (0 < o.matched) × (in_group g o ≡ true) × (runs_among ds o ≡ true)) os → Amount g ds os
unfolding amounts gives_way runs_among sum
amount-of g ds (here {x = o} h) = some-map (λ d r. let k : runs_in d o ≡ true = r in rw (k, h.1) (omega (arith, at_some o.holder h.0))) (any-true (λ d. runs_in d o) ds h.2)
amount-of g ds (there s) = some-map (λ d r. omega arith) (amount-of g ds s)

-- "matched, non-legacy offers there in the direction passed", of one side
abbrev eligible : Bool → List Directed → Offer → Bool
eligible side ds o = beq o.holder.purchase side && ltb 0 o.matched && not o.holder.legacy && runs_among ds o

-- 3. the offer that has the extreme price gives its direction an amount
price-amount : (side : Bool) (ds : List Directed) {os : List Offer} (p : ℕ) → Priced (eligible side ds) p os → Amount (at_price side p) ds os
unfolding in_group
price-amount side ds p s = amount-of (at_price side p) ds (some-map facts s)
  where
    facts : (o : Offer) → (eligible side ds o ≡ true) × (o.price ≡ p) → (0 < o.matched) × (in_group (at_price side p) o ≡ true) × (runs_among ds o ≡ true)
    facts o h =
        let a = both (beq o.holder.purchase side && ltb 0 o.matched && not o.holder.legacy) (runs_among ds o) h.0 in
        let b = both (beq o.holder.purchase side && ltb 0 o.matched) (not o.holder.legacy) a.0 in
        let c = both (beq o.holder.purchase side) (ltb 0 o.matched) b.0 in
        (ltb-true 0 o.matched c.1, rw (c.0, b.1, eq-eqb o.price p h.1), a.1)

-- a flow has a matched offer
flow-of : (border : ℕ) (export : Bool) (os : List Offer) → 0 < market_flow border export os → Some (λ o. (runs border export o.holder ≡ true) × (0 < o.matched)) os
unfolding flow keep sum_of sum
flow-of border export [] h = absurd (omega arith)
flow-of border export (o ∷ os) h =
    by_bool (runs border export o.holder)
    (λ e. by_bool (ltb 0 o.matched) (λ k. here (e, ltb-true 0 o.matched k))
    (λ k. there (flow-of border export os (omega (arith, rw e at h, at-le o.holder o.matched, ltb-false 0 o.matched k)))))
    (λ e. there (flow-of border export os (rw e at h)))

-- 4. "With neither price": what is matched in a direction passed is legacy
legacy-amount : (d : Directed) (ds : List Directed) (os : List Offer) → All (λ o. eligible true (d ∷ ds) o ≡ false) os → All (λ o. eligible false (d ∷ ds) o ≡ false) os
    → 0 < market_flow d.border d.export os → Amount legacy_offers (d ∷ ds) os
unfolding in_group runs_among runs_in any
legacy-amount d ds os a b h =
    amount-of legacy_offers (d ∷ ds)
    (some-all (λ o r e. (r.1, legacy o r (e o.holder.purchase), rw r.0)) (flow-of d.border d.export os h) (all_both (λ o x y. sides o x y) a b))
  where
    sides : (o : Offer) → eligible true (d ∷ ds) o ≡ false → eligible false (d ∷ ds) o ≡ false → (side : Bool) → eligible side (d ∷ ds) o ≡ false
    sides o x y true = x
    sides o x y false = y

    legacy : (o : Offer) → (runs d.border d.export o.holder ≡ true) × (0 < o.matched) → eligible o.holder.purchase (d ∷ ds) o ≡ false → o.holder.legacy ≡ true
    legacy o r e =
        by_bool o.holder.legacy (λ k. k)
        (λ k. not-both (rw (r.0, of-beq o.holder.purchase o.holder.purchase refl, lt-ltb 0 o.matched r.1, k)) e)

-- whichever side goes
amount-cond : (b : Bool) (g h : Group) (ds : List Directed) (os : List Offer) → Amount g ds os → Amount h ds os → Amount (cond b g h) ds os
amount-cond true g h ds os x y = x
amount-cond false g h ds os x y = y

-- a step has something to take
pub something : (d : Directed) (ds : List Directed) (os : List Offer) → 0 < market_flow d.border d.export os → Amount (group_of (d ∷ ds) os) (d ∷ ds) os
unfolding group_of prices_over choose
something d ds os h = go (extreme min (prices_over true (d ∷ ds) os)) (extreme max (prices_over false (d ∷ ds) os)) refl refl
  where
    go : (x y : Option ℕ) → extreme min (prices_over true (d ∷ ds) os) ≡ x → extreme max (prices_over false (d ∷ ds) os) ≡ y
        → Amount (choose os x y) (d ∷ ds) os
    go nothing nothing e k =
        legacy-amount d ds os (extreme-none min min-picks (eligible true (d ∷ ds)) os e) (extreme-none max max-picks (eligible false (d ∷ ds)) os k) h
    go (some p) nothing e k = price-amount true (d ∷ ds) p (extreme-of min min-picks (eligible true (d ∷ ds)) os p e)
    go nothing (some q) e k = price-amount false (d ∷ ds) q (extreme-of max max-picks (eligible false (d ∷ ds)) os q k)
    go (some p) (some q) e k =
        amount-cond (leb (purchases_below p os) (sales_above q os)) (at_price true p) (at_price false q) (d ∷ ds) os
        (price-amount true (d ∷ ds) p (extreme-of min min-picks (eligible true (d ∷ ds)) os p e))
        (price-amount false (d ∷ ds) q (extreme-of max max-picks (eligible false (d ∷ ds)) os q k))

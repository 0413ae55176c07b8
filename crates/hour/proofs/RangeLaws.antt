-- The test of an hour and what it stands for.
use Prim.Native.Nat.{ℕ, zero, suc, ◌+◌, ◌≤◌, ◌<◌}
use mathlib.Core.Path.{◌≡◌, refl, sym, ◌∙◌}
use mathlib.Core.Bool.{Bool, true, false, not, true≢false}
use mathlib.Core.List.{List, [], ◌∷◌, map}
use native.Mathlib.Nat.{lt_trans}
use native.Mathlib.Omega.{arith}
use lib.Dec.{ltb, eqb}
use lib.ListN.{get_or, length, length-map}
use borrow.Author.Tests.{leb-true, le-leb, lt-ltb, ltb-true, ltb-false, le-ltb, eqb-true, eqb-false, ne_eqb, not-true}
use Rattle.std.specs.Prelude.{unwrap_or, Option, Some, None}
use Rattle.std.specs.List.{list_all}
use Rattle.rules.specs.Lists.{All, none, more, Pairwise, empty, ahead}
use Rattle.rules.specs.Units.{max_energy, max_price, max_loss, bad_number}
use Rattle.rules.specs.Match as M
use Rattle.rules.specs.Borders as B
use Rattle.rules.proofs.BoolLaws.{by_bool, both, neither}
use Rattle.rules.proofs.ListLaws.{all_map, all_append, all-mapped}
use Rattle.rules.proofs.ElementLaws.{all-unmapped, pairwise_map}
use Rattle.hour_offers.specs.View.{offer_in, execution_in, executions_in}
use Rattle.hour_offers.specs.Sound.{Sound, ExecutionInRange}
use Rattle.hour.specs.Ranges.{within, loss_within, holder_within, offer_within, execution_within, rises, capacity_within, lodged_within, offer_number, execution_number, capacities_within}
use Rattle.listed.specs.View.{listed}
use Rattle.listed.proofs.ViewLaws.{listed-few}
use Rattle.hour.specs.declared.Hour.{Hour}
use Rattle.hour.specs.View.{fresh_in, hour_in}
use Rattle.hour.specs.Units.{lodgement_of, lodgements_of}
use Rattle.hour_borders.specs.Directions.{energies_of}
use Rattle.hour.specs.Ready.{Between, HolderWithin, OfferWithin, ExecutionWithin, HourInRange, is_in_range}

-- Lists

module _ {A : Type 0} (p : A → Bool) where
  all-hold : (xs : List A) → list_all p xs ≡ true → All (λ x. p x ≡ true) xs
  all-hold [] e = none
  all-hold (x ∷ xs) e = let q = both _ _ e in more {x = x} q.0 (all-hold xs q.1)

  all-told : {xs : List A} → All (λ x. p x ≡ true) xs → list_all p xs ≡ true
  all-told none = refl
  all-told (more h t) = rw h (all-told t)

module _ {A : Type 0} (number : A → ℕ) where
  rise-holds : (xs : List A) → rises (map number xs) ≡ true → Pairwise (λ x y. number x < number y) xs
  unfolding rises
  rise-holds [] e = empty
  rise-holds (x ∷ []) e = ahead none empty
  rise-holds (x ∷ y ∷ ys) e =
      let q = both _ _ e in
      let h : number x < number y = ltb-true _ _ q.0 in
      elim (rise-holds (y ∷ ys) q.1) [ ahead a d ↦ ahead (more {x = y} h (all_map (λ z l. lt_trans h l) a)) (ahead a d) ]

  rise-told : {xs : List A} → Pairwise (λ x y. number x < number y) xs → rises (map number xs) ≡ true
  unfolding rises
  rise-told empty = refl
  rise-told (ahead none empty) = refl
  rise-told (ahead (more {x = y} h t) d) = rw (lt-ltb _ (number y) h) (rise-told d)

pub pairwise-unmapped : {A B : Type 0} {S : B → B → Type 0} (f : A → B) (xs : List A) → Pairwise S (map f xs) → Pairwise (λ x y. S (f x) (f y)) xs
pairwise-unmapped f [] empty = empty
pairwise-unmapped f (x ∷ xs) (ahead h t) = ahead (all-unmapped f xs h) (pairwise-unmapped f xs t)

-- What an element's test stands for

within-holds : (least most x : ℕ) → within least most x ≡ true → Between least most x
unfolding within
within-holds least most x e = let q = both _ _ e in (leb-true _ _ q.0, leb-true _ _ q.1)

within-told : (least most x : ℕ) → Between least most x → within least most x ≡ true
unfolding within
within-told least most x h = rw (le-leb least x h.0, le-leb x most h.1)

some : (x : ℕ) → (x ≡ 0 → ⊥) → 1 ≤ x
some zero f = absurd (f refl)
some (suc x) f = omega arith

good-number : (n : ℕ) → not (bad_number n) ≡ true → Between 1 65535 n
unfolding bad_number
good-number n h = let p = neither (eqb n 0) (ltb 65535 n) (not-true _ h) in (some n (eqb-false n 0 p.0), ltb-false 65535 n p.1)

number-told : (n : ℕ) → Between 1 65535 n → not (bad_number n) ≡ true
unfolding bad_number
number-told n h = rw (ne_eqb n 0 (λ z. absurd (omega arith)), le-ltb 65535 n h.1)

-- a loss: no more than any border has, and 0 for a sale and a domestic unit
abbrev LossWithin : M.Holder → Type 0
LossWithin x = (x.loss ≤ max_loss) × ((x.purchase ≡ false → x.loss ≡ 0) × (x.border ≡ 0 → x.loss ≡ 0))

loss-holds : (x : M.Holder) → loss_within x ≡ true → LossWithin x
unfolding loss_within
loss-holds x e =
    by_bool (eqb x.loss 0)
    (λ t. let z = eqb-true x.loss 0 t in (omega (arith, z), ((λ s. z), (λ h. z))))
    (λ t. let p = both _ _ (rw t at e) in
    let q = both _ _ p.1 in
    (leb-true _ _ q.1, ((λ s. absurd (true≢false (sym p.0 ∙ s))), (λ h. absurd (eqb-false x.border 0 (not-true _ q.0) h)))))

loss-told : (x : M.Holder) → LossWithin x → loss_within x ≡ true
unfolding loss_within
loss-told x r =
    by_bool (eqb x.loss 0) (λ t. rw t)
    (λ t. let some-loss = eqb-false x.loss 0 t in
    rw t (by_bool x.purchase (λ s. rw (s, ne_eqb x.border 0 (λ z. some-loss (r.1.1 z)), le-leb x.loss max_loss r.0)) (λ s. absurd (some-loss (r.1.0 s)))))

holder-holds : (first : ℕ) (x : M.Holder) → holder_within first x ≡ true → HolderWithin first x
unfolding holder_within
holder-holds first x e =
    let o = both _ _ e in
    let p = both _ _ o.0 in
    let q = both _ _ p.0 in
    let r = both _ _ q.0 in
    let l = loss-holds x o.1 in
    record {
      number = good-number x.number r.0;
      unit = good-number x.unit r.1;
      border = within-holds first 4 x.border q.1;
      legacy = λ t. some x.border (eqb-false x.border 0 (rw t at (not-true _ p.1)));
      loss = l.0;
      sale = l.1.0;
      domestic = l.1.1;
    }

holder-told : (first : ℕ) (x : M.Holder) → HolderWithin first x → holder_within first x ≡ true
unfolding holder_within
holder-told first x r =
    rw (number-told x.number r.number, number-told x.unit r.unit, within-told first 4 x.border r.border, loss-told x (r.loss, (r.sale, r.domestic)))
    (by_bool x.legacy (λ t. rw (t, ne_eqb x.border 0 (λ z. absurd (omega (arith, r.legacy t))))) (λ t. rw t))

offer-holds : (o : M.Offer) → offer_within o ≡ true → OfferWithin o
unfolding offer_within
offer-holds o e =
    let p = both _ _ e in
    let q = both _ _ p.0 in
    record { holder = holder-holds 0 o.holder q.0; price = leb-true _ _ q.1; energy = within-holds 1 max_energy o.offered p.1 }

offer-told : (o : M.Offer) → OfferWithin o → offer_within o ≡ true
unfolding offer_within
offer-told o r = rw (holder-told 0 o.holder r.holder, le-leb o.price max_price r.price, within-told 1 max_energy o.offered r.energy)

execution-holds : (x : B.Execution) → execution_within x ≡ true → ExecutionWithin x
unfolding execution_within
execution-holds x e = let p = both _ _ e in record { holder = holder-holds 1 x.holder p.0; energy = within-holds 1 max_energy x.energy p.1 }

execution-told : (x : B.Execution) → ExecutionWithin x → execution_within x ≡ true
unfolding execution_within
execution-told x r = rw (holder-told 1 x.holder r.holder, within-told 1 max_energy x.energy r.energy)

-- Capacities

capacity-holds : (c : Option ℕ) → capacity_within c ≡ true → unwrap_or c 0 ≤ max_energy
unfolding capacity_within
capacity-holds None e = omega arith
capacity-holds (Some x) e = leb-true _ _ e

capacity-told : (c : Option ℕ) → unwrap_or c 0 ≤ max_energy → capacity_within c ≡ true
unfolding capacity_within
capacity-told None l = refl
capacity-told (Some x) l = le-leb x max_energy l

pub capacity-small : {cs : List (Option ℕ)} → All (λ c. unwrap_or c 0 ≤ max_energy) cs → (d : ℕ) → unwrap_or (get_or cs d None) 0 ≤ max_energy
capacity-small none d = omega arith
capacity-small (more h t) zero = h
capacity-small (more h t) (suc d) = capacity-small t d

-- what stands at an index, 0 where nothing does
pub energy-of : (cs : List (Option ℕ)) (w : ℕ) → get_or (energies_of cs) w 0 ≡ unwrap_or (get_or cs w None) 0
unfolding energies_of
energy-of [] w = refl
energy-of (c ∷ cs) zero = refl
energy-of (c ∷ cs) (suc w) = energy-of cs w

-- The test of an hour

-- an hour that passes the test is in its ranges
pub range-holds : (h : Hour) → is_in_range h ≡ true → HourInRange h
unfolding is_in_range hour_in lodged_within capacities_within offer_within
range-holds h e =
    let os = listed h.offers in
    let xs = listed h.executions in
    let a = both _ _ e in
    let b = both _ _ a.1 in
    let c = both _ _ b.1 in
    let d = both _ _ c.1 in
    let o = both _ _ c.0 in
    let x = both _ _ d.0 in
    record {
      offering = leb-true _ _ a.0;
      room = leb-true _ _ b.0;
      offers = all-mapped fresh_in (all_map (λ o e. offer-holds (fresh_in o) e) (all-hold (λ o. offer_within (offer_in o)) os o.0));
      offers-rise = pairwise_map fresh_in (λ o p l. l) (rise-holds offer_number os o.1);
      executions = all-mapped execution_in (all_map (λ x e. execution-holds (execution_in x) e) (all-hold (λ x. execution_within (execution_in x)) xs x.0));
      executions-rise = pairwise_map execution_in (λ x y l. l) (rise-holds execution_number xs x.1);
      capacities = all_map (λ c e. capacity-holds c e) (all-hold capacity_within h.capacities d.1);
    }

-- an hour that is in them passes it
pub range-told : (h : Hour) → HourInRange h → is_in_range h ≡ true
unfolding is_in_range hour_in lodged_within capacities_within offer_within
range-told h r =
    let os = listed h.offers in
    let xs = listed h.executions in
    rw (
      le-leb h.offers.count 64 r.offering,
      le-leb (h.offers.count + h.executions.count) 128 r.room,
      all-told (λ o. offer_within (offer_in o)) (all_map (λ o e. offer-told (fresh_in o) e) (all-unmapped fresh_in os r.offers)),
      rise-told offer_number (pairwise-unmapped fresh_in os r.offers-rise),
      all-told (λ x. execution_within (execution_in x)) (all_map (λ x e. execution-told (execution_in x) e) (all-unmapped execution_in xs r.executions)),
      rise-told execution_number (pairwise-unmapped execution_in xs r.executions-rise),
      all-told capacity_within (all_map (λ c l. capacity-told c l) r.capacities),
    )

-- What it says of its parts

module _ {h : Hour} (r : HourInRange h) where
  -- its offers and executions are such as are cleared
  pub offers-sound : Sound (hour_in h).offers
  unfolding hour_in
  offers-sound = record {
    few = rw (length-map (listed h.offers) fresh_in) (omega (arith, r.offering, listed-few h.offers));
    rising = r.offers-rise;
    in_range = all-mapped fresh_in (all_map (λ o g. record { border = omega (arith, g.holder.border.1); price = g.price; offered = g.energy.1; matched = omega arith }) (all-unmapped fresh_in (listed h.offers) r.offers));
  }

  pub few-executions : length (listed h.executions) ≤ 128
  few-executions = omega (arith, r.room, listed-few h.executions)

  pub executions-in-range : All ExecutionInRange (executions_in (listed h.executions))
  unfolding hour_in
  executions-in-range = all_map (λ x g. record { border = omega (arith, g.holder.border.1); energy = g.energy.1 }) r.executions

  -- and both kinds together
  pub lodgements-in-range : All ExecutionInRange (lodgements_of (hour_in h))
  unfolding lodgements_of
  lodgements-in-range =
      all_append (all-mapped lodgement_of (all_map (λ o g. record { border = omega (arith, g.holder.border.1); energy = g.energy.1 }) r.offers))
      (all_map (λ x g. record { border = omega (arith, g.holder.border.1); energy = g.energy.1 }) r.executions)

  -- its capacities are in their range, and 0 stands where there is none
  pub capacities-small : (d : ℕ) → get_or (energies_of h.capacities) d 0 ≤ max_energy
  capacities-small d = rw (energy-of h.capacities d) (capacity-small r.capacities d)

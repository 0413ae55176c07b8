-- Demand 3 by units: what the queries give per unit, added up over the book's units, is what the hour's offers and executions have.
use Prim.Native.Nat.{ℕ, ◌+◌, ◌≤◌, ◌<◌}
use mathlib.Core.Path.{◌≡◌, refl, ap, ap₂, sym, subst, ◌∙◌}
use mathlib.Core.Logic.{◌↔◌}
use mathlib.Core.Bool.{Bool, true, false, cond, not, ◌&&◌, beq, false≢true}
use mathlib.Core.List.{List, [], ◌∷◌}
use native.Mathlib.Omega.{arith}
use lib.Dec.{ltb, eqb}
use borrow.Author.Tests.{eqb-true, eq-eqb, ne_eqb, ltb-true, ltb-false}
use Rattle.rules.specs.Lists.{All, none, more, Pairwise, empty, ahead, Each, each0, each, keep, any, first, sum, sum_of}
use Rattle.rules.specs.Units.{Registered, has_number, nobody, unit_of, is_registered}
use Rattle.rules.specs.Lodging.{Lodgement, energy_at}
use Rattle.rules.specs.Book.{Book}
use Rattle.rules.specs.Closing.{accepted_at}
use Rattle.rules.specs.Match.{Holder}
use Rattle.rules.specs.Borders.{Directed, Execution, runs}
use Rattle.rules.specs.Clearing.{holder_of, offer_at, execution_at, hour_of_day, figures_at}
use Rattle.rules.specs.Queries.{matched_at, executed_at}
use Rattle.rules.specs.Sound.{Sound}
use Rattle.rules.specs.Demands.{matched_on, CutDown, SomeCut, this, another, executions_at, accepted_executed, UnitCut}
use Rattle.rules.proofs.BoolLaws.{by_bool, both, of-both, beq-true, of-beq}
use Rattle.rules.proofs.ListLaws.{all_map, all_keep, all-mapped}
use Rattle.rules.proofs.ElementLaws.{all_both, Some, here, there, some-map, some-all}
use Rattle.rules.proofs.SumLaws.{sum_zeros, sum-keep, cond-le, each-le}
use Rattle.rules.proofs.SoundLaws.{figures-cleared}
use Rattle.rules.proofs.DemandLaws.{unit-number}

-- Elements

-- a conclusion that each possible element has
some_out : {A : Type 0} {P : A → Type 0} {C : Type 0} {xs : List A} → ((x : A) → P x → C) → Some P xs → C
some_out f (here {x} h) = f x h
some_out f (there s) = some_out f s

-- where one passes, the first that does is among them
first-among : {A : Type 0} (p : A → Bool) (d : A) (xs : List A) → any p xs ≡ true → Some (λ x. x ≡ first p d xs) xs
unfolding any first
first-among p d [] h = absurd (false≢true h)
first-among p d (x ∷ xs) h =
    by_bool (p x) (λ e. here (rw e)) (λ e. there (some-map (λ y k. rw e k) (first-among p d xs (rw e at h))))

-- what holds of each of a list is carried to another
each_all : {A B : Type 0} {R : A → B → Type 0} {P : A → Type 0} {Q : B → Type 0} → ((x : A) (y : B) → R x y → P x → Q y)
    → {xs : List A} {ys : List B} → Each R xs ys → All P xs → All Q ys
each_all f each0 none = none
each_all f (each {x} {y} h t) (more k u) = more (f x y h k) (each_all f t u)

-- a sum of which each is 0
sum-none : {A : Type 0} (f : A → ℕ) {xs : List A} → All (λ x. f x ≡ 0) xs → sum_of f xs ≡ 0
unfolding sum_of sum
sum-none f none = refl
sum-none f (more h t) = omega (arith, h, sum-none f t)

-- Sums by numbers that differ

module _ {U : Type 0} (number : U → ℕ) (p : U → Bool) (n : ℕ) (t : Bool) (k : ℕ) where
  -- an amount of number n
  abbrev amount : U → ℕ
  amount r = cond (eqb n (number r)) k 0

  -- where none has that number
  amount-none : {us : List U} → All (λ r. n ≡ number r → ⊥) us → sum_of amount (keep p us) ≡ 0
  amount-none a = sum-none amount (all_keep p (all_map (λ r w. rw (ne_eqb n (number r) w)) a))

  -- where one has it: it counts once, if that one passes
  amount-once : {us : List U} → Pairwise (λ r s. number r ≡ number s → ⊥) us → Some (λ r. (number r ≡ n) × (p r ≡ t)) us
      → sum_of amount (keep p us) ≡ cond t k 0
  amount-once empty x3 = elim x3 [ ]
  amount-once (ahead {x = r} {xs = us} a d) (here h) =
      let e : cond (p r) (cond (eqb n (number r)) k 0) 0 ≡ cond t k 0 = rw (h.1, eq-eqb n (number r) (sym h.0)) in
      omega (arith, e, sum-keep amount p r us, amount-none (all_map (λ s w e. w (h.0 ∙ e)) a))
  amount-once (ahead {x = r} {xs = us} a d) (there s) =
      let w : n ≡ number r → ⊥ = some_out (λ s u. u) (some-all (λ s h w e. w (sym e ∙ sym h.0)) s a) in
      let e : cond (eqb n (number r)) k 0 ≡ 0 = rw (ne_eqb n (number r) w) in
      omega (arith, e, sum-keep amount p r us, cond-le (p r) (cond (eqb n (number r)) k 0), amount-once d s)

module _ {U A : Type 0} (number : U → ℕ) (key f : A → ℕ) where
  -- one element more
  by-more : (x : A) (xs : List A) (us : List U) → sum_of (λ r. sum_of f (keep (λ y. eqb (key y) (number r)) (x ∷ xs))) us
      ≡ sum_of (λ r. cond (eqb (key x) (number r)) (f x) 0) us + sum_of (λ r. sum_of f (keep (λ y. eqb (key y) (number r)) xs)) us
  unfolding sum_of sum keep
  by-more x xs [] = refl
  by-more x xs (r ∷ us) = omega (arith, sum-keep f (λ y. eqb (key y) (number r)) x xs, by-more x xs us)

  -- where each element's number is that of one unit, and the element passes if that one does: the sums of the units that pass
  -- add up to that of the elements that do
  pub sum_by : (p : U → Bool) (q : A → Bool) {us : List U} → Pairwise (λ r s. number r ≡ number s → ⊥) us
      → {xs : List A} → All (λ x. Some (λ r. (number r ≡ key x) × (p r ≡ q x)) us) xs
      → sum_of (λ r. sum_of f (keep (λ x. eqb (key x) (number r)) xs)) (keep p us) ≡ sum_of f (keep q xs)
  unfolding sum_of sum keep
  sum_by p q {us} d none = sum_zeros (keep p us)
  sum_by p q {us} d (more {x} {xs} h t) =
      omega (arith, by-more x xs (keep p us), amount-once number p (key x) (q x) (f x) d h, sum-keep f q x xs, sum_by p q d t)

-- Holders

-- A unit has the number, border and side of a holder.
pub record Held (r : Registered) (x : Holder) : Type 0 where
  pub number : r.unit.number ≡ x.unit
  pub border : r.unit.border ≡ x.border
  pub purchase : r.unit.purchase ≡ x.purchase

-- A holder is that of the unit with its number.
pub record HeldIn (us : List Registered) (x : Holder) : Type 0 where
  pub registered : is_registered us x.unit ≡ true
  pub held : Held (unit_of us x.unit) x

-- the holder of a lodgement whose unit is registered
holder-held : (us : List Registered) (losses : List ℕ) (l : Lodgement) → is_registered us l.key.unit ≡ true → HeldIn us (holder_of us losses l)
unfolding holder_of
holder-held us losses l h =
    let e = unit-number us l.key.unit h in
    record {
      registered = ap (is_registered us) e ∙ h;
      held = record {
        number = ap (λ n. (unit_of us n).unit.number) e;
        border = ap (λ n. (unit_of us n).unit.border) e;
        purchase = ap (λ n. (unit_of us n).unit.purchase) e;
      };
    }

-- a unit is of a side as its holder is
side-agrees : (side : Bool) (r : Registered) (x : Holder) → Held r x → beq r.unit.purchase side ≡ beq x.purchase side
side-agrees side r x h = ap (λ p. beq p side) h.purchase

-- and of a border and a side
runs-agrees : (border : ℕ) (export : Bool) (r : Registered) (x : Holder) → Held r x
    → (eqb r.unit.border border && beq r.unit.purchase export) ≡ runs border export x
unfolding runs
runs-agrees border export r x h = ap₂ (λ n p. eqb n border && beq p export) h.border h.purchase

-- the unit is among the units
held-some : {us : List Registered} {x : Holder} → HeldIn us x → Some (λ r. Held r x) us
unfolding unit_of is_registered
held-some {us} {x} h = some-map (λ r e. subst (λ r. Held r x) (sym e) h.held) (first-among (has_number x.unit) nobody us h.registered)

-- each unit is the one with its number
unit-each : {us : List Registered} → Pairwise (λ r s. r.unit.number ≡ s.unit.number → ⊥) us → All (λ r. unit_of us r.unit.number ≡ r) us
unfolding unit_of has_number first
unit-each empty = none
unit-each (ahead {x = r} {xs = us} a d) =
    more {x = r} (rw (eq-eqb r.unit.number r.unit.number refl))
    (all_both (λ s w e. rw (ne_eqb r.unit.number s.unit.number w) e) a (unit-each d))

-- Cuts

-- the energy of a unit's executions
abbrev energy_of : ℕ → List Execution → ℕ
energy_of n xs = sum_of (λ x. x.energy) (keep (λ x. eqb x.holder.unit n) xs)

-- executions that are cut have no more energy
down_le : (n : ℕ) {xs ys : List Execution} → Each CutDown xs ys → energy_of n ys ≤ energy_of n xs
down_le n t =
    each-le (λ x. eqb x.holder.unit n) (λ x. x.energy) (λ x. x.energy) (λ x y k. (ap (λ h. eqb h.unit n) k.holder, k.energy)) t

module _ (n : ℕ) {x y : Execution} {xs ys : List Execution} (k : CutDown x y) (t : Each CutDown xs ys) where
  -- less in the others is less in all
  less-later : energy_of n ys < energy_of n xs → energy_of n (y ∷ ys) < energy_of n (x ∷ xs)
  unfolding sum_of sum keep
  less-later h = rw k.holder (by_bool (eqb x.holder.unit n) (λ e. rw e (omega (arith, k.energy, h))) (λ e. rw e h))

  -- so is less in the first, if it is the unit's
  less-here : n ≡ x.holder.unit → y.energy < x.energy → energy_of n (y ∷ ys) < energy_of n (x ∷ xs)
  unfolding sum_of sum keep
  less-here e l = rw (k.holder, eq-eqb x.holder.unit n (sym e)) (omega (arith, l, down_le n t))

module _ (c : Directed) where
  -- where some execution in a direction is cut, its unit has less
  cut-unit : {us : List Registered} {xs ys : List Execution} → Each CutDown xs ys → All (λ x. HeldIn us x.holder) xs → SomeCut c xs ys
      → Some (λ r. ((r.unit.border ≡ c.border) × (r.unit.purchase ≡ c.export)) × (energy_of r.unit.number ys < energy_of r.unit.number xs)) us
  unfolding runs
  cut-unit {us = us} each0 _ x8 = elim x8 [ ]
  cut-unit (each {x} k t) (more h u) (this e l) =
      let w = both (eqb x.holder.border c.border) (beq x.holder.purchase c.export) e in
      some-map (λ r g. ((g.border ∙ eqb-true _ _ w.0, g.purchase ∙ beq-true _ _ w.1), less-here r.unit.number k t g.number l))
      (held-some h)
  cut-unit (each k t) (more h u) (another m) = some-map (λ r g. (g.0, less-later r.unit.number k t g.1)) (cut-unit t u m)

  -- and where a unit's executions have less, one of them is cut
  unit-cut : (n : ℕ) {xs ys : List Execution} → Each CutDown xs ys → All (λ x. x.holder.unit ≡ n → runs c.border c.export x.holder ≡ true) xs
      → energy_of n ys < energy_of n xs → SomeCut c xs ys
  unfolding sum_of sum keep
  unit-cut n each0 none l = absurd (omega arith)
  unit-cut n (each {x} {y} k t) (more r u) l =
      by_bool (eqb x.holder.unit n)
      (λ e.
      by_bool (ltb y.energy x.energy) (λ d. this (r (eqb-true _ _ e)) (ltb-true _ _ d))
      (λ d. another (unit-cut n t u (omega (arith, rw (k.holder, e) at l, ltb-false y.energy x.energy d)))))
      (λ e. another (unit-cut n t u (rw (k.holder, e) at l)))

  -- a unit's executions run in the direction of its border and side
  unit_runs : (us : List Registered) (r : Registered) → unit_of us r.unit.number ≡ r → r.unit.border ≡ c.border → r.unit.purchase ≡ c.export
      → (x : Holder) → HeldIn us x → x.unit ≡ r.unit.number → runs c.border c.export x ≡ true
  unfolding runs
  unit_runs us r own border purchase x h e =
      let k : Held r x = subst (λ s. Held s x) (ap (unit_of us) e ∙ own) h.held in
      of-both (eq-eqb _ _ (sym k.border ∙ border)) (of-beq _ _ (sym k.purchase ∙ purchase))

-- The book's units

module _ (b : Book) (s : Sound b) where
  -- accepted lodgements have registered units
  accepted-held : All (λ l. HeldIn b.units (holder_of b.units b.losses l)) (accepted_at b)
  unfolding accepted_at
  accepted-held = all_keep _ (all_map (λ l k. holder-held b.units b.losses l k.registered) s.standing.holders)

  -- so each execution is a unit's
  executions-held : (h : ℕ) → All (λ x. HeldIn b.units x.holder) (executions_at b h)
  unfolding hour_of_day execution_at
  executions-held h = all-mapped (execution_at b.units b.losses h) (all_keep (λ l. l.key.execution) (all_keep (λ l. ltb 0 (energy_at l h)) accepted-held))

  -- after cuts too
  cut-held : (h : ℕ) → All (λ x. HeldIn b.units x.holder) (figures_at b h).executions
  cut-held h =
      each_all (λ x y k u. subst (HeldIn b.units) (sym k.holder) u) (figures-cleared b h s.standing.rising).executions (executions-held h)

  -- and each offer, as last matched
  offers-held : (h : ℕ) → All (λ o. HeldIn b.units o.holder) (figures_at b h).offers
  unfolding hour_of_day offer_at
  offers-held h =
      each_all (λ x y k u. subst (HeldIn b.units) (sym k.holder) u) (figures-cleared b h s.standing.rising).offers
      (all-mapped (offer_at b.units b.losses h) (all_keep (λ l. not l.key.execution) (all_keep (λ l. ltb 0 (energy_at l h)) accepted-held)))

  -- energies of the units that pass a test sum to those of the holders that pass it, where a unit passes just as its holders do
  sum-held : {A : Type 0} (holder : A → Holder) (energy : A → ℕ) (p : Registered → Bool) (q : Holder → Bool)
      → ((r : Registered) (x : Holder) → Held r x → p r ≡ q x) → {xs : List A} → All (λ x. HeldIn b.units (holder x)) xs
      → sum_of (λ r. sum_of energy (keep (λ x. eqb (holder x).unit r.unit.number) xs)) (keep p b.units) ≡ sum_of energy (keep (λ x. q (holder x)) xs)
  sum-held holder energy p q agree a =
      sum_by (λ r. r.unit.number) (λ x. (holder x).unit) energy p (λ x. q (holder x)) s.units.distinct
      (all_map (λ x h. some-map (λ r k. (k.number, agree r (holder x) k)) (held-some h)) a)

  -- the units of a side have matched as much as is matched on that side
  pub units-matched : (side : Bool) (h : ℕ)
      → sum_of (λ r. matched_at b r.unit.number h) (keep (λ r. beq r.unit.purchase side) b.units) ≡ matched_on side (figures_at b h).offers
  unfolding matched_at matched_on
  units-matched side h =
      sum-held (λ o. o.holder) (λ o. o.matched) (λ r. beq r.unit.purchase side) (λ x. beq x.purchase side) (side-agrees side) (offers-held h)

  -- "Matched sales equal matched purchases": the sale units' matched energy is the purchase units'
  pub units-balanced : (h : ℕ) → sum_of (λ r. matched_at b r.unit.number h) (keep (λ r. beq r.unit.purchase false) b.units)
      ≡ sum_of (λ r. matched_at b r.unit.number h) (keep (λ r. beq r.unit.purchase true) b.units)
  units-balanced h = units-matched false h ∙ (figures-cleared b h s.standing.rising).balanced ∙ sym (units-matched true h)

  -- the units of a border and side have matched as much as the offers that run there in that direction
  pub units-market : (border : ℕ) (export : Bool) (h : ℕ)
      → sum_of (λ r. matched_at b r.unit.number h) (keep (λ r. eqb r.unit.border border && beq r.unit.purchase export) b.units)
      ≡ sum_of (λ o. o.matched) (keep (λ o. runs border export o.holder) (figures_at b h).offers)
  unfolding matched_at
  units-market border export h = sum-held (λ o. o.holder) (λ o. o.matched) _ (runs border export) (runs-agrees border export) (offers-held h)

  -- and they have executed as much as the executions that run there
  pub units-executed : (border : ℕ) (export : Bool) (h : ℕ)
      → sum_of (λ r. executed_at b r.unit.number h) (keep (λ r. eqb r.unit.border border && beq r.unit.purchase export) b.units)
      ≡ sum_of (λ x. x.energy) (keep (λ x. runs border export x.holder) (figures_at b h).executions)
  unfolding executed_at
  units-executed border export h = sum-held (λ x. x.holder) (λ x. x.energy) _ (runs border export) (runs-agrees border export) (cut-held h)

  -- "with none cut" too
  pub units-accepted : (border : ℕ) (export : Bool) (h : ℕ)
      → sum_of (λ r. accepted_executed b r.unit.number h) (keep (λ r. eqb r.unit.border border && beq r.unit.purchase export) b.units)
      ≡ sum_of (λ x. x.energy) (keep (λ x. runs border export x.holder) (executions_at b h))
  unfolding accepted_executed
  units-accepted border export h = sum-held (λ x. x.holder) (λ x. x.energy) _ (runs border export) (runs-agrees border export) (executions-held h)

  -- "Some execution there in a direction is cut" exactly when a unit of that border and side has less executed than accepted
  pub some-cut-units : (c : Directed) (h : ℕ) → SomeCut c (executions_at b h) (figures_at b h).executions ↔ Some (UnitCut b c h) b.units
  unfolding executed_at accepted_executed
  some-cut-units c h =
      let t = (figures-cleared b h s.standing.rising).executions in
      let held = executions-held h in (
        λ m. some-map (λ r w. record { border = w.0.0; purchase = w.0.1; less = w.1 }) (cut-unit c t held m),
        λ m.
            some_out (λ r f. f) (some-all (λ r w own. unit-cut c r.unit.number t (all_map (λ x k e. unit_runs c b.units r own w.border w.purchase x.holder k e) held) w.less)
            m (unit-each s.units.distinct)),
      )

-- Demand 3, proved of the book after every list of calls.
use Prim.Native.Nat.{ℕ, zero, suc, ◌+◌, ◌≤◌}
use mathlib.Core.Path.{◌≡◌, refl, ap, ap₂, sym, ◌∙◌}
use mathlib.Core.Bool.{Bool, true, false, cond, not, beq}
use mathlib.Core.List.{List, map}
use mathlib.Core.Option.{some, none as nothing}
use native.Mathlib.Omega.{arith}
use lib.Dec.{ltb, eqb}
use borrow.Author.Tests.{eqb-true}
use Rattle.rules.specs.Lists.{All, none, more, Each, keep, any, sum, sum_of, hourly}
use Rattle.rules.specs.Units.{Registered, Published, Capacities, capacity_of, has_number, nobody, unit_of, is_registered}
use Rattle.rules.specs.Lodging.{Lodgement, energy_at}
use Rattle.rules.specs.Book.{Book, hours, ceiling_of}
use Rattle.rules.specs.Closing.{accepted_at}
use Rattle.rules.specs.Match.{Holder}
use Rattle.rules.specs.Borders.{Directed, runs}
use Rattle.rules.specs.Clearing.{holder_of, offer_at, execution_at, published, border_capacities, capacities_at, hour_of_day, figures_at}
use Rattle.rules.specs.Queries.{matched_at, executed_at}
use Rattle.rules.specs.DayBook.{Call, after}
use Rattle.rules.specs.Sound.{Sound}
use Rattle.rules.specs.Demands.{Begins, Uncut, executions_at, Cleared, BookDemand3}
use Rattle.rules.proofs.BoolLaws.{of-not, both, beq-true}
use Rattle.rules.proofs.ListLaws.{all_map, all_head, all_append, all_keep, of-any-false, first_passes, all-parts}
use Rattle.rules.proofs.ElementLaws.{each_weaken}
use Rattle.rules.proofs.SumLaws.{sum-keep, sum-some, sum-two}
use Rattle.rules.proofs.HourLaws.{unit-energy}
use Rattle.rules.proofs.SoundLaws.{figures-cleared}
use Rattle.rules.proofs.BookLaws.{begins-open, sound-after, closed_in, staged}
use Rattle.rules.proofs.ClosingLaws.{energy_on, closing-exactly, accepted-within}

-- Ceilings

-- a registered unit's entry has its number
pub unit-number : (us : List Registered) (n : ℕ) → is_registered us n ≡ true → (unit_of us n).unit.number ≡ n
unfolding is_registered unit_of has_number
unit-number us n h = eqb-true _ _ (first_passes (has_number n) nobody us h)

-- what a unit has of a list made from lodgements, each with its unit and energy
sum-made : {A : Type 0} (made : Lodgement → A) (unit energy : A → ℕ) (u h : ℕ) {ls : List Lodgement}
    → All (λ l. (unit (made l) ≡ l.key.unit) × (energy (made l) ≡ energy_at l h)) ls
    → sum_of energy (keep (λ x. eqb (unit x) u) (map made ls)) ≡ energy_on u h ls
unfolding keep sum_of sum
sum-made made unit energy u h none = refl
sum-made made unit energy u h (more {x = l} {xs = ls} k t) =
    omega (
      arith,
      sum-keep energy (λ x. eqb (unit x) u) (made l) (map made ls),
      sum-keep (λ l. energy_at l h) (λ l. eqb l.key.unit u) l ls,
      ap (λ v. cond (eqb v u) (energy (made l)) 0) k.0,
      ap (λ e. cond (eqb l.key.unit u) e 0) k.1,
      sum-made made unit energy u h t,
    )

module _ (b : Book) (s : Sound b) where
  -- accepted lodgements have registered units
  accepted-units : All (λ l. (unit_of b.units l.key.unit).unit.number ≡ l.key.unit) (accepted_at b)
  unfolding accepted_at
  accepted-units = all_keep _ (all_map (λ l k. unit-number b.units l.key.unit k.registered) s.standing.holders)

  -- what an hour is cleared from holds no more of a unit than its accepted lodgements
  hour-energy : (u h : ℕ) → sum_of (λ o. o.offered) (keep (λ o. eqb o.holder.unit u) (hour_of_day b (accepted_at b) h).offers)
      + sum_of (λ e. e.energy) (keep (λ e. eqb e.holder.unit u) (hour_of_day b (accepted_at b) h).executions)
      ≤ energy_on u h (accepted_at b)
  unfolding hour_of_day offer_at execution_at holder_of
  hour-energy u h =
      let named : List Lodgement = keep (λ l. ltb 0 (energy_at l h)) (accepted_at b) in
      let units : All (λ l. (unit_of b.units l.key.unit).unit.number ≡ l.key.unit) named = all_keep (λ l. ltb 0 (energy_at l h)) accepted-units in
      omega (
        arith,
        sum-made (offer_at b.units b.losses h) (λ o. o.holder.unit) (λ o. o.offered) u h (all_keep (λ l. not l.key.execution) (all_map (λ l e. (e, refl)) units)),
        sum-made (execution_at b.units b.losses h) (λ x. x.holder.unit) (λ x. x.energy) u h (all_keep (λ l. l.key.execution) (all_map (λ l e. (e, refl)) units)),
        sum-two (λ l. energy_at l h) (λ l. eqb l.key.unit u) (λ l. l.key.execution) named,
        sum-some (λ l. energy_at l h) (λ l. eqb l.key.unit u) (λ l. ltb 0 (energy_at l h)) (accepted_at b),
      )

  -- "no unit's energy passes its ceiling"
  pub within-ceilings : (u h : ℕ) → 1 ≤ h → h ≤ hours b → matched_at b u h + executed_at b u h ≤ ceiling_of b u h
  unfolding matched_at executed_at
  within-ceilings u h low high =
      omega (arith, unit-energy (figures-cleared b h s.standing.rising) u, hour-energy u h, accepted-within b s.standing.rising u h low high)

-- Borders

module _ {P : Directed → Type 0} (cs : Capacities) (h : ℕ) where
  -- a published direction is among its border's
  of-border : (border : ℕ) (export : Bool) (es : List ℕ) → capacity_of cs border export ≡ some es → All P (border_capacities cs h border)
      → P (record { border = border; export = export; energy = hourly es h })
  unfolding border_capacities published
  of-border border true es e a = all_head (rw e at (all-parts (published h border true (capacity_of cs border true)) a).0)
  of-border border false es e a = all_head (rw e at (all-parts (published h border true (capacity_of cs border true)) a).1)

  -- and its border among the four
  of-capacities : (border : ℕ) (export : Bool) (es : List ℕ) → 1 ≤ border → border ≤ 4 → capacity_of cs border export ≡ some es → All P (capacities_at cs h)
      → P (record { border = border; export = export; energy = hourly es h })
  unfolding capacities_at
  of-capacities border export es low high e a =
      let a1 = all-parts (border_capacities cs h 1) a in
      let a2 = all-parts (border_capacities cs h 2) a1.1 in
      let a3 = all-parts (border_capacities cs h 3) a2.1 in
      of-border border export es e (go border low high a1.0 a2.0 a3.0 a3.1)
    where
      go : (border : ℕ) → 1 ≤ border → border ≤ 4 → All P (border_capacities cs h 1) → All P (border_capacities cs h 2) → All P (border_capacities cs h 3)
          → All P (border_capacities cs h 4) → All P (border_capacities cs h border)
      go zero low high a1 a2 a3 a4 = absurd (omega arith)
      go (suc zero) low high a1 a2 a3 a4 = a1
      go (suc (suc zero)) low high a1 a2 a3 a4 = a2
      go (suc (suc (suc zero))) low high a1 a2 a3 a4 = a3
      go (suc (suc (suc (suc zero)))) low high a1 a2 a3 a4 = a4
      go (suc (suc (suc (suc (suc n))))) low high a1 a2 a3 a4 = absurd (omega arith)

-- What is absent

module _ (cs : Capacities) (h border : ℕ) (export : Bool) (absent : capacity_of cs border export ≡ nothing) where
  -- a direction that is published is another one
  published-other : (k : ℕ) (out : Bool) (p : Published) → capacity_of cs k out ≡ p → All (λ d. (d.border ≡ border) × (d.export ≡ export) → ⊥) (published h k out p)
  unfolding published
  published-other k out nothing e = none
  published-other k out (some es) e =
      more (λ q. let f : some es ≡ nothing = sym e ∙ (ap₂ (λ i w. capacity_of cs i w) q.0 q.1 ∙ absent) in let z : ◌≡◌ {A = ℕ} 0 1 = cc in omega arith) none

  border-other : (k : ℕ) → All (λ d. (d.border ≡ border) × (d.export ≡ export) → ⊥) (border_capacities cs h k)
  unfolding border_capacities
  border-other k = all_append (published-other k true (capacity_of cs k true) refl) (published-other k false (capacity_of cs k false) refl)

  all-other : All (λ d. (d.border ≡ border) × (d.export ≡ export) → ⊥) (capacities_at cs h)
  unfolding capacities_at
  all-other = all_append (border-other 1) (all_append (border-other 2) (all_append (border-other 3) (border-other 4)))

  -- what runs in it runs in no published one
  runs_other : (x : Holder) → runs border export x ≡ true → any (λ d. runs d.border d.export x) (capacities_at cs h) ≡ false
  unfolding runs
  runs_other x r =
      let a = both (eqb x.border border) (beq x.purchase export) r in
      of-any-false _ (all_map (λ d f. of-not _ (λ t.
      let k = both (eqb x.border d.border) (beq x.purchase d.export) t in
      f (sym (eqb-true _ _ k.0) ∙ eqb-true _ _ a.0, sym (beq-true x.purchase d.export k.1) ∙ beq-true x.purchase export a.1))) all-other)

-- so no execution is cut there
pub absent-uncut : (b : Book) (h border : ℕ) (export : Bool) → Sound b → capacity_of b.capacities border export ≡ nothing
    → Each (Uncut border export) (executions_at b h) (figures_at b h).executions
unfolding hour_of_day
absent-uncut b h border export s e =
    each_weaken (λ x y k. record { energy = λ r. k (runs_other b.capacities h border export e x.holder r) }) (figures-cleared b h s.standing.rising).uncut

-- Demand 3

-- of an hour of a sound book
pub hour-demanded : (b : Book) → Sound b → (h : ℕ) → 1 ≤ h → h ≤ hours b → Cleared b h
unfolding hour_of_day
hour-demanded b s h low high =
    let k = figures-cleared b h s.standing.rising in
    record {
      balanced = k.balanced;
      ceilings = λ u. within-ceilings b s u h low high;
      executions = k.executions;
      withdrawal = record { none_over = k.no-overrun; counted = k.steps };
      borders = λ border export es l u e. of-capacities b.capacities h border export es l u e k.borders;
      uncut = λ border export e. absent-uncut b h border export s e;
    }

-- of a list of calls, from every book that lists start from
pub book-demand-3 : {b : Book} → Begins b → (cs : List Call) → BookDemand3 b cs
book-demand-3 {b} g cs =
    let start = begins-open g in
    let stage = staged b cs start.0 start.1 in
    let sound = sound-after g cs in
    record {
      stage = stage;
      found = λ a. closed_in b cs start.0 (stage.closed.0 a);
      closing = λ a. closing-exactly (after b cs) sound.standing.rising;
      clearing = λ a h low high. hour-demanded (after b cs) sound h low high;
    }

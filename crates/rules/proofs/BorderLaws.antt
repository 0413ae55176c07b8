-- The cut of executions: market plus bilateral balance keeps within each published capacity, executions in a direction are cut
-- exactly when the sum with none cut passes it, and the cut sum then stands at it.
use Prim.Native.Nat.{ℕ, ◌+◌, ◌-◌, ◌≤◌, ◌<◌}
use mathlib.Core.Path.{◌≡◌, refl, ap, ap₂, ◌∙◌}
use mathlib.Core.Bool.{Bool, true, false, cond, not, not-not}
use mathlib.Core.List.{List, [], ◌∷◌, map}
use native.Mathlib.Omega.{arith}
use native.Mathlib.Nat.{le_refl, le_trans}
use lib.Dec.{ltb}
use borrow.Author.Tests.{ltb-true, ltb-false}
use Rattle.rules.specs.Lists.{All, none, more, Each3, three0, three, keep, any, sum, sum_of, add_each}
use Rattle.rules.specs.Match.{Offer}
use Rattle.rules.specs.Borders.{Directed, Execution, runs, at_border, keeps, flow}
use Rattle.rules.specs.Executions.{bilateral_excess, cuts, all_cuts, less_each, cut_all}
pub use Rattle.rules.specs.Demands.{CutDown, SomeCut, this, another, amounts_on, KeepsLargest, BorderCleared}
unfoldable pub use Rattle.rules.specs.Demands.{deducted}
use Rattle.rules.proofs.BoolLaws.{by_bool, not-both, of-not}
use Rattle.rules.proofs.ElementLaws.{all_both, empty, ahead, Each, each0, each, each-refl}
use Rattle.rules.proofs.ShareLaws.{Under, under0, under, each-sum, share-sum, share-under}
use Rattle.rules.proofs.SumLaws.{sum_zeros, cond-le, masked, none_left, zeros-under, masked-sum, under-add, passing, passing-self, passing-none, passing-add, passing-le, add-zeros}
use Rattle.rules.proofs.BalanceLaws.{market_flow, execution_flow, crossing-flows, bilateral-flows, passes-excess, sub-le, sub_at}
use Rattle.rules.proofs.DirectionLaws.{same_direction, same_parts, Once, runs-one, runs_none}
use Rattle.rules.proofs.CrossingLaws.{kept_at, kept_less, kept-le, kept-all, kept-some, keeps-largest}

-- What a cut leaves

-- an execution runs in a direction
abbrev on : Directed → Execution → Bool
on c x = runs c.border c.export x.holder

-- in one of some directions
abbrev among : List Directed → Execution → Bool
among cs x = any (λ c. runs c.border c.export x.holder) cs

-- what an execution counts for at its border
abbrev counted : Execution → ℕ
counted x = at_border x.holder x.energy

-- the energy left when k of what counts is taken
abbrev left : Execution → ℕ → ℕ
left x k = keeps x.holder x.energy k

-- one execution after a cut
down : (x : Execution) (k : ℕ) → CutDown x (record { holder = x.holder; energy = left x k })
down x k = record { holder = refl; energy = kept-le x.holder x.energy k }

-- an execution's energy after cuts is at most its energy
pub less-down : (ls : List ℕ) (xs : List Execution) → Each CutDown xs (less_each ls xs)
unfolding less_each
less-down ls [] = each0
less-down [] (x ∷ xs) = each-refl (λ x. record { holder = refl; energy = le_refl x.energy }) (x ∷ xs)
less-down (l ∷ ls) (x ∷ xs) = each (down x l) (less-down ls xs)

-- deductions none of which is above what the execution counts for
module _ (q : Execution → Bool) where
  -- so each can be taken
  within : (x : Execution) {k : ℕ} → k ≤ cond (q x) (counted x) 0 → k ≤ counted x
  within x h = le_trans h (cond-le (q x) (counted x))

  -- who is in none of the directions loses nothing
  all_left : (x : Execution) (k : ℕ) → q x ≡ false → k ≤ cond (q x) (counted x) 0 → left x k ≡ x.energy
  all_left x k e h = ap (left x) (none_left (q x) (counted x) e h) ∙ kept-all x.holder x.energy

  -- the flow after the deductions, and what was deducted from it
  less-flow : (border : ℕ) (export : Bool) {ls : List ℕ} (xs : List Execution) → Under ls (masked q counted xs)
      → execution_flow border export (less_each ls xs) + sum (passing (λ x. runs border export x.holder) ls xs) ≡ execution_flow border export xs
  unfolding flow keep sum_of sum less_each passing
  less-flow border export [] under0 = refl
  less-flow border export (x ∷ xs) (under {a = k} h t) =
      by_bool (runs border export x.holder)
      (λ e. rw e (omega (arith, within x h, kept_at x.holder x.energy k, less-flow border export xs t)))
      (λ e. rw e (omega (arith, less-flow border export xs t)))

  -- the energy deducted in a direction is the part that passes it
  deducted-passing : (c : Directed) {ls : List ℕ} (xs : List Execution) → Under ls (masked q counted xs) → deducted c xs (less_each ls xs) ≡ passing (on c) ls xs
  unfolding deducted less_each passing
  deducted-passing c [] under0 = refl
  deducted-passing c (x ∷ xs) (under {a = k} h t) =
      ap₂ (λ (n : ℕ) (r : List ℕ). cond (on c x) n 0 ∷ r) (omega (arith, within x h, kept_at x.holder x.energy k)) (deducted-passing c xs t)

  -- and each that runs there keeps the largest energy with the border figure that is left
  less-largest : (c : Directed) {ls : List ℕ} (xs : List Execution) → Under ls (masked q counted xs)
      → Each3 (KeepsLargest c) xs (passing (on c) ls xs) (less_each ls xs)
  unfolding less_each passing
  less-largest c [] under0 = three0
  less-largest c (x ∷ xs) (under {a = k} h t) =
      three {y = cond (on c x) k 0} {z = record { holder = x.holder; energy = left x k }} (λ e. rw e (keeps-largest x.holder x.energy k)) (less-largest c xs t)

  -- where something is deducted in a direction some execution is cut
  some-of-sum : (c : Directed) {ls : List ℕ} (xs : List Execution) → Under ls (masked q counted xs) → 0 < sum (passing (on c) ls xs) → SomeCut c xs (less_each ls xs)
  unfolding less_each passing sum
  some-of-sum c [] under0 k = absurd (omega arith)
  some-of-sum c (x ∷ xs) (under {a = k} h t) s =
      by_bool (on c x)
      (λ e. by_bool (ltb 0 k) (λ p. this e (omega (arith, kept_less x.holder x.energy k (within x h), ltb-true 0 k p)))
      (λ p. another (some-of-sum c xs t (omega (arith, rw e at s, ltb-false 0 k p)))))
      (λ e. another (some-of-sum c xs t (omega (arith, rw e at s))))

  -- and the other way
  sum-of-some : (c : Directed) {ls : List ℕ} (xs : List Execution) → Under ls (masked q counted xs) → SomeCut c xs (less_each ls xs) → 0 < sum (passing (on c) ls xs)
  unfolding less_each passing sum
  sum-of-some c {ls = ls} [] _ x3 = elim x3 [ ]
  sum-of-some c (x ∷ xs) (under {a = k} h t) (this r l) = rw r (omega (arith, kept-some x.holder x.energy k l))
  sum-of-some c (x ∷ xs) (under h t) (another s) = omega (arith, sum-of-some c xs t s)

  -- who is in none of the directions keeps all
  less_other : {ls : List ℕ} (xs : List Execution) → Under ls (masked q counted xs) → Each (λ x y. q x ≡ false → y.energy ≡ x.energy) xs (less_each ls xs)
  unfolding less_each
  less_other [] under0 = each0
  less_other (x ∷ xs) (under {a = k} h t) = each (λ e. all_left x k e h) (less_other xs t)

-- The cuts

-- the market alone fits in what the capacity and the flows against the direction leave
unfoldable pub Fits : List Offer → List Execution → Directed → Type 0
Fits os xs c =
    market_flow c.border c.export os ≤ market_flow c.border (not c.export) os + execution_flow c.border (not c.export) xs + c.energy

-- the amounts in a direction sum to what the executions count for in it
pub amounts-flow : (c : Directed) (xs : List Execution) → sum (amounts_on c xs) ≡ execution_flow c.border c.export xs
unfolding flow
amounts-flow c xs = masked-sum counted (on c) xs

module _ (os : List Offer) (xs : List Execution) where
  -- "R ≤ G": the excess is at most what the executions in that direction count for
  pub excess-le : (c : Directed) → Fits os xs c → bilateral_excess os xs c ≤ execution_flow c.border c.export xs
  unfolding Fits
  excess-le c f = omega (arith, bilateral-flows os xs c)

  -- Share takes from no execution more than it has
  cuts-under : (c : Directed) → Fits os xs c → Under (cuts os xs c) (amounts_on c xs)
  unfolding cuts
  cuts-under c f = share-under _ _ (omega (arith, excess-le c f, amounts-flow c xs))

  -- in all it takes the excess
  cuts-sum : (c : Directed) → Fits os xs c → sum (cuts os xs c) ≡ bilateral_excess os xs c
  unfolding cuts
  cuts-sum c f = share-sum _ _ (omega (arith, excess-le c f, amounts-flow c xs))

  -- in all directions together too no execution loses more than it has
  all-cuts-under : {cs : List Directed} → Once cs → All (Fits os xs) cs → Under (all_cuts os xs cs) (masked (among cs) counted xs)
  unfolding all_cuts any
  all-cuts-under empty none = zeros-under xs
  all-cuts-under (ahead {x = c} {xs = cs} a t) (more f fs) =
      under-add counted (on c) (among cs) (runs_none (λ x. x.holder) on (λ d x h. h) a) xs (cuts-under c f) (all-cuts-under t fs)

  -- in a direction each loses what Share takes there: later directions take nothing from it
  own-cuts : (c : Directed) {cs : List Directed} → All (λ d. same_direction c d ≡ false) cs → Once cs → Fits os xs c → All (Fits os xs) cs
      → passing (on c) (add_each (cuts os xs c) (all_cuts os xs cs)) xs ≡ cuts os xs c
  own-cuts c {cs} a t f fs =
      passing-add (on c) (cuts os xs c) (all_cuts os xs cs) xs
      ∙ ap₂ add_each (passing-self counted (on c) xs (cuts-under c f))
      (passing-none counted (on c) (among cs) (λ x h. of-not (on c x) (λ e. not-both h (behind a x e))) xs (all-cuts-under t fs))
      ∙ (add-zeros counted (on c) xs (cuts-under c f)).0
    where
      behind : {cs : List Directed} → All (λ d. same_direction c d ≡ false) cs → (x : Execution) → on c x ≡ true → among cs x ≡ false
      behind = runs_none (λ x. x.holder) on (λ d x h. h)

  -- nor does one that stands in front
  other-cuts : (c d : Directed) (ls : List ℕ) → same_direction c d ≡ false → Fits os xs c
      → passing (on d) (add_each (cuts os xs c) ls) xs ≡ add_each (map (λ x. 0) xs) (passing (on d) ls xs)
  other-cuts c d ls n f =
      passing-add (on d) (cuts os xs c) ls xs
      ∙ ap (λ (k : List ℕ). add_each k (passing (on d) ls xs)) (passing-none counted (on d) (on c) (λ x h. runs-one c d x.holder n h) xs (cuts-under c f))

  -- so in each direction the executions lose what Share takes there
  passing-cuts : {cs : List Directed} → Once cs → All (Fits os xs) cs → All (λ c. passing (on c) (all_cuts os xs cs) xs ≡ cuts os xs c) cs
  unfolding all_cuts
  passing-cuts empty none = none
  passing-cuts (ahead {x = c} {xs = cs} a t) (more f fs) =
      more (own-cuts c a t f fs)
      (all_both {P = λ d. (same_direction c d ≡ false) × Fits os xs d} (λ d n e. other-cuts c d (all_cuts os xs cs) n.0 f ∙ ap (add_each (map (λ x. 0) xs)) e ∙ (add-zeros counted (on d) xs (cuts-under d n.1)).1)
      (all_both (λ d n g. (n, g)) a fs) (passing-cuts t fs))

  -- by how far the flows in a direction pass those against it
  abbrev surplus : ℕ → Bool → ℕ
  surplus border export =
      (market_flow border export os + execution_flow border export xs) - (market_flow border (not export) os + execution_flow border (not export) xs)

  -- in any direction no more is cut than that
  passing-bound : (d : Directed) {cs : List Directed} → Once cs → All (Fits os xs) cs
      → sum (passing (on d) (all_cuts os xs cs) xs) ≤ surplus d.border d.export
  unfolding all_cuts
  passing-bound d empty none = omega (arith, passing-le (on d) (map (λ x. 0) xs) xs, sum_zeros xs)
  passing-bound d (ahead {x = c} {xs = cs} a t) (more f fs) =
      by_bool (same_direction c d)
      (λ e. let k = same_parts c d e in
      let all = add_each (cuts os xs c) (all_cuts os xs cs) in
      let same : sum (passing (on c) all xs) ≡ sum (passing (on d) all xs) = ap₂ (λ border export. sum (passing (λ x. runs border export x.holder) all xs)) k.0 k.1 in
      let flows : surplus c.border c.export ≡ surplus d.border d.export = ap₂ surplus k.0 k.1 in
      omega (arith, ap sum (own-cuts c a t f fs), cuts-sum c f, bilateral-flows os xs c))
      (λ e. omega (
        arith,
        ap sum (other-cuts c d (all_cuts os xs cs) e f),
        each-sum (map (λ x. 0) xs) (passing (on d) (all_cuts os xs cs) xs),
        sum_zeros xs,
        passing-bound d t fs,
      ))

module _ (os : List Offer) (xs : List Execution) {cs : List Directed} (once : Once cs) (fits : All (Fits os xs) cs) where
  -- the executions after cuts
  abbrev after : List Execution
  after = less_each (all_cuts os xs cs) xs

  -- the flow after cuts, and what was cut in it
  after-flow : (border : ℕ) (export : Bool)
      → execution_flow border export after + sum (passing (λ x. runs border export x.holder) (all_cuts os xs cs) xs) ≡ execution_flow border export xs
  after-flow border export = less-flow (among cs) border export xs (all-cuts-under os xs once fits)

  module _ (c : Directed) (f : Fits os xs c) (own : passing (on c) (all_cuts os xs cs) xs ≡ cuts os xs c) where
    -- in a published direction that is the excess
    taken : sum (passing (on c) (all_cuts os xs cs) xs) ≡ bilateral_excess os xs c
    taken = ap sum own ∙ cuts-sum os xs c f

    -- the executions' flow in the direction falls by it
    flow-in : execution_flow c.border c.export after + bilateral_excess os xs c ≡ execution_flow c.border c.export xs
    flow-in = omega (arith, after-flow c.border c.export, taken)

    -- their flow against it falls at most by how far what flows against it passes what flows in it
    flow-against : execution_flow c.border (not c.export) xs ≤ execution_flow c.border (not c.export) after
        + ((market_flow c.border (not c.export) os + execution_flow c.border (not c.export) xs)
        - (market_flow c.border c.export os + execution_flow c.border c.export xs))
    flow-against =
        omega (
          arith,
          after-flow c.border (not c.export),
          rw (not-not c.export) at (passing-bound os xs (record { border = c.border; export = not c.export; energy = 0 }) once fits),
        )

    -- after cuts what flows in the direction is within the capacity and what flows against it
    within-after : market_flow c.border c.export os + execution_flow c.border c.export after
        ≤ market_flow c.border (not c.export) os + execution_flow c.border (not c.export) after + c.energy
    within-after = omega (arith, flow-in, flow-against, bilateral-flows os xs c)

    -- and where there was an excess, at them
    at_after : 0 < bilateral_excess os xs c → market_flow c.border c.export os + execution_flow c.border c.export after
        ≡ market_flow c.border (not c.export) os + execution_flow c.border (not c.export) after + c.energy
    at_after h = omega (arith, flow-in, flow-against, after-flow c.border (not c.export), bilateral-flows os xs c)

    -- all that holds there
    border-cleared : BorderCleared c os xs after
    unfolding cuts
    border-cleared =
        record {
          within = rw (crossing-flows c os after) (sub-le _ _ _ within-after);
          cut = (
            (λ s. (passes-excess c os xs).1 (omega (arith, taken, sum-of-some (among cs) c xs (all-cuts-under os xs once fits) s))),
            (λ h. some-of-sum (among cs) c xs (all-cuts-under os xs once fits) (omega (arith, taken, (passes-excess c os xs).0 h))),
          );
          stands = λ h. rw (crossing-flows c os after) (sub_at _ _ _ (at_after ((passes-excess c os xs).0 h)));
          enough = omega (arith, excess-le os xs c f, amounts-flow c xs);
          shared = deducted-passing (among cs) c xs (all-cuts-under os xs once fits) ∙ own;
          largest = rw own at (less-largest (among cs) c xs (all-cuts-under os xs once fits));
        }

  -- every published direction, where the market alone fits
  pub borders-cleared : All (λ c. BorderCleared c os xs (cut_all os cs xs)) cs
  unfolding cut_all
  borders-cleared = all_both border-cleared fits (passing-cuts os xs once fits)

  -- an execution in no published direction keeps its energy
  pub all-uncut : Each (λ x y. any (λ c. runs c.border c.export x.holder) cs ≡ false → y.energy ≡ x.energy) xs (cut_all os cs xs)
  unfolding cut_all
  all-uncut = less_other (among cs) xs (all-cuts-under os xs once fits)

-- no execution gains, and each keeps its holder
pub all-down : (os : List Offer) (cs : List Directed) (xs : List Execution) → Each CutDown xs (cut_all os cs xs)
unfolding cut_all
all-down os cs xs = less-down (all_cuts os xs cs) xs

-- Maxima and excesses by index are those of the rules' directions.
use Prim.Native.Nat.{ℕ, zero, suc, ◌+◌, ◌-◌, ◌/◌, ◌%◌, ◌≤◌, ◌<◌}
use mathlib.Core.Path.{◌≡◌, refl, ap, ap₂, sym, ◌∙◌}
use mathlib.Core.Bool.{Bool, true, false, cond, not, ◌||◌}
use mathlib.Core.List.{List, [], ◌∷◌, map}
use native.Mathlib.Omega.{arith}
use lib.Dec.{ltb, eqb}
use lib.ListN.{get_or, set, take, drop, replicate, length, length-set}
use lib.Seq.{drop-cons, take_all, get_or-set_same, get_or-set_other}
use Rattle.std.specs.Prelude.{Option, None, Some, is_some}
use Rattle.std.specs.Option.{unwrap_or}
use Rattle.std.specs.List.{list_any}
use borrow.Author.Tests.{eqb-true, eqb-false, ltb-true, ltb-false}
use Rattle.rules.specs.Lists.{All, none, more, keep, any, from}
use Rattle.rules.specs.Units.{direction}
use Rattle.rules.specs.Match.{Offer}
use Rattle.rules.specs.Borders.{Directed, Execution, flow}
use Rattle.rules.specs.Split.{legacy_flow, maximum_of}
use Rattle.rules.specs.Withdrawal.{excess_of, overruns}
use Rattle.rules.proofs.BoolLaws.{by_bool}
use Rattle.rules.proofs.SplitLaws.{maximum-by-flows}
use Rattle.rules.proofs.BalanceLaws.{excess-flows}
use Rattle.rules.proofs.IndexLaws.{from_all}
use Rattle.hour_borders.specs.Directions.{directed, energies_of, published_in, over_in}
use Rattle.hour_borders.specs.Flows.{MarketFlows, LegacyFlows, ExecutionFlows}
use Rattle.hour_borders.specs.Limits.{across_of, maximum_in, excess_in, non_empty}
use Rattle.hour_borders.proofs.DirectionLaws.{direction-back}

-- A loop that writes the directions

-- an array of eight that has g at the directions below n, in place of z
pub record Filled {A : Type 0} (z : A) (g : ℕ → A) (n : ℕ) (a : List A) : Type 0 where
  pub within : n ≤ 8
  pub long : length a ≡ 8
  pub each : (d : ℕ) → d < n → get_or a d z ≡ g d

pub fill_start : {A : Type 0} (z : A) (g : ℕ → A) → Filled z g 0 (replicate 8 z)
fill_start z g = record { within = omega arith; long = refl; each = λ d k. absurd (omega arith) }

pub fill-next : {A : Type 0} (z : A) (g : ℕ → A) (n : ℕ) (x : A) (a : List A) → Filled z g n a → n < 8 → x ≡ g n → Filled z g (n + 1) (set a n x)
fill-next z g n x a f h e =
    record {
      within = omega arith;
      long = length-set a n x ∙ f.long;
      each = λ d l. by_bool (eqb d n)
          (λ t. let q = eqb-true d n t in rw q (get_or-set_same a n x z (omega arith) ∙ e))
          (λ t. let q = eqb-false d n t in get_or-set_other a n d x z q ∙ f.each d (below d n q (omega arith)));
    }
  where
    below : (d n : ℕ) → (d ≡ n → ⊥) → d < n + 1 → d < n
    below d n q k = by_bool (ltb d n) (λ t. ltb-true d n t) (λ t. absurd (q (omega (arith, ltb-false d n t))))

-- The two directions of a border

pub across-even : (d : ℕ) → eqb (d % 2) 0 ≡ true → across_of d ≡ d + 1
unfolding across_of direction
across-even d e = let h = eqb-true (d % 2) 0 e in rw e (omega arith)

pub across-odd : (d : ℕ) → eqb (d % 2) 0 ≡ false → d ≡ across_of d + 1
unfolding across_of direction
across-odd d e = let h = sym (direction-back d) ∙ ap (λ b. direction (d / 2 + 1) b) e in rw e (omega arith)

half-small : (d : ℕ) → d < 8 → d / 2 + 1 < 5
half-small d h = omega arith

-- what arrays of flows have in a direction and across from it
module _ (f : List ℕ) (d : ℕ) (small : d < 8) where
  pub market-at : (os : List Offer) → MarketFlows f os → get_or f d 0 ≡ flow (λ (o : Offer). o.holder) (λ o. o.matched) (d / 2 + 1) (eqb (d % 2) 0) os
  market-at os k = ap (λ v. get_or f v 0) (sym (direction-back d)) ∙ k (d / 2 + 1) (eqb (d % 2) 0) (omega arith) (half-small d small)

  pub market-across : (os : List Offer) → MarketFlows f os → get_or f (across_of d) 0 ≡ flow (λ (o : Offer). o.holder) (λ o. o.matched) (d / 2 + 1) (not (eqb (d % 2) 0)) os
  unfolding across_of
  market-across os k = k (d / 2 + 1) (not (eqb (d % 2) 0)) (omega arith) (half-small d small)

  pub execution-at : (xs : List Execution) → ExecutionFlows f xs → get_or f d 0 ≡ flow (λ (x : Execution). x.holder) (λ x. x.energy) (d / 2 + 1) (eqb (d % 2) 0) xs
  execution-at xs k = ap (λ v. get_or f v 0) (sym (direction-back d)) ∙ k (d / 2 + 1) (eqb (d % 2) 0) (omega arith) (half-small d small)

  pub execution-across : (xs : List Execution) → ExecutionFlows f xs → get_or f (across_of d) 0 ≡ flow (λ (x : Execution). x.holder) (λ x. x.energy) (d / 2 + 1) (not (eqb (d % 2) 0)) xs
  unfolding across_of
  execution-across xs k = k (d / 2 + 1) (not (eqb (d % 2) 0)) (omega arith) (half-small d small)

  legacy-at : (os : List Offer) → LegacyFlows f os → get_or f d 0 ≡ legacy_flow (d / 2 + 1) (eqb (d % 2) 0) os
  legacy-at os k = ap (λ v. get_or f v 0) (sym (direction-back d)) ∙ k (d / 2 + 1) (eqb (d % 2) 0) (omega arith) (half-small d small)

-- Arrays of what there may be

-- 0 where there is none
pub energy-at : (a : List (Option ℕ)) (d : ℕ) → get_or (energies_of a) d 0 ≡ unwrap_or (get_or a d None) 0
unfolding energies_of
energy-at [] d = refl
energy-at (o ∷ a) zero = refl
energy-at (o ∷ a) (suc d) = energy-at a d

pub by_option : {C : Type 0} (o : Option ℕ) → (o ≡ None → C) → ((m : ℕ) → o ≡ Some m → C) → C
by_option None f g = f refl
by_option (Some m) f g = g m refl

-- Maxima

module _ (capacities : List (Option ℕ)) (executions market legacy : List ℕ) (first : List Offer) (xs : List Execution)
    (kx : ExecutionFlows executions xs) (km : MarketFlows market first) (kl : LegacyFlows legacy first) where
  abbrev maximum : ℕ → Option ℕ
  maximum d = maximum_in (get_or capacities d None) executions market (get_or legacy d 0) d

  maximum-of : (d m : ℕ) → d < 8 → get_or capacities d None ≡ Some m → unwrap_or (maximum d) 0 ≡ (maximum_of first xs (directed (energies_of capacities) d)).energy
  unfolding maximum_in directed
  maximum-of d m h c =
      let e : get_or (energies_of capacities) d 0 ≡ m = energy-at capacities d ∙ ap (λ o. unwrap_or o 0) c in
      rw (
        c,
        execution-at executions d h xs kx,
        execution-across executions d h xs kx,
        market-at market d h first km,
        market-across market d h first km,
        legacy-at legacy d h first kl,
        ← e,
      ) (sym (maximum-by-flows first xs (directed (energies_of capacities) d)))

  maximum-at : (a : List (Option ℕ)) (d m : ℕ) → d < 8 → get_or capacities d None ≡ Some m → get_or a d None ≡ maximum d
      → directed (energies_of a) d ≡ maximum_of first xs (directed (energies_of capacities) d)
  unfolding directed maximum_of
  maximum-at a d m h c e =
      ap (λ n. record { border = d / 2 + 1; export = eqb (d % 2) 0; energy = n }) (energy-at a d ∙ ap (λ o. unwrap_or o 0) e ∙ maximum-of d m h c)

  said : (a : List (Option ℕ)) {ds : List ℕ} → All (λ d. (d < 8) × (get_or a d None ≡ maximum d)) ds
      → map (directed (energies_of a)) (keep (λ d. is_some (get_or a d None)) ds) ≡ map (maximum_of first xs) (map (directed (energies_of capacities)) (keep (λ d. is_some (get_or capacities d None)) ds))
  unfolding maximum_in keep
  said a none = refl
  said a (more {x = d} h t) =
      by_option (get_or capacities d None)
      (λ c. rw (h.1, c) (said a t))
      (λ m c. let p = maximum-at a d m h.0 c h.1 in rw (h.1, c) (ap₂ (λ (e : Directed) (es : List Directed). e ∷ es) p (said a t)))

  -- the published maxima
  pub maxima-said : (a : List (Option ℕ)) (n : ℕ) → 8 ≤ n → Filled None maximum n a
      → published_in a ≡ map (maximum_of first xs) (published_in capacities)
  unfolding published_in
  maxima-said a n end f = said a (from_all _ 0 8 (λ d h k. (omega arith, f.each d (omega arith))))

-- Excesses

module _ (maxima : List (Option ℕ)) (market : List ℕ) (os : List Offer) (km : MarketFlows market os) where
  excess-at : (d m : ℕ) → d < 8 → get_or maxima d None ≡ Some m
      → get_or market d 0 - get_or market (across_of d) 0 - m ≡ (excess_of os (directed (energies_of maxima) d)).energy
  unfolding directed
  excess-at d m h c =
      let e : get_or (energies_of maxima) d 0 ≡ m = energy-at maxima d ∙ ap (λ o. unwrap_or o 0) c in
      rw (market-at market d h os km, market-across market d h os km, ← e) (omega (arith, excess-flows os (directed (energies_of maxima) d)))

  over-at : (a : List ℕ) (d m : ℕ) → d < 8 → get_or maxima d None ≡ Some m → get_or a d 0 ≡ excess_in maxima market d → directed a d ≡ excess_of os (directed (energies_of maxima) d)
  unfolding directed excess_in excess_of
  over-at a d m h c e = ap (λ n. record { border = d / 2 + 1; export = eqb (d % 2) 0; energy = n }) (rw c at e ∙ excess-at d m h c)

  over_none : (a : List ℕ) (d : ℕ) → get_or maxima d None ≡ None → get_or a d 0 ≡ excess_in maxima market d → get_or a d 0 ≡ 0
  unfolding excess_in
  over_none a d c e = rw c at e

  over-indices : (a : List ℕ) {ds : List ℕ} → All (λ d. (d < 8) × (get_or a d 0 ≡ excess_in maxima market d)) ds
      → map (directed a) (keep (λ d. ltb 0 (get_or a d 0)) ds) ≡ keep (λ e. ltb 0 e.energy) (map (excess_of os) (map (directed (energies_of maxima)) (keep (λ d. is_some (get_or maxima d None)) ds)))
  unfolding keep directed
  over-indices a none = refl
  over-indices a (more {x = d} {xs = ds} h t) =
      by_option (get_or maxima d None)
      (λ e. rw (e, over_none a d e h.1) (over-indices a t))
      (λ m e. rw (e, ← (over-at a d m h.0 e h.1)) (either (over-indices a t)))
    where
      either : {es : List Directed} → map (directed a) (keep (λ v. ltb 0 (get_or a v 0)) ds) ≡ es
          → map (directed a) (cond (ltb 0 (get_or a d 0)) (d ∷ keep (λ v. ltb 0 (get_or a v 0)) ds) (keep (λ v. ltb 0 (get_or a v 0)) ds)) ≡ cond (ltb 0 (directed a d).energy) (directed a d ∷ es) es
      either q = by_bool (ltb 0 (get_or a d 0)) (λ u. rw u (ap (λ l. directed a d ∷ l) q)) (λ u. rw u q)

  -- the directions over
  pub excesses-said : (a : List ℕ) (n : ℕ) → 8 ≤ n → Filled 0 (excess_in maxima market) n a → over_in a ≡ overruns (published_in maxima) os
  unfolding published_in over_in overruns
  excesses-said a n end f = over-indices a (from_all _ 0 8 (λ d h k. (omega arith, f.each d (omega arith))))

-- Whether there is an excess

some-over : (a : List ℕ) (ds : List ℕ) → non_empty (map (directed a) (keep (λ d. ltb 0 (get_or a d 0)) ds)) ≡ any (λ d. ltb 0 (get_or a d 0)) ds
unfolding non_empty keep any
some-over a [] = refl
some-over a (d ∷ ds) = by_bool (ltb 0 (get_or a d 0)) (λ t. rw t) (λ t. rw t (some-over a ds))

-- a test of the indices from i on is one of the energies there
any-along : (p : ℕ → Bool) (a : List ℕ) (n i : ℕ) → i + n ≤ length a → any (λ d. p (get_or a d 0)) (from i n) ≡ list_any p (take n (drop i a))
unfolding any from
any-along p a zero i h = refl
any-along p a (suc n) i h = rw (drop-cons a i 0 (omega arith)) (ap (λ b. p (get_or a i 0) || b) (any-along p a n (suc i) (omega arith)))

pub passed-said : (a : List ℕ) → length a ≡ 8 → list_any (λ e. ltb 0 e) a ≡ non_empty (over_in a)
unfolding over_in
passed-said a h =
    ap (list_any (λ e. ltb 0 e)) (sym (take_all 8 a (omega arith))) ∙ sym (some-over a (from 0 8) ∙ any-along (λ e. ltb 0 e) a 8 0 (omega arith))

-- What executions lose is what the rules take from the list.
use Prim.Native.Nat.{ℕ, suc, ◌+◌, ◌-◌, ◌/◌, ◌≤◌, ◌<◌, min}
use mathlib.Core.Path.{◌≡◌, refl, ap, ap₂, sym, ◌∙◌}
use mathlib.Core.Bool.{Bool, false, cond, true≢false}
use mathlib.Core.List.{List, [], ◌∷◌, ◌++◌, map, map-map, map-append, append-nil}
use native.Mathlib.Numerals.{add-one}
use native.Mathlib.Omega.{arith}
use lib.Dec.{ltb}
use lib.ListN.{get_or, set, take, drop, length, length-map, drop_of_length-le}
use lib.Seq.{take-suc-set, take_all, append_snoc, drop-cons, drop-set-lt}
use borrow.Author.Tests.{ltb-false}
use Rattle.std.specs.Prelude.{Option, None, Some, is_some}
use Rattle.std.specs.Option.{unwrap_or}
use Rattle.rules.specs.Lists.{All, none, more, Each, each0, each, keep, from, add_each}
use Rattle.rules.specs.Share.{share}
use Rattle.rules.specs.Match.{Offer, Holder}
use Rattle.rules.specs.Borders.{Directed, Execution, kept_energy, at_border, keeps}
use Rattle.rules.specs.Executions.{bilateral_excess, cuts, all_cuts, less_each, cut_all}
use Rattle.rules.specs.Demands.{amounts_on}
use Rattle.rules.proofs.BoolLaws.{by_bool}
use Rattle.rules.proofs.ListLaws.{all_map, all_head, all_tail}
use Rattle.rules.proofs.ShareLaws.{share-length}
use Rattle.rules.proofs.BalanceLaws.{bilateral-flows}
use Rattle.rules.proofs.CrossingLaws.{kept-le, kept-all}
use Rattle.rules.proofs.BorderLaws.{Fits, BorderCleared, excess-le, amounts-flow}
use Rattle.rules.proofs.IndexLaws.{from_all}
use Rattle.hour_offers.specs.declared.Execution.{Execution as CodeExecution}
use Rattle.hour_offers.specs.Sound.{ExecutionInRange}
use Rattle.hour_offers.specs.View.{holder_in, execution_in, executions_in}
use Rattle.hour_share.specs.declared.Amount.{Amount}
use Rattle.hour_share.specs.Deductions.{energy_in, deductions_in, deductions_over, deductions_from}
use Rattle.hour_share.proofs.Laws.{share_none, add_none}
use Rattle.hour_borders.specs.Directions.{directed, energies_of, published_in, over_in}
use Rattle.hour_borders.specs.Flows.{amount_of, MarketFlows, ExecutionFlows}
use Rattle.hour_borders.specs.Limits.{across_of, excess_in, non_empty}
use Rattle.hour_borders.proofs.DirectionLaws.{runs-directed, direction-small}
use Rattle.hour_borders.proofs.LimitLaws.{by_option, energy-at, market-at, market-across, execution-at, execution-across}
use Rattle.hour_cut.specs.Cuts.{Enough, Lowered}

-- where the market alone fits, the excess is at most what the executions count for
pub enough-fits : (os : List Offer) (xs : List Execution) {cs : List Directed} → All (Fits os xs) cs → All (Enough os xs) cs
enough-fits os xs = all_map (λ c f. omega (arith, excess-le os xs c f, amounts-flow c xs))

-- and so it is in a cleared hour
pub enough-cleared : (os : List Offer) (xs ys : List Execution) {cs : List Directed} → All (λ c. BorderCleared c os xs ys) cs → All (Enough os xs) cs
enough-cleared os xs ys = all_map (λ c k. k.enough)

-- A direction with no excess takes nothing

add-length : (ks ls : List ℕ) → length ks ≡ length ls → length (add_each ks ls) ≡ length ls
unfolding add_each
add-length [] ls h = refl
add-length (k ∷ ks) [] h = absurd (omega arith)
add-length (k ∷ ks) (l ∷ ls) h = ap (λ n. suc n) (add-length ks ls (omega arith))

module _ (os : List Offer) (xs : List Execution) where
  cuts-length : (c : Directed) → Enough os xs c → length (cuts os xs c) ≡ length xs
  unfolding cuts
  cuts-length c k = share-length (bilateral_excess os xs c) (amounts_on c xs) k ∙ length-map xs _

  all-length : {cs : List Directed} → All (Enough os xs) cs → length (all_cuts os xs cs) ≡ length xs
  unfolding all_cuts
  all-length none = length-map xs _
  all-length (more {x = c} k t) = add-length (cuts os xs c) _ (cuts-length c k ∙ sym (all-length t)) ∙ all-length t

  cut-none : (c : Directed) {cs : List Directed} → bilateral_excess os xs c ≡ 0 → All (Enough os xs) cs → all_cuts os xs (c ∷ cs) ≡ all_cuts os xs cs
  unfolding all_cuts cuts
  cut-none c {cs} z t =
      rw z (ap (λ l. add_each l (all_cuts os xs cs)) (share_none (amounts_on c xs))
      ∙ add_none (amounts_on c xs) (all_cuts os xs cs) (all-length t ∙ sym (length-map xs _)))

-- The rules' cuts

across-small : (d : ℕ) → d < 8 → across_of d < 8
unfolding across_of
across-small d h = direction-small (d / 2 + 1) _ (omega arith)

-- an execution's energy, in its direction
abbrev pub given : CodeExecution → Amount
given x = amount_of x.holder x.energy

-- the executions' energies in the direction at an index
amounts-said : (a : List ℕ) (d : ℕ) → d < 8 → (xs : List CodeExecution) → map (energy_in d) (map given xs) ≡ amounts_on (directed a d) (executions_in xs)
unfolding energy_in
amounts-said a d h [] = refl
amounts-said a d h (x ∷ xs) =
    ap₂ (λ (n : ℕ) (l : List ℕ). n ∷ l) (ap (λ (b : Bool). cond b (at_border (holder_in x.holder) x.energy) 0) (sym (runs-directed a d h (execution_in x).holder))) (amounts-said a d h xs)

-- where no direction is over nothing is taken
none-deducted : (over : List ℕ) (amounts : List Amount) (ds : List ℕ) → non_empty (map (directed over) (keep (λ d. ltb 0 (get_or over d 0)) ds)) ≡ false → deductions_over over amounts ds ≡ map (λ a. 0) amounts
unfolding deductions_over keep non_empty
none-deducted over amounts [] h = refl
none-deducted over amounts (d ∷ ds) h =
    by_bool (ltb 0 (get_or over d 0)) (λ t. absurd (true≢false (rw t at h))) (λ t. rw t (none-deducted over amounts ds (rw t at h)))

-- and all is left
less-none : (xs : List CodeExecution) → less_each (map (λ (a : Amount). 0) (map given xs)) (executions_in xs) ≡ executions_in xs
unfolding less_each
less-none [] = refl
less-none (x ∷ xs) =
    ap₂ (λ (n : ℕ) (ys : List Execution). record { holder = holder_in x.holder; energy = n } ∷ ys) (kept-all (holder_in x.holder) x.energy) (less-none xs)

module _ (xs : List CodeExecution) (os : List Offer) (capacities : List (Option ℕ)) (market executions both over : List ℕ)
    (km : MarketFlows market os) (kx : ExecutionFlows executions (executions_in xs))
    (sums : (d : ℕ) → d < 8 → get_or both d 0 ≡ get_or market d 0 + get_or executions d 0)
    (excess : (d : ℕ) → d < 8 → get_or over d 0 ≡ excess_in capacities both d) where
  abbrev capacity : ℕ → Directed
  capacity d = directed (energies_of capacities) d

  passing-said : (d : ℕ) → d < 8 → get_or both d 0 - get_or both (across_of d) 0 - get_or (energies_of capacities) d 0 ≡ bilateral_excess os (executions_in xs) (capacity d)
  unfolding directed
  passing-said d h =
      rw (
        sums d h,
        sums (across_of d) (across-small d h),
        market-at market d h os km,
        market-across market d h os km,
        execution-at executions d h (executions_in xs) kx,
        execution-across executions d h (executions_in xs) kx,
      ) (omega (arith, bilateral-flows os (executions_in xs) (capacity d)))

  over-said : (d m : ℕ) → d < 8 → get_or capacities d None ≡ Some m → get_or over d 0 ≡ bilateral_excess os (executions_in xs) (capacity d)
  unfolding excess_in
  over-said d m h f =
      let e : get_or (energies_of capacities) d 0 ≡ m = energy-at capacities d ∙ ap (λ o. unwrap_or o 0) f in
      excess d h ∙ rw (f, ← e) (passing-said d h)

  over_none : (d : ℕ) → d < 8 → get_or capacities d None ≡ None → get_or over d 0 ≡ 0
  unfolding excess_in
  over_none d h f = excess d h ∙ rw f

  deductions-said : (d r : ℕ) → d < 8 → r ≡ bilateral_excess os (executions_in xs) (capacity d) → Enough os (executions_in xs) (capacity d)
      → deductions_in (map given xs) r d ≡ cuts os (executions_in xs) (capacity d)
  unfolding deductions_in cuts
  deductions-said d r h q k = rw (q, amounts-said (energies_of capacities) d h xs) (ap (λ r. share r (amounts_on (capacity d) (executions_in xs))) (lesser k))
    where
      lesser : {a b : ℕ} → a ≤ b → min a b ≡ a
      lesser k = omega arith

  abbrev Deductions : List ℕ → Type 0
  Deductions ds = deductions_over over (map given xs) ds ≡ all_cuts os (executions_in xs) (map capacity (keep (λ d. is_some (get_or capacities d None)) ds))

  all_said : {ds : List ℕ} → All (λ d. d < 8) ds → All (Enough os (executions_in xs)) (map capacity (keep (λ d. is_some (get_or capacities d None)) ds)) → Deductions ds
  unfolding deductions_over all_cuts keep
  all_said none k = map-map (λ (a : Amount). 0) given xs ∙ sym (map-map (λ (y : Execution). 0) execution_in xs)
  all_said (more {x = d} h t) k =
      by_option (get_or capacities d None)
      (λ f. rw (f, over_none d h f) (all_said t (rw f at k)))
      (λ m f. let e = rw f at k in let r = all_said t (all_tail e) in
      by_bool (ltb 0 (get_or over d 0))
      (λ o. rw (f, o) (ap₂ add_each (deductions-said d (get_or over d 0) h (over-said d m h f) (all_head e)) r))
      (λ o. rw (f, o) (r ∙ sym (cut-none os (executions_in xs) (capacity d) (sym (over-said d m h f) ∙ omega (arith, ltb-false 0 (get_or over d 0) o)) (all_tail e)))))

  -- the deductions in all published directions
  pub published-said : All (Enough os (executions_in xs)) (published_in capacities) → deductions_from over (map given xs) 0 ≡ all_cuts os (executions_in xs) (published_in capacities)
  unfolding deductions_from published_in
  published-said k = all_said (from_all _ 0 8 (λ d h l. omega arith)) k

  -- where no direction is over all stay
  pub uncut-said : non_empty (over_in over) ≡ false → All (Enough os (executions_in xs)) (published_in capacities) → executions_in xs ≡ cut_all os (published_in capacities) (executions_in xs)
  unfolding deductions_from over_in cut_all
  uncut-said n k =
      sym (ap (λ ks. less_each ks (executions_in xs)) (sym (published-said k) ∙ none-deducted over (map given xs) (from 0 8) n) ∙ less-none xs)

-- Each execution without what it loses

pub reduce-next : (ks : List ℕ) (xs : List CodeExecution) (i n : ℕ) (d : CodeExecution) → length ks ≡ length xs → i < length xs → n ≡ kept_energy (get_or xs i d).holder.loss (get_or xs i d).energy (get_or ks i 0)
    → (let after = set xs i (record { holder = (get_or xs i d).holder; energy = n }) in
    executions_in (take (i + 1) after) ++ less_each (drop (i + 1) ks) (executions_in (drop (i + 1) after)) ≡ executions_in (take i xs) ++ less_each (drop i ks) (executions_in (drop i xs)))
unfolding less_each keeps
reduce-next ks xs i n d e h q =
    rw (
      add-one i,
      take-suc-set xs i (record { holder = (get_or xs i d).holder; energy = n }) h,
      drop-set-lt (suc i) xs i (record { holder = (get_or xs i d).holder; energy = n }) (omega arith),
      map-append,
      append_snoc (executions_in (take i xs)),
      drop-cons xs i d h,
      drop-cons ks i 0 (omega arith),
      q,
    )

pub reduce-end : (ks : List ℕ) (xs : List CodeExecution) (i : ℕ) {ys : List Execution} → length xs ≤ i
    → executions_in (take i xs) ++ less_each (drop i ks) (executions_in (drop i xs)) ≡ ys → executions_in xs ≡ ys
unfolding less_each
reduce-end ks xs i h p = sym (append-nil (executions_in xs)) ∙ (rw (take_all i xs h, drop_of_length-le xs {i = i} h) at p)

pub unchanged : (xs : List Execution) → Each Lowered xs xs
unchanged [] = each0
unchanged (x ∷ xs) = each record { holder = refl; energy = omega arith } (unchanged xs)

-- no energy grows
pub lowered : (ks : List ℕ) (xs : List Execution) → Each Lowered xs (less_each ks xs)
unfolding less_each
lowered ks [] = each0
lowered [] (x ∷ xs) = unchanged (x ∷ xs)
lowered (k ∷ ks) (x ∷ xs) = each record { holder = refl; energy = kept-le x.holder x.energy k } (lowered ks xs)

-- so each stays within its range
pub lowered-in-range : {xs ys : List Execution} → Each Lowered xs ys → All ExecutionInRange xs → All ExecutionInRange ys
lowered-in-range each0 none = none
lowered-in-range (each {x = x} {y = y} h t) (more r rs) =
    more record { border = omega (arith, ap (λ (h : Holder). h.border) h.holder, r.border); energy = omega (arith, h.energy, r.energy) } (lowered-in-range t rs)

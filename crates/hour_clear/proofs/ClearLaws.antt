-- The parts of an hour's clearing together are the rules' `clear_hour`.
use Prim.Native.Nat.{ℕ, ◌+◌, ◌/◌, ◌%◌, ◌≤◌, ◌<◌}
use mathlib.Core.Path.{◌≡◌, refl, sym, ap, ◌∙◌}
use mathlib.Core.Bool.{true, false≢true}
use mathlib.Core.List.{List, [], ◌∷◌, ◌++◌, map, map-map}
use native.Mathlib.Nat.{le_trans}
use native.Mathlib.Omega.{arith}
use lib.Dec.{eqb}
use lib.ListN.{get_or, length, take}
use Rattle.std.specs.Prelude.{Option, Some, None, is_some, unwrap_or}
use Rattle.rules.specs.Lists.{All, Each, each0, each, none, more, keep, from}
use Rattle.rules.specs.Units.{max_energy}
use Rattle.rules.specs.Match as M
use Rattle.rules.specs.Borders.{Execution as RuleExecution}
use Rattle.rules.specs.Split.{maximum_of}
use Rattle.rules.specs.Executions.{cut_all}
use Rattle.rules.specs.Clearing as C
use Rattle.rules.proofs.ListLaws.{all_map, all-mapped, all_keep, keep-passes, keep_same}
use Rattle.rules.proofs.ElementLaws.{all_both}
use Rattle.rules.proofs.HourLaws as H
use Rattle.rules.proofs.IndexLaws.{from_all, map-all}
use Rattle.hour_offers.specs.declared.Offer.{Offer}
use Rattle.hour_offers.specs.declared.Execution.{Execution}
use Rattle.hour_offers.specs.View.{offers_in, executions_in}
use Rattle.hour_borders.specs.Directions.{directed, energies_of, published_in}
use Rattle.hour_borders.specs.Flows.{MarketFlows, ExecutionFlows}
use Rattle.hour_borders.proofs.DirectionLaws.{published-once}
use Rattle.hour_cut.specs.Cuts.{Enough}
use Rattle.hour_market.specs.declared.Market.{Market}
use Rattle.hour_market.specs.Parts.{MarketCleared}
use Rattle.listed.specs.declared.Listed.{Listed}
use Rattle.listed.specs.View.{listed}
use Rattle.listed.proofs.ViewLaws.{listed-back}
use Rattle.hour.specs.declared.Hour.{Hour}
use Rattle.hour.specs.Ready.{HourInRange}
use Rattle.hour.specs.View.{hour_in, figures_in, figures_as, padded, no_offer, no_execution, offer_as, execution_as}
use Rattle.hour.proofs.RangeLaws.{energy-of}
use Rattle.hour.proofs.LaidLaws.{eight-at, figures-laid, figures-back}

-- an hour in its ranges is one of the rules'
pub hour-sound : {h : Hour} → HourInRange h → H.Sound (hour_in h)
unfolding hour_in
hour-sound {h} r = record { rising = r.offers-rise; once = published-once h.capacities }

module _ {h : Hour} (ranges : HourInRange h) (os : List Offer) {r : Market}
    (m : MarketCleared (hour_in h).offers h.capacities (executions_in (listed h.executions)) (offers_in os) r) where
  -- R ≤ G at every cut
  pub enough-said : All (Enough (offers_in os) (executions_in (listed h.executions))) (published_in h.capacities)
  unfolding hour_in
  enough-said = rw (← m.offers) (all_map (λ c q. q.enough) (H.hour-cleared (hour_in h) (hour-sound ranges)).borders)

  -- the figures are the rules'
  cleared-said : (o : Listed Offer 128) (x : Listed Execution 128) (b : List ℕ) → listed o ≡ os → executions_in (listed x) ≡ cut_all (offers_in os) (published_in h.capacities) (executions_in (listed h.executions))
      → figures_in (record { offers = o; executions = x; maxima = r.maxima; market = r.flows; bilateral = b; steps = r.steps; price = r.price }) ≡ C.clear_hour (hour_in h)
  unfolding C.clear_hour figures_in hour_in
  cleared-said o x b e c = rw (e, c, ← m.offers, ← m.maxima, ← m.steps, ← m.price) refl

  -- laid out, what stands behind their lists apart
  pub figures-said : (o : Listed Offer 128) (x : Listed Execution 128) (b : List ℕ) → listed o ≡ os → executions_in (listed x) ≡ cut_all (offers_in os) (published_in h.capacities) (executions_in (listed h.executions))
      → length r.maxima ≡ 8 → length r.flows ≡ 8 → MarketFlows r.flows (offers_in os) → length b ≡ 8 → ExecutionFlows b (executions_in (listed x))
      → padded (record { offers = o; executions = x; maxima = r.maxima; market = r.flows; bilateral = b; steps = r.steps; price = r.price })
      ≡ figures_as (C.clear_hour (hour_in h))
  figures-said o x b e c l lm fm lx fx = figures-laid _ l lm (rw e fm) lx fx ∙ ap figures_as (cleared-said o x b e c)

-- What follows of an hour's figures

-- a number that another is made of, where there is one
unfoldable pub made : (ℕ → ℕ) → Option ℕ → Option ℕ
made f None = None
made f (Some e) = Some (f e)

made-some : (f : ℕ → ℕ) (o : Option ℕ) → is_some (made f o) ≡ is_some o
unfolding made
made-some f None = refl
made-some f (Some e) = refl

made-energy : (f : ℕ → ℕ) (o : Option ℕ) → is_some o ≡ true → unwrap_or (made f o) 0 ≡ f (unwrap_or o 0)
unfolding made
made-energy f None e = absurd (false≢true e)
made-energy f (Some x) e = refl

-- maxima are those of the published directions
module _ (first : List M.Offer) (xs : List RuleExecution) (a : List (Option ℕ)) where
  maximum-on : ℕ → ℕ → ℕ
  maximum-on d e = (maximum_of first xs (record { border = d / 2 + 1; export = eqb (d % 2) 0; energy = e })).energy

  abbrev maxima : List (Option ℕ)
  maxima = map (λ d. made (maximum-on d) (get_or a d None)) (from 0 8)

  maximum-at : (d : ℕ) → d < 8 → get_or maxima d None ≡ made (maximum-on d) (get_or a d None)
  maximum-at d l = eight-at (λ d. made (maximum-on d) (get_or a d None)) None d l

  maximum-as : (d : ℕ) → d < 8 → is_some (get_or a d None) ≡ true → maximum_of first xs (directed (energies_of a) d) ≡ directed (energies_of maxima) d
  unfolding directed maximum_of maximum-on
  maximum-as d l t =
      ap (λ n. record { border = d / 2 + 1; export = eqb (d % 2) 0; energy = n })
      (ap (maximum-on d) (energy-of a d) ∙ (sym (made-energy (maximum-on d) (get_or a d None) t) ∙ (ap (λ o. unwrap_or o 0) (sym (maximum-at d l)) ∙ sym (energy-of maxima d))))

  maxima-published : map (maximum_of first xs) (published_in a) ≡ published_in maxima
  unfolding published_in
  maxima-published =
      map-map (maximum_of first xs) (directed (energies_of a)) (keep (λ d. is_some (get_or a d None)) (from 0 8))
      ∙ (map-all (λ d. maximum_of first xs (directed (energies_of a) d)) (directed (energies_of maxima))
      (all_both (λ d t l. maximum-as d l t) (keep-passes (λ d. is_some (get_or a d None)) (from 0 8)) (all_keep (λ d. is_some (get_or a d None)) (from_all (λ d. d < 8) 0 8 (λ d h k. omega arith))))
      ∙ ap (map (directed (energies_of maxima))) (keep_same _ _ (from_all _ 0 8 (λ d h k. sym (ap (λ o. is_some o) (maximum-at d (omega arith)) ∙ made-some (maximum-on d) (get_or a d None))))))

-- the figures of an hour in its ranges are read back
pub figures-read : {h : Hour} → HourInRange h → figures_in (figures_as (C.clear_hour (hour_in h))) ≡ C.clear_hour (hour_in h)
unfolding C.clear_hour hour_in
figures-read {h} r = figures-back (C.clear_hour (hour_in h)) _ (maxima-published _ _ h.capacities)

-- what holds of each of a list is carried to another
each_all : {A B : Type 0} {R : A → B → Type 0} {P : A → Type 0} {Q : B → Type 0} → ((x : A) (y : B) → R x y → P x → Q y)
    → {xs : List A} {ys : List B} → Each R xs ys → All P xs → All Q ys
each_all f each0 none = none
each_all f (each {x} {y} h t) (more k u) = more (f x y h k) (each_all f t u)

-- so are its matched and executed energies
module _ {h : Hour} (r : HourInRange h) where
  pub matched-small : All (λ (o : Offer). o.matched ≤ max_energy) (listed (figures_as (C.clear_hour (hour_in h))).offers)
  unfolding figures_as
  matched-small = rw (listed-back 128 no_offer (map offer_as (C.clear_hour (hour_in h)).offers)) (all-mapped offer_as (each_all (λ o p f k. le_trans f.matched (le_trans f.offered k.energy.1)) (H.hour-cleared (hour_in h) (hour-sound r)).offers r.offers))

  pub executed-small : All (λ (x : Execution). x.energy ≤ max_energy) (listed (figures_as (C.clear_hour (hour_in h))).executions)
  unfolding figures_as
  executed-small = rw (listed-back 128 no_execution (map execution_as (C.clear_hour (hour_in h)).executions)) (all-mapped execution_as (each_all (λ x y f k. le_trans f.energy k.energy.1) (H.hour-cleared (hour_in h) (hour-sound r)).executions r.executions))

-- a list laid in front of an array, as long as its count
take-front : {A : Type 0} (ws ys : List A) → take (length ws) (ws ++ ys) ≡ ws
take-front [] ys = refl
take-front (w ∷ ws) ys = ap (λ l. w ∷ l) (take-front ws ys)

pub listed-front : {A : Type 0} (n : ℕ) (ws ys : List A) (k : ℕ) → k ≡ length ws → listed {n = n} (record { items = ws ++ ys; count = k }) ≡ ws
unfolding listed
listed-front n ws ys k e = rw e (take-front ws ys)

-- The rules' figures as the code has them, and read back.
use Prim.Native.Nat.{ℕ, zero, suc, ◌+◌, ◌/◌, ◌%◌, ◌≤◌, ◌<◌}
use mathlib.Core.Path.{◌≡◌, refl, sym, ap, ap₂, ◌∙◌}
use mathlib.Core.Bool.{Bool, true, false, cond, ◌&&◌, beq, false≢true, true≢false}
use mathlib.Core.List.{List, [], ◌∷◌, map}
use mathlib.Core.Logic.{⊎_elim}
use native.Mathlib.Omega.{arith}
use native.Mathlib.Nat.{eq-or-lt_of_le}
use lib.Dec.{eqb}
use lib.ListN.{get_or, length}
use lib.Seq.{ext_get_or}
use borrow.Author.Tests.{eqb-true, eqb-false, ne_eqb}
use Rattle.std.specs.Prelude.{is_some, unwrap_or, Option, Some, None}
use Rattle.rules.specs.Lists.{keep, from}
use Rattle.rules.specs.Units.{direction}
use Rattle.rules.specs.Match as M
use Rattle.rules.specs.Borders.{Directed, Execution as RuleExecution}
use Rattle.rules.specs.Clearing as C
use Rattle.rules.proofs.BoolLaws.{by_bool}
use Rattle.rules.proofs.ListLaws.{all_keep, keep_same}
use Rattle.rules.proofs.IndexLaws.{from_all, from-at, map-all}
use Rattle.hour_offers.specs.declared.Offer.{Offer}
use Rattle.hour_offers.specs.declared.Execution.{Execution}
use Rattle.hour_offers.specs.View.{offers_in, executions_in}
use Rattle.hour_borders.specs.Directions.{directed, energies_of, published_in}
use Rattle.hour_borders.specs.Flows.{MarketFlows, ExecutionFlows}
use Rattle.hour_borders.proofs.DirectionLaws.{direction-back, directions-same}
use Rattle.session.specs.Image.{by_direction}
use Rattle.listed.specs.View.{listed, listed_as}
use Rattle.listed.proofs.ViewLaws.{listed-back}
use Rattle.hour.specs.declared.Figures.{Figures}
use Rattle.hour.specs.View.{offer_as, execution_as, energy_among, laid_by_direction, no_offer, no_execution, padded, figures_as, figures_in}
use Rattle.hour.proofs.RangeLaws.{energy-of}

-- What stands in an array of eight made by index

pub eight-at : {A : Type 0} (f : ℕ → A) (blank : A) (d : ℕ) → d < 8 → get_or (map f (from 0 8)) d blank ≡ f d
eight-at f blank d l = let o : 0 + d ≡ d = omega arith in from-at f blank 0 8 d l ∙ ap f o

-- an array of eight that has f at each index
eight-same : {A : Type 0} (f : ℕ → A) (blank : A) (a : List A) → length a ≡ 8 → ((d : ℕ) → d < 8 → get_or a d blank ≡ f d) → a ≡ map f (from 0 8)
unfolding from
eight-same f blank a l g = ext_get_or blank a (map f (from 0 8)) l (λ d h. g d (omega arith) ∙ sym (eight-at f blank d (omega arith)))

-- flows by border and direction
flows-laid : (f : ℕ → Bool → ℕ) (a : List ℕ) → length a ≡ 8 → ((b : ℕ) (e : Bool) → 0 < b → b < 5 → get_or a (direction b e) 0 ≡ f b e) → a ≡ by_direction f
unfolding by_direction
flows-laid f a l g =
    eight-same (λ d. f (d / 2 + 1) (eqb (d % 2) 0)) 0 a l
    (λ d h. ap (λ v. get_or a v 0) (sym (direction-back d)) ∙ g (d / 2 + 1) (eqb (d % 2) 0) (omega arith) (omega arith))

-- The energy of a direction among the published ones

some-again : (o : Option ℕ) → is_some o ≡ true → Some (unwrap_or o 0) ≡ o
some-again None e = absurd (false≢true e)
some-again (Some x) e = refl

none-again : (o : Option ℕ) → is_some o ≡ false → None ≡ o
none-again None e = refl
none-again (Some x) e = absurd (true≢false e)

-- two indices have the same direction
same-index : (a : List ℕ) (v w : ℕ) → (eqb (directed a v).border (w / 2 + 1) && beq (directed a v).export (eqb (w % 2) 0)) ≡ eqb v w
unfolding directed
same-index a v w =
    directions-same (v / 2 + 1) (w / 2 + 1) (eqb (v % 2) 0) (eqb (w % 2) 0) (omega arith) (omega arith) ∙ ap₂ eqb (direction-back v) (direction-back w)

module _ (a : List (Option ℕ)) (w : ℕ) where
  abbrev is_given : ℕ → Bool
  is_given v = is_some (get_or a v None)

  abbrev among : List ℕ → Option ℕ
  among vs = energy_among (map (directed (energies_of a)) (keep is_given vs)) (w / 2 + 1) (eqb (w % 2) 0)

  among_next : (v : ℕ) (vs : List ℕ) → among (v ∷ vs) ≡ cond (is_given v) (cond (eqb v w) (Some (get_or (energies_of a) v 0)) (among vs)) (among vs)
  unfolding keep energy_among directed
  among_next v vs = by_bool (is_given v) (λ t. rw t (ap (λ q. cond q (Some (get_or (energies_of a) v 0)) (among vs)) (same-index (energies_of a) v w))) (λ t. rw t)

  among_none : among [] ≡ None
  unfolding keep energy_among
  among_none = refl

  among-behind : (i n : ℕ) → w < i → among (from i n) ≡ None
  unfolding from
  among-behind i zero h = among_none
  among-behind i (suc n) h =
      among_next i (from (suc i) n)
      ∙ rw (ne_eqb i w (λ z. absurd (omega arith)), among-behind (suc i) n (omega arith)) (by_bool (is_given i) (λ t. rw t) (λ t. rw t))

  among-own : (i n : ℕ) → i ≤ w → w < i + n → among (from i n) ≡ get_or a w None
  unfolding from
  among-own i zero h l = absurd (omega arith)
  among-own i (suc n) h l =
      among_next i (from (suc i) n)
      ∙ by_bool (eqb i w)
      (λ e. let q = eqb-true i w e in
      rw (e, among-behind (suc i) n (omega arith), q, energy-of a w)
      (by_bool (is_given w) (λ t. rw t (some-again (get_or a w None) t)) (λ t. rw t (none-again (get_or a w None) t))))
      (λ e. let r = among-own (suc i) n (apart (eqb-false i w e)) (omega arith) in rw (e, r) (by_bool (is_given i) (λ t. rw t) (λ t. rw t)))
    where
      apart : (i ≡ w → ⊥) → suc i ≤ w
      apart d = ⊎_elim (λ z. absurd (d z)) (λ z. z) (eq-or-lt_of_le h)

  -- what is published
  pub energy-published : w < 8 → energy_among (published_in a) (w / 2 + 1) (eqb (w % 2) 0) ≡ get_or a w None
  unfolding published_in
  energy-published l = among-own 0 8 (omega arith) (omega arith)

-- an array of eight maxima or capacities is that of those that are published
pub published-laid : (a : List (Option ℕ)) → length a ≡ 8 → a ≡ laid_by_direction (published_in a)
unfolding laid_by_direction
published-laid a l = eight-same (λ d. energy_among (published_in a) (d / 2 + 1) (eqb (d % 2) 0)) None a l (λ d h. sym (energy-published a d h))

-- what is published is read back
laid-at : (a : List (Option ℕ)) (d : ℕ) → d < 8 → get_or (laid_by_direction (published_in a)) d None ≡ get_or a d None
unfolding laid_by_direction
laid-at a d l = eight-at (λ d. energy_among (published_in a) (d / 2 + 1) (eqb (d % 2) 0)) None d l ∙ energy-published a d l

published-same : (a b : List (Option ℕ)) → ((d : ℕ) → d < 8 → get_or b d None ≡ get_or a d None) → published_in b ≡ published_in a
unfolding published_in directed
published-same a b f =
    ap (map (directed (energies_of b))) (keep_same (λ d. is_some (get_or b d None)) (λ d. is_some (get_or a d None)) (from_all _ 0 8 (λ d h l. ap (λ o. is_some o) (f d (omega arith)))))
    ∙ map-all (directed (energies_of b)) (directed (energies_of a)) (all_keep (λ d. is_some (get_or a d None)) (from_all _ 0 8 (λ d h l.
    ap (λ n. record { border = d / 2 + 1; export = eqb (d % 2) 0; energy = n }) (energy-of b d ∙ (ap (λ o. unwrap_or o 0) (f d (omega arith)) ∙ sym (energy-of a d))))))

pub published-again : (a : List (Option ℕ)) → published_in (laid_by_direction (published_in a)) ≡ published_in a
published-again a = published-same a (laid_by_direction (published_in a)) (laid-at a)

-- Figures

-- the code's records and the rules'
pub offers-again : (os : List Offer) → map offer_as (offers_in os) ≡ os
offers-again [] = refl
offers-again (o ∷ os) = ap (λ l. o ∷ l) (offers-again os)

pub executions-again : (xs : List Execution) → map execution_as (executions_in xs) ≡ xs
executions-again [] = refl
executions-again (x ∷ xs) = ap (λ l. x ∷ l) (executions-again xs)

pub offers-back : (os : List M.Offer) → offers_in (map offer_as os) ≡ os
offers-back [] = refl
offers-back (o ∷ os) = ap (λ l. o ∷ l) (offers-back os)

pub executions-back : (xs : List RuleExecution) → executions_in (map execution_as xs) ≡ xs
executions-back [] = refl
executions-back (x ∷ xs) = ap (λ l. x ∷ l) (executions-back xs)

-- figures that have the flows by direction are as the rules' are laid out, what stands behind their lists apart
pub figures-laid : (f : Figures) → length f.maxima ≡ 8
    → length f.market ≡ 8 → MarketFlows f.market (offers_in (listed f.offers)) → length f.bilateral ≡ 8 → ExecutionFlows f.bilateral (executions_in (listed f.executions))
    → padded f ≡ figures_as (figures_in f)
unfolding figures_as figures_in padded
figures-laid f long lm fm lx fx =
    figures-same (sym (offers-again (listed f.offers))) (sym (executions-again (listed f.executions))) (published-laid f.maxima long) (flows-laid _ f.market lm fm) (flows-laid _ f.bilateral lx fx)
  where
    figures-same : {o o' : List Offer} {x x' : List Execution} {l l' : List (Option ℕ)} {m m' b b' : List ℕ} {s p : ℕ} → o ≡ o' → x ≡ x' → l ≡ l' → m ≡ m' → b ≡ b'
        → ◌≡◌ {A = Figures} (record { offers = listed_as 128 no_offer o; executions = listed_as 128 no_execution x; maxima = l; market = m; bilateral = b; steps = s; price = p })
        (record { offers = listed_as 128 no_offer o'; executions = listed_as 128 no_execution x'; maxima = l'; market = m'; bilateral = b'; steps = s; price = p })
    figures-same a b c d e = rw (a, b, c, d, e)

-- figures of published directions are read back from where they are laid
pub figures-back : (x : C.Figures) (a : List (Option ℕ)) → x.maxima ≡ published_in a → figures_in (figures_as x) ≡ x
unfolding figures_in figures_as
figures-back x a m =
    rules-same (ap offers_in (listed-back 128 no_offer (map offer_as x.offers)) ∙ offers-back x.offers) (ap executions_in (listed-back 128 no_execution (map execution_as x.executions)) ∙ executions-back x.executions) (ap (λ ds. published_in (laid_by_direction ds)) m ∙ (published-again a ∙ sym m))
  where
    rules-same : {o p : List M.Offer} {y z : List RuleExecution} {l m : List Directed} {s q : ℕ} → o ≡ p → y ≡ z → l ≡ m
        → ◌≡◌ {A = C.Figures} (record { offers = o; executions = y; maxima = l; steps = s; price = q }) (record { offers = p; executions = z; maxima = m; steps = s; price = q })
    rules-same a b c = rw (a, b, c)

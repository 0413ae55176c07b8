-- A border and direction among the published ones.
use Prim.Native.Nat.{ℕ, zero, suc, ◌≤◌, ◌<◌}
use mathlib.Core.Path.{◌≡◌, refl, ap, ap₂, ◌∙◌}
use mathlib.Core.Bool.{Bool, true, false, cond, ◌&&◌, beq}
use mathlib.Core.List.{List, [], ◌∷◌, ◌++◌, map}
use mathlib.Core.Option.{Option, some, none}
use native.Mathlib.Omega.{arith}
use lib.Dec.{eqb}
use lib.IntN.{ℤ}
use Rattle.rules.specs.Lists.{hourly}
use Rattle.rules.specs.Units.{Published, Capacities, capacity_of}
use Rattle.rules.specs.Match.{Offer}
use Rattle.rules.specs.Borders.{Directed, Execution}
use Rattle.rules.specs.Split.{maximum_of}
use Rattle.rules.specs.Clearing.{published, border_capacities, capacities_at}
use Rattle.rules.specs.Queries.{Shown, number, absent, directed_at}
use Rattle.rules.proofs.BoolLaws.{by_bool}
use Rattle.session.specs.Image.{energy_of}

-- what is published of a direction in an hour
unfoldable pub published_at : ℕ → ℕ → Bool → Published → Option Directed
published_at h border export none = none
published_at h border export (some es) = some (record { border = border; export = export; energy = hourly es h })

-- what is shown of it
unfoldable pub shown_of : (Directed → ℤ) → Option Directed → Shown
shown_of f none = absent
shown_of f (some d) = number (f d)

unfoldable pub energy_in : Option Directed → ℕ
energy_in none = 0
energy_in (some d) = d.energy

unfoldable pub mapped : (Directed → Directed) → Option Directed → Option Directed
mapped f none = none
mapped f (some d) = some (f d)

unfoldable or : Option Directed → Option Directed → Option Directed
or none y = y
or (some d) y = some d

or-none : (x : Option Directed) → or x none ≡ x
unfolding or
or-none none = refl
or-none (some d) = refl

module _ (border : ℕ) (export : Bool) where
  abbrev same : Directed → Bool
  same d = eqb d.border border && beq d.export export

  -- the first of a list
  unfoldable pub seek : List Directed → Option Directed
  seek [] = none
  seek (d ∷ ds) = cond (same d) (some d) (seek ds)

  pub directed-seek : (f : Directed → ℤ) (ds : List Directed) → directed_at f border export ds ≡ shown_of f (seek ds)
  unfolding directed_at seek shown_of
  directed-seek f [] = refl
  directed-seek f (d ∷ ds) = by_bool (same d) (λ t. rw t) (λ t. rw t (directed-seek f ds))

  pub energy-seek : (ds : List Directed) → energy_of ds border export ≡ energy_in (seek ds)
  unfolding energy_of seek energy_in
  energy-seek [] = refl
  energy-seek (d ∷ ds) = by_bool (same d) (λ t. rw t) (λ t. rw t (energy-seek ds))

  -- maxima are of the directions of the capacities
  pub seek-maxima : (os : List Offer) (xs : List Execution) (ds : List Directed) → seek (map (maximum_of os xs) ds) ≡ mapped (maximum_of os xs) (seek ds)
  unfolding seek mapped maximum_of
  seek-maxima os xs [] = refl
  seek-maxima os xs (d ∷ ds) = by_bool (same d) (λ t. rw t) (λ t. rw t (seek-maxima os xs ds))

  seek-append : (xs ys : List Directed) → seek (xs ++ ys) ≡ or (seek xs) (seek ys)
  unfolding seek or
  seek-append [] ys = refl
  seek-append (d ∷ xs) ys = by_bool (same d) (λ t. rw t) (λ t. rw t (seek-append xs ys))

  seek-one : (h b : ℕ) (e : Bool) (c : Published) → seek (published h b e c) ≡ cond (eqb b border && beq e export) (published_at h b e c) none
  unfolding seek published published_at
  seek-one h b e none = by_bool (eqb b border && beq e export) (λ t. rw t) (λ t. rw t)
  seek-one h b e (some es) = refl

own : (t export : Bool) (x y : Option Directed)
    → or (cond (t && beq true export) x none) (cond (t && beq false export) y none) ≡ cond t (cond export x y) none
unfolding or
own true true x y = or-none x
own true false x y = refl
own false true x y = refl
own false false x y = refl

module _ (cs : Capacities) (h : ℕ) where
  abbrev at : ℕ → Bool → Option Directed
  at border export = published_at h border export (capacity_of cs border export)

  chosen : (border : ℕ) (export : Bool) → cond export (at border true) (at border false) ≡ at border export
  chosen border true = refl
  chosen border false = refl

  seek-border : (border : ℕ) (export : Bool) (b : ℕ) → seek border export (border_capacities cs h b) ≡ cond (eqb b border) (at b export) none
  unfolding border_capacities
  seek-border border export b =
      seek-append border export (published h b true (capacity_of cs b true)) (published h b false (capacity_of cs b false))
      ∙ ap₂ or (seek-one border export h b true (capacity_of cs b true)) (seek-one border export h b false (capacity_of cs b false))
      ∙ own (eqb b border) export (at b true) (at b false)
      ∙ ap (λ x. cond (eqb b border) x none) (chosen b export)

  abbrev among : ℕ → Bool → ℕ → Option Directed
  among border export b = cond (eqb b border) (at b export) none

  seek-all : (border : ℕ) (export : Bool)
      → seek border export (capacities_at cs h) ≡ or (among border export 1) (or (among border export 2) (or (among border export 3) (among border export 4)))
  unfolding capacities_at
  seek-all border export =
      seek-append border export (border_capacities cs h 1) _
      ∙ ap₂ or (seek-border border export 1)
      (seek-append border export (border_capacities cs h 2) _
      ∙ ap₂ or (seek-border border export 2)
      (seek-append border export (border_capacities cs h 3) (border_capacities cs h 4)
      ∙ ap₂ or (seek-border border export 3) (seek-border border export 4)))

  -- a direction of the four borders stands among the capacities exactly if it is published
  pub seek-capacities : (border : ℕ) (export : Bool) → 0 < border → border ≤ 4 → seek border export (capacities_at cs h) ≡ at border export
  unfolding or
  seek-capacities zero export l k = absurd (omega arith)
  seek-capacities (suc zero) export l k = seek-all 1 export ∙ or-none (at 1 export)
  seek-capacities (suc (suc zero)) export l k = seek-all 2 export ∙ or-none (at 2 export)
  seek-capacities (suc (suc (suc zero))) export l k = seek-all 3 export ∙ or-none (at 3 export)
  seek-capacities (suc (suc (suc (suc zero)))) export l k = seek-all 4 export
  seek-capacities (suc (suc (suc (suc (suc n))))) export l k = absurd (omega arith)

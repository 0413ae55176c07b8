-- What one portion more adds, and what stays in range.
use Prim.Native.Nat.{ℕ, zero, suc, ◌+◌, ◌*◌, ◌≤◌, ◌<◌}
use mathlib.Core.Path.{◌≡◌, refl, sym, ap}
use mathlib.Core.Logic.{◌⊎◌, inl, inr}
use mathlib.Core.Bool.{Bool, true, false, cond}
use mathlib.Core.List.{List, [], ◌∷◌, map}
use native.Mathlib.Omega.{arith}
use lib.Dec.{eqb}
use lib.ListN.{get_or, set, length, replicate}
use lib.Seq.{get_or-set_same, get_or-set_other}
use borrow.Author.Tests.{eqb-true, eqb-false, ne_eqb}
use Rattle.std.specs.List.{sum_by, All as Every}
use Rattle.std.proofs.lemmas.List.Sums.{sum_by-cons, sum_by-le}
use Rattle.rules.specs.Lists.{keep, sum, sum_of}
use Rattle.rules.specs.Units.{max_energy}
use Rattle.rules.proofs.BoolLaws.{by_bool}
use Rattle.rules.proofs.SumLaws.{cond-le}
use Rattle.clear_store.specs.declared.portions.Portion.{Portion}
use Rattle.clear_store.specs.Slots.{energy_of, energy_held, nothing}

cond-none : (b : Bool) → ◌≡◌ {A = ℕ} (cond b 0 0) 0
cond-none true = refl
cond-none false = refl

-- a portion joined to one of the same unit, or to nothing
joined : (x p : Portion) (u : ℕ) → (x.unit ≡ p.unit) ⊎ ((x.unit ≡ p.unit → ⊥) × (x.energy ≡ 0))
    → cond (eqb p.unit u) (x.energy + p.energy) 0 ≡ cond (eqb x.unit u) x.energy 0 + cond (eqb p.unit u) p.energy 0
joined x p u (inl h) = rw h (by_bool (eqb p.unit u) (λ t. rw t refl) (λ t. rw t refl))
joined x p u (inr z) = rw (z.1, cond-none (eqb x.unit u)) (by_bool (eqb p.unit u) (λ t. rw t (omega arith)) (λ t. rw t refl))

module _ (slot : ℕ → ℕ) (held : List Portion) (p : Portion) (u : ℕ) where
  -- what stands at the portion's slot
  abbrev there : Portion
  there = get_or held (slot p.unit) nothing

  -- and with the portion
  abbrev both : Portion
  both = record { unit = p.unit; energy = there.energy + p.energy }

  pub held-more : (there.unit ≡ p.unit) ⊎ ((there.unit ≡ p.unit → ⊥) × (there.energy ≡ 0)) → slot p.unit < length held
      → energy_held slot u (set held (slot p.unit) both) ≡ energy_held slot u held + energy_of u p
  unfolding energy_held energy_of
  held-more e l =
      by_bool (eqb (slot u) (slot p.unit))
      (λ t. rw (eqb-true (slot u) (slot p.unit) t, get_or-set_same held (slot p.unit) both nothing l) (joined there p u e))
      (λ t. let d = eqb-false (slot u) (slot p.unit) t in
      rw (get_or-set_other held (slot p.unit) (slot u) both nothing d, ne_eqb p.unit u (λ z. d (ap slot (sym z)))) (omega arith))

-- Nothing yet

blank : (n i : ℕ) → get_or (replicate n nothing) i nothing ≡ nothing
blank zero i = refl
blank (suc n) zero = refl
blank (suc n) (suc i) = blank n i

pub none-held : (slot : ℕ → ℕ) (n u : ℕ) → energy_held slot u (replicate n nothing) ≡ 0
unfolding energy_held energy_of
none-held slot n u = rw (blank n (slot u)) (cond-none (eqb 0 u))

pub none-room : (n i k : ℕ) → (get_or (replicate n nothing) i nothing).energy ≤ k
none-room n i k = rw (blank n i) (omega arith)

-- Sums

-- a sum of portions in range is in range
pub beside-small : (u : ℕ) (ps : List Portion) → Every (λ p. p.energy ≤ max_energy) ps → sum_by (energy_of u) ps ≤ length ps * max_energy
unfolding energy_of
beside-small u ps h = sum_by-le (energy_of u) max_energy ps (λ i d k. omega (arith, cond-le (eqb (get_or ps i d).unit u) (get_or ps i d).energy, h i d k))

-- and so is what stands at a slot
pub held-small : (slot : ℕ → ℕ) (u : ℕ) (ps : List Portion) → slot u < length ps → Every (λ p. p.energy ≤ 128 * max_energy) ps → energy_held slot u ps ≤ 128 * max_energy
unfolding energy_held energy_of
held-small slot u ps l h = let p = get_or ps (slot u) nothing in omega (arith, cond-le (eqb p.unit u) p.energy, h (slot u) nothing l)

-- a unit's portions are those of its holders
pub of-holders : {A : Type 0} (portion : A → Portion) (u : ℕ) (xs : List A)
    → sum_by (energy_of u) (map portion xs) ≡ sum_of (λ x. (portion x).energy) (keep (λ x. eqb (portion x).unit u) xs)
unfolding energy_of keep sum_of sum
of-holders portion u [] = refl
of-holders portion u (x ∷ xs) =
    by_bool (eqb (portion x).unit u)
    (λ t. rw (sum_by-cons (energy_of u) (portion x) (map portion xs), t, of-holders portion u xs) refl)
    (λ t. rw (sum_by-cons (energy_of u) (portion x) (map portion xs), t, of-holders portion u xs) (omega arith))

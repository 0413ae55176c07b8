-- Energies by hour, added up: the loop that adds a row, and what sums over indices are.
use Prim.Native.Nat.{ℕ, ◌+◌, ◌*◌, ◌≤◌, ◌<◌}
use mathlib.Core.Path.{◌≡◌, ap, sym, ◌∙◌}
use mathlib.Core.Logic.{⊎_elim}
use mathlib.Core.List.{List, [], ◌∷◌, ◌++◌}
use native.Mathlib.Nat.{eq-or-lt_of_le}
use native.Mathlib.Numerals.{add-one}
use native.Mathlib.Omega.{arith}
use lib.ListN.{length, get_or, take, set, replicate, get_or-replicate}
use lib.Seq.{take-suc, take_all, get_or-set_same, get_or-set_other}
use Rattle.rules.specs.Lists.{sum, sum_of}
use Rattle.session.specs.Bare.{bare_energies}
use Rattle.session.specs.declared.Energies.{Energies}
use Rattle.lodge_keys.specs.Sums.{Below, Added, energy_of, SumsAt}

-- The loop that adds a row

-- the first h hours are added, and the others as before
pub record Adding (before row after : List ℕ) (h : ℕ) : Type 0 where
  pub added : (k : ℕ) → k < h → get_or after k 0 ≡ get_or before k 0 + get_or row k 0
  pub below : (i : ℕ) → Below i before → (k : ℕ) → k < h → k < 25 → get_or after k 0 ≤ (i + 1) * 4294967295
  pub unchanged : (k : ℕ) → h ≤ k → get_or after k 0 ≡ get_or before k 0

module _ (before row after : List ℕ) (h : ℕ) (p : Adding before row after h) where
  -- the next hour's sum is not added to yet
  pub adding-low : (i : ℕ) → h < 25 → Below i before → get_or after h 0 ≤ i * 4294967295
  unfolding Below
  adding-low i l b = rw (p.unchanged h (omega arith)) (b h l)

  pub adding-next : (v r : ℕ) → h < length after → r ≡ get_or row h 0 → r < 4294967296 → v ≡ get_or after h 0 + r → Adding before row (set after h v) (h + 1)
  adding-next v r l e low q =
      let was = p.unchanged h (omega arith) in
      record {
        added = λ k n. ⊎_elim (λ (x : k ≡ h). rw (x, get_or-set_same after h v 0 l) (omega (arith, was))) (λ n. other k (λ x. absurd (omega arith)) ∙ p.added k n) (eq-or-lt_of_le (last k n));
        below = λ i b k n m. ⊎_elim (λ (x : k ≡ h). rw (x, get_or-set_same after h v 0 l) (omega (arith, adding-low i (omega arith) b))) (λ n. rw (other k (λ x. absurd (omega arith))) (p.below i b k n m)) (eq-or-lt_of_le (last k n));
        unchanged = λ k n. other k (λ x. absurd (omega arith)) ∙ p.unchanged k (omega arith);
      }
    where
      last : (k : ℕ) → k < h + 1 → k ≤ h
      last k n = omega arith

      other : (k : ℕ) → (k ≡ h → ⊥) → get_or (set after h v) k 0 ≡ get_or after k 0
      other k x = get_or-set_other after h k v 0 x

  pub adding-end : 25 ≤ h → Added before row after
  unfolding Added
  adding-end e k m = p.added k (omega arith)

  pub adding-below : 25 ≤ h → (i : ℕ) → Below i before → Below (i + 1) after
  unfolding Below
  adding-below e i b k m = p.below i b k (omega arith) m

-- Bounds

pub below-start : Below 0 (replicate 25 0)
unfolding Below
below-start h i = omega (arith, get_or-replicate {A = ℕ} 25 h 0 0 i)

pub below_more : (i j : ℕ) (sums : List ℕ) → i ≤ j → Below i sums → Below j sums
unfolding Below
below_more i j sums k b h m = omega (arith, b h m)

-- Sums over indices

sum-last : (f : ℕ → ℕ) (ls : List ℕ) (l : ℕ) → sum_of f (ls ++ (l ∷ [])) ≡ sum_of f ls + f l
unfolding sum_of sum
sum-last f [] l = omega arith
sum-last f (k ∷ ls) l = omega (arith, sum-last f ls l)

module _ (es : List Energies) (ls : List ℕ) where
  pub sums-start : SumsAt es (take 0 ls) (replicate 25 0)
  unfolding SumsAt sum_of sum
  sums-start h i = get_or-replicate {A = ℕ} 25 h 0 0 i

  -- the row of the next index is added
  pub sums_next : (i : ℕ) (before after : List ℕ) → i < length ls → SumsAt es (take i ls) before → Added before (get_or es (get_or ls i 0) bare_energies).energies after
      → SumsAt es (take (i + 1) ls) after
  unfolding SumsAt Added
  sums_next i before after m s a h k =
      a h k ∙ (ap (λ n. n + energy_of es h (get_or ls i 0)) (s h k) ∙ sym (sum-last (energy_of es h) (take i ls) (get_or ls i 0)) ∙ sym (ap (sum_of (energy_of es h)) (rw add-one (take-suc ls i 0 m))))

  -- all are
  pub sums-all : (i : ℕ) (sums : List ℕ) → length ls ≤ i → SumsAt es (take i ls) sums → SumsAt es ls sums
  sums-all i sums m s = rw (take_all i ls m) at s

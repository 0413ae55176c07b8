-- Flows by direction: one turn of the loop and its end, and that those of a list are the rules'.
use Prim.Native.Nat.{ℕ, ◌+◌, ◌*◌, ◌≤◌, ◌<◌}
use mathlib.Core.Path.{◌≡◌, refl, ap, sym}
use mathlib.Core.Bool.{Bool, true, cond}
use mathlib.Core.List.{List, [], ◌∷◌, map}
use native.Mathlib.Numerals.{add-one}
use native.Mathlib.Omega.{arith}
use lib.Dec.{eqb}
use lib.ListN.{get_or, set, length, drop, drop_of_length-le}
use lib.Seq.{drop-cons, get_or-set_same, get_or-set_other}
use borrow.Author.Tests.{eqb-true, eqb-false}
use Rattle.std.specs.Prelude.{None, Some}
use Rattle.rules.specs.Lists.{All, keep, sum, sum_of}
use Rattle.rules.specs.Units.{direction}
use Rattle.rules.specs.Match.{Holder}
use Rattle.rules.specs.Borders.{runs, at_border, flow}
use Rattle.rules.proofs.BoolLaws.{by_bool}
use Rattle.rules.proofs.ListLaws.{all_map}
use Rattle.rules.proofs.IndexLaws.{set-small}
use Rattle.rules.proofs.CrossingLaws.{at_none}
use Rattle.hour_share.specs.declared.Amount.{Amount}
use Rattle.hour_share.specs.Deductions.{energy_in}
use Rattle.hour_borders.specs.Directions.{own_direction}
use Rattle.hour_borders.specs.Flows.{Countable}
use Rattle.hour_borders.proofs.DirectionLaws.{runs-direction}

-- The loop

-- an energy added in its direction
pub flow-next : (f : List ℕ) (a : Amount) (k d : ℕ) → a.direction ≡ Some k → k < length f → get_or (set f k (get_or f k 0 + a.energy)) d 0 ≡ get_or f d 0 + energy_in d a
unfolding energy_in
flow-next f a k d e h =
    by_bool (eqb k d)
    (λ t. let q = eqb-true k d t in rw (e, t, ← q) (get_or-set_same f k (get_or f k 0 + a.energy) 0 h))
    (λ t. rw (e, t) (omega (arith, get_or-set_other f k d (get_or f k 0 + a.energy) 0 (λ z. eqb-false k d t (sym z)))))

-- one that runs in none counts for nothing
pub flow-skip : (a : Amount) (d : ℕ) → a.direction ≡ None → energy_in d a ≡ 0
unfolding energy_in
flow-skip a d e = rw e

module _ {A : Type 0} (g : A → Amount) (d : ℕ) where
  pub left-next : (xs : List A) (i : ℕ) (x : A) → i < length xs → x ≡ get_or xs i x
      → sum_of (energy_in d) (map g (drop i xs)) ≡ energy_in d (g x) + sum_of (energy_in d) (map g (drop (i + 1) xs))
  unfolding sum_of sum
  left-next xs i x h e = rw (add-one i, drop-cons xs i x h, ← e)

  pub left-end : (xs : List A) (i : ℕ) → length xs ≤ i → sum_of (energy_in d) (map g (drop i xs)) ≡ 0
  unfolding sum_of sum
  left-end xs i h = rw (drop_of_length-le xs {i = i} h)

-- a closure that gives the holders' amounts gives ones that can be counted, where these can be
pub all-counted : {A : Type 0} {R : A → Amount → Type 0} (given : A → Amount) → ((x : A) (a : Amount) → R x a → a ≡ given x) → {xs : List A} → All (λ x. Countable (given x)) xs
    → All (λ x. (a : Amount) → R x a → Countable a) xs
all-counted given r = all_map (λ x k a h. rw (r x a h) k)

-- The rules' lists

module _ {A B : Type 0} (g : A → Amount) (at : A → B) (holder : B → Holder) (energy : B → ℕ) (p : B → Bool)
    (own : (x : A) → (g x).direction ≡ own_direction (holder (at x)).border (holder (at x)).purchase)
    (counts : (x : A) → (g x).energy ≡ at_border (holder (at x)) (cond (p (at x)) (energy (at x)) 0)) (b : ℕ) (e : Bool) (above : 0 < b) (below : b < 5) where
  -- the flow of those that pass a test, where the others count for nothing
  pub flow-said : (xs : List A) → sum_of (energy_in (direction b e)) (map g xs) ≡ flow holder energy b e (keep p (map at xs))
  unfolding sum_of sum energy_in flow keep
  flow-said [] = refl
  flow-said (x ∷ xs) =
      let r = runs-direction b e above below (holder (at x)) in
      let k = flow-said xs in
      by_bool (p (at x))
      (λ t. by_bool (runs b e (holder (at x)))
      (λ u. rw (own x, counts x, ← r, t, u) (ap (λ n. at_border (holder (at x)) (energy (at x)) + n) k))
      (λ u. rw (own x, counts x, ← r, t, u) (omega (arith, k))))
      (λ t. by_bool (runs b e (holder (at x)))
      (λ u. rw (own x, counts x, ← r, t, u) (omega (arith, at_none (holder (at x)), k)))
      (λ u. rw (own x, counts x, ← r, t, u) (omega (arith, k))))

-- a test that all pass keeps all
pub keep-all : {A : Type 0} (xs : List A) → keep (λ x. true) xs ≡ xs
unfolding keep
keep-all [] = refl
keep-all (x ∷ xs) = ap (λ l. x ∷ l) (keep-all xs)

-- numbers counted one by one stay small
pub more-small : (f : List ℕ) (k x b i : ℕ) → ((d : ℕ) → get_or f d 0 ≤ b * i) → x ≤ b → (d : ℕ) → get_or (set f k (get_or f k 0 + x)) d 0 ≤ b * (i + 1)
more-small f k x b i h l d = set-small (b * (i + 1)) f k (get_or f k 0 + x) (omega (arith, h k)) (λ j. omega (arith, h j)) d

-- What a caller needs of marks and loads: which lodgements are counted, and the sums of the rules that they make.
use Prim.Native.Nat.{ℕ, zero, suc, ◌+◌, ◌<◌}
use mathlib.Core.Path.{◌≡◌, refl, ap, sym, ◌∙◌}
use mathlib.Core.Bool.{Bool, true, false}
use mathlib.Core.List.{List, [], ◌∷◌, map}
use native.Mathlib.Omega.{arith}
use lib.ListN.{length, take, get_or, set, replicate}
use Rattle.rules.specs.Lists.{keep, sum, sum_of, hourly}
use Rattle.rules.specs.Lodging.{Lodgement, energy_at}
use Rattle.session.specs.Image.{energies_as}
use Rattle.judge_loads.specs.Loads.{marked, energy_in, load_in}

module _ {A : Type 0} where
  -- marks made by a test mark those that pass it
  pub marked-keep : (p : A → Bool) (xs : List A) → marked (map p xs) xs ≡ keep p xs
  unfolding marked keep
  marked-keep p [] = refl
  marked-keep p (x ∷ xs) = rw (marked-keep p xs)

  -- marks after the list's end mark nothing
  pub marked-front : (bs : List Bool) (xs : List A) → marked (take (length xs) bs) xs ≡ marked bs xs
  unfolding marked
  marked-front [] [] = refl
  marked-front [] (x ∷ xs) = refl
  marked-front (b ∷ bs) [] = refl
  marked-front (b ∷ bs) (x ∷ xs) = rw (marked-front bs xs)

  -- no mark
  pub marked-nothing : (n : ℕ) (xs : List A) → marked (replicate n false) xs ≡ []
  unfolding marked
  marked-nothing zero xs = refl
  marked-nothing (suc n) [] = refl
  marked-nothing (suc n) (x ∷ xs) = marked-nothing n xs

  -- one more mark
  pub sum-mark : (f : A → ℕ) (bs : List Bool) (xs : List A) (i : ℕ) (d : A) → i < length bs → i < length xs → get_or bs i false ≡ false
      → sum_of f (marked (set bs i true) xs) ≡ f (get_or xs i d) + sum_of f (marked bs xs)
  unfolding marked sum_of sum
  sum-mark f [] xs i d h k e = absurd (omega arith)
  sum-mark f (b ∷ bs) [] i d h k e = absurd (omega arith)
  sum-mark f (b ∷ bs) (x ∷ xs) zero d h k e = rw e
  sum-mark f (true ∷ bs) (x ∷ xs) (suc i) d h k e = omega (arith, sum-mark f bs xs i d (omega arith) (omega arith) e)
  sum-mark f (false ∷ bs) (x ∷ xs) (suc i) d h k e = sum-mark f bs xs i d (omega arith) (omega arith) e

pub marked-map : {A B : Type 0} (f : A → B) (bs : List Bool) (xs : List A) → marked bs (map f xs) ≡ map f (marked bs xs)
unfolding marked
marked-map f [] xs = refl
marked-map f (b ∷ bs) [] = refl
marked-map f (true ∷ bs) (x ∷ xs) = ap (λ (l : List _). f x ∷ l) (marked-map f bs xs)
marked-map f (false ∷ bs) (x ∷ xs) = marked-map f bs xs

-- The load of standing lodgements

sums-as : (h : ℕ) (ls : List Lodgement) → sum_of (energy_in h) (map energies_as ls) ≡ sum_of (λ l. energy_at l h) ls
unfolding sum_of sum energy_at
sums-as h [] = refl
sums-as h (l ∷ ls) = ap (λ n. hourly l.energies h + n) (sums-as h ls)

module _ (own : List ℕ) (bs : List Bool) (ls : List Lodgement) (h : ℕ) where
  pub load-as : load_in own bs (map energies_as ls) h ≡ hourly own h + sum_of (λ l. energy_at l h) (marked bs ls)
  unfolding load_in
  load-as = rw (marked-map energies_as bs ls, sums-as h (marked bs ls))

  -- marked by a test
  pub load-keep : (p : Lodgement → Bool) → take (length ls) bs ≡ map p ls → load_in own bs (map energies_as ls) h ≡ hourly own h + sum_of (λ l. energy_at l h) (keep p ls)
  load-keep p e = load-as ∙ ap (λ (xs : List Lodgement). hourly own h + sum_of (λ l. energy_at l h) xs) (sym (marked-front bs ls) ∙ ap (λ (ms : List Bool). marked ms ls) e ∙ marked-keep p ls)

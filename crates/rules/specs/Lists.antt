-- Lists, as the rules' sentences use them.
use Rattle.std.specs.Prelude.{ℕ, zero, suc, ◌+◌, ◌-◌, ◌/◌, Bool, false, cond, ◌||◌, List, [], ◌∷◌, map, get_or}

-- what holds of every element
pub data All {A : Type 0} (P : A → Type 0) : List A → Type 0 where
  none : All P []
  more : {x : A} {xs : List A} → P x → All P xs → All P (x ∷ xs)

-- what holds of some element
pub data Some {A : Type 0} (P : A → Type 0) : List A → Type 0 where
  here : {x : A} {xs : List A} → P x → Some P (x ∷ xs)
  there : {x : A} {xs : List A} → Some P xs → Some P (x ∷ xs)

-- what holds of each element with every later one
pub data Pairwise {A : Type 0} (R : A → A → Type 0) : List A → Type 0 where
  empty : Pairwise R []
  ahead : {x : A} {xs : List A} → All (R x) xs → Pairwise R xs → Pairwise R (x ∷ xs)

-- two lists place by place: as long as each other, and in R at each place
pub data Each {A B : Type 0} (R : A → B → Type 0) : List A → List B → Type 0 where
  each0 : Each R [] []
  each : {x : A} {y : B} {xs : List A} {ys : List B} → R x y → Each R xs ys → Each R (x ∷ xs) (y ∷ ys)

-- three lists place by place
pub data Each3 {A B C : Type 0} (R : A → B → C → Type 0) : List A → List B → List C → Type 0 where
  three0 : Each3 R [] [] []
  three : {x : A} {y : B} {z : C} {xs : List A} {ys : List B} {zs : List C} → R x y z → Each3 R xs ys zs → Each3 R (x ∷ xs) (y ∷ ys) (z ∷ zs)

-- those of a list that pass a test, in their order
unfoldable pub keep : {A : Type 0} → (A → Bool) → List A → List A
keep p [] = []
keep p (x ∷ xs) = cond (p x) (x ∷ keep p xs) (keep p xs)

unfoldable pub any : {A : Type 0} → (A → Bool) → List A → Bool
any p [] = false
any p (x ∷ xs) = p x || any p xs

-- the first that passes a test, or d where none does
unfoldable pub first : {A : Type 0} → (A → Bool) → A → List A → A
first p d [] = d
first p d (x ∷ xs) = cond (p x) x (first p d xs)

unfoldable pub sum : List ℕ → ℕ
sum [] = 0
sum (n ∷ ns) = n + sum ns

unfoldable pub sum_of : {A : Type 0} → (A → ℕ) → List A → ℕ
sum_of f xs = sum (map f xs)

-- n numbers from i on
unfoldable pub from : ℕ → ℕ → List ℕ
from i zero = []
from i (suc n) = i ∷ from (suc i) n

-- the lowest of 1 to n that passes a test, or 0 where none does
unfoldable pub lowest : (ℕ → Bool) → ℕ → ℕ
lowest p n = first p 0 (from 1 n)

-- what a list has for hour h, hours counted from 1
unfoldable pub hourly : List ℕ → ℕ → ℕ
hourly es h = get_or es (h - 1) 0

-- two lists of numbers added place by place
unfoldable pub add_each : List ℕ → List ℕ → List ℕ
add_each [] ls = ls
add_each (k ∷ ks) [] = k ∷ ks
add_each (k ∷ ks) (l ∷ ls) = (k + l) ∷ add_each ks ls

-- n / d rounded up
unfoldable pub round_up : ℕ → ℕ → ℕ
round_up n d = (n + (d - 1)) / d

-- names every definition of this file: who unfolds it unfolds them
unfoldable pub unfold_lists : Unit {0}
unfolding keep any first sum sum_of from lowest hourly add_each round_up
unfold_lists = tt

-- Laws of ranges of indices, and of lists that are written or mapped.
use Prim.Native.Nat.{ℕ, zero, suc, ◌+◌, ◌-◌, ◌≤◌, ◌<◌}
use mathlib.Core.Path.{◌≡◌, refl, ap, ap₂}
use mathlib.Core.List.{List, [], ◌∷◌, map}
use native.Mathlib.Numerals.{add-one}
use native.Mathlib.Omega.{arith}
use lib.ListN.{get_or, set, length}
use Rattle.rules.specs.Lists.{All, none, more, from}

pub from_next : (n i : ℕ) → i < n → from i (n - i) ≡ i ∷ from (i + 1) (n - (i + 1))
unfolding from
from_next n i h = let e : n - i ≡ suc (n - (i + 1)) = omega arith in rw (e, add-one)

pub length_from : (i n : ℕ) → length (from i n) ≡ n
unfolding from
length_from i zero = refl
length_from i (suc n) = ap suc (length_from (suc i) n)

pub from_at : (i n k : ℕ) → k < n → get_or (from i n) k 0 ≡ i + k
unfolding from
from_at i zero k h = absurd (omega arith)
from_at i (suc n) zero h = omega arith
from_at i (suc n) (suc k) h = omega (arith, from_at (suc i) n k (omega arith))

pub from_all : (P : ℕ → Type 0) (i n : ℕ) → ((j : ℕ) → i ≤ j → j < i + n → P j) → All P (from i n)
unfolding from
from_all P i zero f = none
from_all P i (suc n) f = more (f i (omega arith) (omega arith)) (from_all P (suc i) n (λ j h k. f j (omega arith) (omega arith)))

-- what stands at an index of a list made by index
pub from-at : {A : Type 0} (f : ℕ → A) (d : A) (i n j : ℕ) → j < n → get_or (map f (from i n)) j d ≡ f (i + j)
unfolding from
from-at f d i zero j h = absurd (omega arith)
from-at f d i (suc n) zero h = let o : i + 0 ≡ i = omega arith in rw o
from-at f d i (suc n) (suc j) h = let o : i + suc j ≡ suc i + j = omega arith in rw o (from-at f d (suc i) n j (omega arith))

-- two maps that agree at each element
pub map-all : {A B : Type 0} (f g : A → B) {xs : List A} → All (λ x. f x ≡ g x) xs → map f xs ≡ map g xs
map-all f g none = refl
map-all f g (more h t) = ap₂ (λ x xs. x ∷ xs) h (map-all f g t)

-- what bounds each number of a list bounds each where one is written,
pub set-small : (b : ℕ) (l : List ℕ) (i v : ℕ) → v ≤ b → ((j : ℕ) → get_or l j 0 ≤ b) → (j : ℕ) → get_or (set l i v) j 0 ≤ b
set-small b [] i v h f j = f j
set-small b (x ∷ l) zero v h f zero = h
set-small b (x ∷ l) zero v h f (suc j) = f (suc j)
set-small b (x ∷ l) (suc i) v h f zero = f zero
set-small b (x ∷ l) (suc i) v h f (suc j) = set-small b l i v h (λ k. f (suc k)) j

-- and each of a map that makes none larger
pub map-small : (b : ℕ) (f : ℕ → ℕ) (l : List ℕ) → ((x : ℕ) → f x ≤ x) → ((j : ℕ) → get_or l j 0 ≤ b) → (j : ℕ) → get_or (map f l) j 0 ≤ b
map-small b f [] u k j = k j
map-small b f (x ∷ l) u k zero = omega (arith, u x, k zero)
map-small b f (x ∷ l) u k (suc j) = map-small b f l u (λ i. k (suc i)) j

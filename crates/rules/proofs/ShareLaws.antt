-- Share takes exactly R in all, and from no amount more than it has.
use Prim.Native.Nat.{ℕ, zero, suc, pred, ◌+◌, ◌*◌, ◌-◌, ◌≤◌, ◌<◌, zero-le}
use mathlib.Core.Path.{◌≡◌, refl, ap}
use mathlib.Core.List.{List, [], ◌∷◌, map}
use mathlib.Core.Logic.{⊎_elim}
use native.Mathlib.Omega.{arith}
use native.Mathlib.Nat.{lt-div-mul-add, div-mul-le_self, mul-le-mul_right, div-zero, le_of_mul-le-mul_left, le_of_mul-le-mul_right, div-le_of_le-mul, div-lt_iff_lt-mul, mul-div_cancel_left, eq-or-lt_of_le}
use lib.ListN.{length, get_or}
use Rattle.rules.specs.Lists.{sum, add_each}
use Rattle.rules.specs.Share.{pro_rata, hand_out, share}

-- one list of numbers under another of its length, place by place
pub data Under : List ℕ → List ℕ → Type 0 where
  under0 : Under [] []
  under : {a b : ℕ} {xs ys : List ℕ} → a ≤ b → Under xs ys → Under (a ∷ xs) (b ∷ ys)

pub under_at : {xs ys : List ℕ} → Under xs ys → (i : ℕ) → get_or xs i 0 ≤ get_or ys i 0
under_at under0 i = omega arith
under_at (under h u) zero = h
under_at (under h u) (suc i) = under_at u i

pub under-length : {xs ys : List ℕ} → Under xs ys → length xs ≡ length ys
under-length under0 = refl
under-length (under h u) = ap suc (under-length u)

pub each-sum : (ks ls : List ℕ) → sum (add_each ks ls) ≡ sum ks + sum ls
unfolding sum add_each
each-sum [] ls = omega arith
each-sum (k ∷ ks) [] = omega arith
each-sum (k ∷ ks) (l ∷ ls) = omega (arith, each-sum ks ls)

pub add-length : (ks ls : List ℕ) → length ks ≡ length ls → length (add_each ks ls) ≡ length ls
unfolding add_each
add-length [] ls h = refl
add-length (k ∷ ks) [] h = h
add-length (k ∷ ks) (l ∷ ls) h = ap suc (add-length ks ls (ap pred h))

-- how many amounts are above 0
count : List ℕ → ℕ
count [] = 0
count (zero ∷ ms) = count ms
count (suc m ∷ ms) = suc (count ms)

-- units no more than the amounts above 0 all go out
hand-sum : (k : ℕ) (ms : List ℕ) → k ≤ count ms → sum (hand_out k ms) ≡ k
unfolding hand_out sum count
hand-sum k [] h = omega arith
hand-sum zero (m ∷ ms) h = omega (arith, hand-sum zero ms zero-le)
hand-sum (suc k) (zero ∷ ms) h = omega (arith, hand-sum (suc k) ms h)
hand-sum (suc k) (suc m ∷ ms) h = omega (arith, hand-sum k ms (omega arith))

pub pro-rata-le : (R G m : ℕ) → R ≤ G → pro_rata R G m ≤ m
unfolding pro_rata
pro-rata-le R G m h = div-le_of_le-mul G (mul-le-mul_right m h)

pro-rata-lt : (R G m : ℕ) → R < G → pro_rata R G (suc m) < suc m
unfolding pro_rata
pro-rata-lt R G m h = (div-lt_iff_lt-mul {k = G} {x = R * suc m} {y = suc m} (omega arith)).1 (omega (arith, mul-le-mul_right (suc m) h))

floors-low : (R G : ℕ) → 0 < G → (ms : List ℕ) → R * sum ms + count ms ≤ G * (sum (map (pro_rata R G) ms) + count ms)
unfolding pro_rata sum count
floors-low R G g [] = omega arith
floors-low R G g (zero ∷ ms) = omega (arith, floors-low R G g ms)
floors-low R G g (suc m ∷ ms) = omega (arith, lt-div-mul-add {a = R * suc m} g, floors-low R G g ms)

floors-high : (R G : ℕ) (ms : List ℕ) → sum (map (pro_rata R G) ms) * G ≤ R * sum ms
unfolding pro_rata sum
floors-high R G [] = omega arith
floors-high R G (m ∷ ms) = omega (arith, div-mul-le_self (R * m) G, floors-high R G ms)

-- "G 0 loses nothing"
floors-none : (R : ℕ) (ms : List ℕ) → sum (map (pro_rata R 0) ms) ≡ 0
unfolding pro_rata sum
floors-none R [] = refl
floors-none R (m ∷ ms) = omega (arith, div-zero (R * m), floors-none R ms)

-- where all is taken nothing is left over
floors-all : (G : ℕ) → 0 < G → (ms : List ℕ) → sum (map (pro_rata G G) ms) ≡ sum ms
unfolding pro_rata sum
floors-all G g [] = refl
floors-all G g (m ∷ ms) = omega (arith, mul-div_cancel_left m g, floors-all G g ms)

pub floors-le : (R G : ℕ) (ms : List ℕ) → R ≤ G → G ≡ sum ms → sum (map (pro_rata R G) ms) ≤ R
floors-le R zero ms h e = omega (arith, floors-none R ms)
floors-le R (suc G) ms h e = le_of_mul-le-mul_right {k = suc G} (omega (arith, floors-high R (suc G) ms, ap (λ x. R * x) e)) (omega arith)

leftover-le : (R G : ℕ) (ms : List ℕ) → R ≤ G → G ≡ sum ms → R - sum (map (pro_rata R G) ms) ≤ count ms
leftover-le R zero ms h e = omega arith
leftover-le R (suc G) ms h e =
    let low : R ≤ sum (map (pro_rata R (suc G)) ms) + count ms =
    le_of_mul-le-mul_left {k = suc G} (omega (arith, floors-low R (suc G) (omega arith) ms, ap (λ x. R * x) e)) (omega arith) in
    omega arith

-- "To take R": the deductions sum to R
pub share-sum : (R : ℕ) (ms : List ℕ) → R ≤ sum ms → sum (share R ms) ≡ R
unfolding share
share-sum R ms h =
    let floors = map (pro_rata R (sum ms)) ms in
    omega (arith, each-sum floors (hand_out (R - sum floors) ms), hand-sum (R - sum floors) ms (leftover-le R (sum ms) ms h refl), floors-le R (sum ms) ms h refl)

-- a leftover unit goes only where the floor leaves one
module _ (f : ℕ → ℕ) (within : (m : ℕ) → f m ≤ m) where
  hand-under : (k : ℕ) → (0 < k → (m : ℕ) → f (suc m) < suc m) → (ms : List ℕ) → Under (add_each (map f ms) (hand_out k ms)) ms
  unfolding hand_out add_each
  hand-under k t [] = under0
  hand-under zero t (m ∷ ms) = under {a = f m + 0} {b = m} (omega (arith, within m)) (hand-under zero t ms)
  hand-under (suc k) t (zero ∷ ms) = under {a = f 0 + 0} {b = 0} (omega (arith, within 0)) (hand-under (suc k) t ms)
  hand-under (suc k) t (suc m ∷ ms) = under {a = f (suc m) + 1} {b = suc m} (omega (arith, t (omega arith) m)) (hand-under k (λ h. t (omega arith)) ms)

strict : (R G : ℕ) (ms : List ℕ) → G ≡ sum ms → R ≤ G → 0 < R - sum (map (pro_rata R G) ms) → R < G
strict R G ms e h k = ⊎_elim (λ q. omega (arith, rw q at k, floors-all G (omega arith) ms)) (λ q. q) (eq-or-lt_of_le h)

-- no deduction is above its amount
pub share-under : (R : ℕ) (ms : List ℕ) → R ≤ sum ms → Under (share R ms) ms
unfolding share
share-under R ms h =
    hand-under (pro_rata R (sum ms)) (λ m. pro-rata-le R (sum ms) m h) (R - sum (map (pro_rata R (sum ms)) ms))
    (λ k m. pro-rata-lt R (sum ms) m (strict R (sum ms) ms refl h k)) ms

pub share-le : (R : ℕ) (ms : List ℕ) → R ≤ sum ms → (i : ℕ) → get_or (share R ms) i 0 ≤ get_or ms i 0
share-le R ms h = under_at (share-under R ms h)

pub share-length : (R : ℕ) (ms : List ℕ) → R ≤ sum ms → length (share R ms) ≡ length ms
share-length R ms h = under-length (share-under R ms h)

-- "with m above 0": an amount of 0 loses nothing
pub share-zero : (R : ℕ) (ms : List ℕ) → R ≤ sum ms → (i : ℕ) → get_or ms i 0 ≡ 0 → get_or (share R ms) i 0 ≡ 0
share-zero R ms h i z = omega (arith, share-le R ms h i)

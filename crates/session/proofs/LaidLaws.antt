-- Laws of lists laid into arrays, and of loops over their first indices.
use Prim.Native.Nat.{ℕ, zero, suc, ◌+◌, ◌-◌, ◌≤◌, ◌<◌, min}
use mathlib.Core.Path.{◌≡◌, refl, sym, ap, ◌∙◌}
use mathlib.Core.Bool.{Bool, true, false, ◌||◌}
use mathlib.Core.List.{List, [], ◌∷◌, ◌++◌, map}
use native.Mathlib.Omega.{arith}
use native.Mathlib.Numerals.{add-one}
use lib.Dec.{leb}
use borrow.Author.Tests.{leb-true, leb-false}
use lib.ListN.{length, get_or, set, take, drop, replicate, length-append, length-take, length-replicate, drop_of_length-le}
use lib.Seq.{take-append_seam, get_or-take, drop-cons, take-suc, take-suc-set, take_all}
use Rattle.rules.specs.Lists.{any}
use Rattle.rules.proofs.BoolLaws.{by_bool}
use Rattle.session.specs.Laid.{pad, counted}

-- Loops that look for an element

-- some of the first n passes, from index i on
unfoldable pub any_from : {A : Type 0} → (A → Bool) → List A → ℕ → ℕ → Bool
any_from p l n i = any p (drop i (take n l))

module _ {A : Type 0} (p : A → Bool) where
  pub any-start : (l : List A) (n : ℕ) → any_from p l n 0 ≡ any p (take n l)
  unfolding any_from
  any-start l n = refl

  pub any_step : (d : A) (l : List A) (n i : ℕ) → i < n → i < length l → any_from p l n i ≡ (p (get_or l i d) || any_from p l n (i + 1))
  unfolding any_from any
  any_step d l n i h k =
      rw (drop-cons (take n l) i d (omega (arith, length-take n l)), get_or-take n l i d h, add-one)

  pub any_here : (d : A) (l : List A) (n i : ℕ) → i < n → i < length l → p (get_or l i d) ≡ true → any_from p l n i ≡ true
  any_here d l n i h k e = rw (any_step d l n i h k, e)

  pub any_next : (d : A) (l : List A) (n i : ℕ) → i < n → i < length l → p (get_or l i d) ≡ false → any_from p l n i ≡ any_from p l n (i + 1)
  any_next d l n i h k e = rw (any_step d l n i h k, e)

  pub any-end : (l : List A) (n i : ℕ) → min n (length l) ≤ i → any_from p l n i ≡ false
  unfolding any_from any
  any-end l n i h = rw (drop_of_length-le (take n l) {i = i} (omega (arith, length-take n l)))

module _ {A B : Type 0} (f : A → B) where
  pub any-map : (p : B → Bool) (xs : List A) → any p (map f xs) ≡ any (λ x. p (f x)) xs
  unfolding any
  any-map p [] = refl
  any-map p (x ∷ xs) = rw (any-map p xs)

  pub map_last : (xs : List A) (x : A) → map f (xs ++ (x ∷ [])) ≡ map f xs ++ (f x ∷ [])
  map_last [] x = refl
  map_last (y ∷ xs) x = ap (λ (t : List B). f y ∷ t) (map_last xs x)

pub length_last : {A : Type 0} (l : List A) (x : A) → length (l ++ (x ∷ [])) ≡ length l + 1
length_last l x = simp length-append

-- A list laid into an array

module _ {A : Type 0} (n : ℕ) (d : A) where
  pub take-pad : (l : List A) (k : ℕ) → k ≡ length l → take k (pad n d l) ≡ l
  unfolding pad
  take-pad l k e = rw e (take-append_seam l (replicate (n - length l) d))

  set-over : (l : List A) (k : ℕ) (x : A) → set (l ++ replicate (suc k) d) (length l) x ≡ (l ++ (x ∷ [])) ++ replicate k d
  set-over [] k x = refl
  set-over (y ∷ l) k x = ap (λ (t : List A). y ∷ t) (set-over l k x)

  -- one more at the end
  pub set-pad : (l : List A) (k : ℕ) (x : A) → k ≡ length l → length l < n → set (pad n d l) k x ≡ pad n d (l ++ (x ∷ []))
  unfolding pad
  set-pad l k x e h =
      let m : n - length l ≡ suc (n - (length l + 1)) = omega arith in
      rw (e, length_last l x, m) (set-over l (n - (length l + 1)) x)

-- The first numbers of an array

pub length-counted : (n : ℕ) (l : List ℕ) → length (counted n l) ≡ n
unfolding counted pad
length-counted n l = simp (length-append, length-replicate) (omega (arith, length-take n l))

any-behind : {A : Type 0} (p : A → Bool) (d : A) (l : List A) (k : ℕ) → p d ≡ false → any p (l ++ replicate k d) ≡ any p l
unfolding any
any-behind p d [] zero h = refl
any-behind p d [] (suc k) h = rw h (any-behind p d [] k h)
any-behind p d (x ∷ l) k h = ap (λ t. p x || t) (any-behind p d l k h)

-- a test that 0 does not pass is passed by no padding
pub any-counted : (p : ℕ → Bool) (n : ℕ) (l : List ℕ) → p 0 ≡ false → any p (counted n l) ≡ any p (take n l)
unfolding counted pad
any-counted p n l h = any-behind p 0 (take n l) (n - length (take n l)) h

join-replicate : {A : Type 0} (d : A) (l : List A) (j k m : ℕ) → j + k ≡ m → (l ++ replicate j d) ++ replicate k d ≡ l ++ replicate m d
join-replicate d [] zero k m h = let e : k ≡ m = omega arith in rw e
join-replicate d [] (suc j) k zero h = absurd (omega arith)
join-replicate d [] (suc j) k (suc m) h = ap (λ (t : List _). d ∷ t) (join-replicate d [] j k m (omega arith))
join-replicate d (x ∷ l) j k m h = ap (λ (t : List _). x ∷ t) (join-replicate d l j k m h)

-- padded twice with zeros
pub pad-counted : (m n : ℕ) (l : List ℕ) → n ≤ m → pad m 0 (counted n l) ≡ pad m 0 (take n l)
unfolding counted pad
pad-counted m n l h =
    let t = take n l in
    join-replicate 0 t (n - length t) (m - length (t ++ replicate (n - length t) 0)) (m - length t)
    (omega (arith, length-append t (replicate (n - length t) 0), length-replicate {A = ℕ} (n - length t) 0, length-take n l))

-- Loops that fill an array

module _ {A : Type 0} (n : ℕ) (d : A) (l : List A) where
  pub front-start : replicate n d ≡ pad n d (take 0 l)
  unfolding pad
  front-start = let z : n - 0 ≡ n = omega arith in rw z

  pub front-next : (z : A) (a : List A) (i : ℕ) → a ≡ pad n d (take i l) → i < n → i < length l → set a i (get_or l i z) ≡ pad n d (take (i + 1) l)
  front-next z a i e h k =
      let m = length-take i l in
      rw (e, add-one, take-suc l i z k) (set-pad n d (take i l) i (get_or l i z) (omega arith) (omega arith))

  same-take : (i k : ℕ) → i ≤ k → min k (length l) ≤ i → take i l ≡ take k l
  same-take i k h m =
      by_bool (leb k i) (λ t. let e : i ≡ k = omega (arith, leb-true k i t) in rw e)
      (λ t. let f = leb-false k i t in take_all i l (omega arith) ∙ sym (take_all k l (omega arith)))

  pub front-end : (a : List A) (i k : ℕ) → a ≡ pad n d (take i l) → i ≤ k → min k (length l) ≤ i → a ≡ pad n d (take k l)
  front-end a i k e h m = e ∙ ap (pad n d) (same-take i k h m)

module _ {A B : Type 0} (f : A → B) where
  pub fill-next : (d : A) (xs : List A) (ys : List B) (i : ℕ) → i < length xs → i < length ys → take i ys ≡ map f (take i xs)
      → take (i + 1) (set ys i (f (get_or xs i d))) ≡ map f (take (i + 1) xs)
  fill-next d xs ys i h k e = rw (add-one, take-suc-set ys i (f (get_or xs i d)) k, take-suc xs i d h, map_last f (take i xs) (get_or xs i d), e)

  pub fill_end : (xs : List A) (ys : List B) (i : ℕ) → length xs ≤ i → length ys ≤ i → take i ys ≡ map f (take i xs) → ys ≡ map f xs
  fill_end xs ys i h k e = sym (take_all i ys k) ∙ e ∙ ap (map f) (take_all i xs h)

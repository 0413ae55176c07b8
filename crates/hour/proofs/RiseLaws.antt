-- What the tests of an hour's parts say.
use Rattle.std.proofs.Common.{ℕ, zero, suc, ◌≡◌, ◌+◌, ◌<◌, Bool, ◌&&◌, true, false, List, [], ◌∷◌, map, length, arith, sym, refl, slice_index_or}
use lib.Dec.{ltb}
use Rattle.std.specs.List.{IsAllAdjacentAnswer}
use Rattle.hour.specs.Ranges.{rises}

and-false : (b : Bool) → (b && false) ≡ false
and-false true = refl
and-false false = refl

module _ {A : Type 0} (number : A → ℕ) where
  -- each is below the next
  pub rises-on : (xs : List A) → ((k : ℕ) (d : A) → k + 1 < length xs → true ≡ ltb (number (slice_index_or xs k d)) (number (slice_index_or xs (k + 1) d))) → true ≡ rises (map number xs)
  unfolding rises
  rises-on [] f = refl
  rises-on (x ∷ []) f = refl
  rises-on (x ∷ y ∷ ys) f = let h = f 0 x (omega arith) in rw (← h) (rises-on (y ∷ ys) (λ k d l. let h : suc k + 1 ≡ suc (k + 1) = omega arith in rw h at (f (suc k) d (omega arith))))

  -- one is not
  pub rises-not : (xs : List A) (k : ℕ) → k + 1 < length xs → ((d : A) → false ≡ ltb (number (slice_index_or xs k d)) (number (slice_index_or xs (k + 1) d))) → false ≡ rises (map number xs)
  unfolding rises
  rises-not [] k l f = absurd (omega arith)
  rises-not (x ∷ []) k l f = absurd (omega arith)
  rises-not (x ∷ y ∷ ys) zero l f = let h = f x in rw (← h) refl
  rises-not (x ∷ y ∷ ys) (suc k) l f =
      let h : suc k + 1 ≡ suc (k + 1) = omega arith in
      let r = rises-not (y ∷ ys) k (omega arith) (λ d. rw h at (f d)) in
      rw (← r) (sym (and-false (ltb (number x) (number y))))

  pub rises_answer : (xs : List A) (r : Bool) → IsAllAdjacentAnswer (λ x y b. b ≡ ltb (number x) (number y)) xs r → r ≡ rises (map number xs)
  rises_answer xs true f = rises-on xs f
  rises_answer xs false (k, l, f) = rises-not xs k l f

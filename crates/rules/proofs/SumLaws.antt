-- Laws of sums, and of lists of deductions laid over a list: `masked` amounts, and the deductions of those that pass a test.
use Prim.Native.Nat.{ℕ, ◌+◌, ◌≤◌, zero-le}
use mathlib.Core.Path.{◌≡◌, refl, ap, ap₂}
use mathlib.Core.Bool.{Bool, true, false, cond, not, ◌||◌}
use mathlib.Core.List.{List, [], ◌∷◌, ◌++◌, map, reverse_aux}
use native.Mathlib.Omega.{arith}
use native.Mathlib.Nat.{le_refl}
use Rattle.rules.specs.Lists.{All, none, more, keep, sum, sum_of, add_each}
use Rattle.rules.proofs.BoolLaws.{by_bool}
use Rattle.rules.proofs.ElementLaws.{Each, each0, each}
use Rattle.rules.proofs.ShareLaws.{Under, under0, under}

module _ {A : Type 0} where
  -- a sum of sums
  pub sum_both : (f g : A → ℕ) (xs : List A) → sum_of (λ x. f x + g x) xs ≡ sum_of f xs + sum_of g xs
  unfolding sum_of sum
  sum_both f g [] = refl
  sum_both f g (x ∷ xs) = omega (arith, sum_both f g xs)

  -- a sum of zeros
  pub sum_zeros : (xs : List A) → sum (map (λ x. 0) xs) ≡ 0
  unfolding sum
  sum_zeros [] = refl
  sum_zeros (x ∷ xs) = omega (arith, sum_zeros xs)

  -- those that pass a test sum to no more than all
  pub keep-le : (f : A → ℕ) (p : A → Bool) (xs : List A) → sum_of f (keep p xs) ≤ sum_of f xs
  unfolding keep sum_of sum
  keep-le f p [] = zero-le
  keep-le f p (x ∷ xs) = by_bool (p x) (λ e. rw e (omega (arith, keep-le f p xs))) (λ e. rw e (omega (arith, keep-le f p xs)))

-- where two lists agree place by place on a test, and no amount grows, neither does the sum of those that pass
pub each-le : {A : Type 0} {R : A → A → Type 0} (p : A → Bool) (f g : A → ℕ) → ((x y : A) → R x y → (p y ≡ p x) × (g y ≤ f x))
    → {xs ys : List A} → Each R xs ys → sum_of g (keep p ys) ≤ sum_of f (keep p xs)
unfolding keep sum_of sum
each-le p f g u each0 = zero-le
each-le p f g u (each {x} {y} h t) =
    let k = u x y h in
    rw k.0 (by_bool (p x) (λ e. rw e (omega (arith, k.1, each-le p f g u t))) (λ e. rw e (each-le p f g u t)))

-- an amount or 0 is at most the amount
pub cond-le : (b : Bool) (n : ℕ) → cond b n 0 ≤ n
cond-le true n = le_refl n
cond-le false n = zero-le

-- Sums of those that pass a test

module _ {A : Type 0} (f : A → ℕ) where
  -- the sum of those of a list that pass a test
  abbrev pub sum_where : (A → Bool) → List A → ℕ
  sum_where p xs = sum_of f (keep p xs)

  -- one more
  pub sum-keep : (p : A → Bool) (x : A) (xs : List A) → sum_of f (keep p (x ∷ xs)) ≡ cond (p x) (f x) 0 + sum_of f (keep p xs)
  unfolding sum_of sum keep
  sum-keep p x xs = by_bool (p x) (λ e. rw e) (λ e. rw e (omega arith))

  -- one more, or not
  pub sum-cond : (p : A → Bool) (t : Bool) (x : A) (xs : List A) → sum_where p (cond t (x ∷ xs) xs) ≡ cond t (cond (p x) (f x) 0) 0 + sum_where p xs
  sum-cond p true x xs = sum-keep p x xs
  sum-cond p false x xs = omega arith

  -- one more, of those that pass another
  pub sum-keep-keep : (p q : A → Bool) (x : A) (xs : List A) → sum_where p (keep q (x ∷ xs)) ≡ cond (q x) (cond (p x) (f x) 0) 0 + sum_where p (keep q xs)
  unfolding keep
  sum-keep-keep p q x xs = sum-cond p (q x) x (keep q xs)

  -- a list turned round
  pub sum-reversed : (p : A → Bool) (xs ys : List A) → sum_where p (reverse_aux xs ys) ≡ sum_where p xs + sum_where p ys
  unfolding keep sum_of sum
  sum-reversed p [] ys = omega arith
  sum-reversed p (x ∷ xs) ys = omega (arith, sum-reversed p xs (x ∷ ys), sum-keep p x ys, sum-keep p x xs)

  -- two lists one after the other
  pub sum-append : (p : A → Bool) (xs ys : List A) → sum_where p (xs ++ ys) ≡ sum_where p xs + sum_where p ys
  unfolding keep sum_of sum
  sum-append p [] ys = omega arith
  sum-append p (x ∷ xs) ys = omega (arith, sum-append p xs ys, sum-keep p x (xs ++ ys), sum-keep p x xs)

  -- without some that do not pass
  pub sum-without : (p q : A → Bool) {xs : List A} → All (λ x. q x ≡ false → p x ≡ false) xs → sum_where p (keep q xs) ≡ sum_where p xs
  unfolding keep
  sum-without p q none = refl
  sum-without p q (more {x} {xs} h t) =
      omega (arith, sum-keep p x xs, sum-keep-keep p q x xs, inner-cond (q x) (p x) (f x) h, sum-without p q t)
    where
      inner-cond : (t s : Bool) (n : ℕ) → (t ≡ false → s ≡ false) → cond t (cond s n 0) 0 ≡ cond s n 0
      inner-cond true s n h = refl
      inner-cond false s n h = rw (h refl)

  -- of some only
  pub sum-some : (p q : A → Bool) (xs : List A) → sum_where p (keep q xs) ≤ sum_where p xs
  unfolding keep
  sum-some p q [] = le_refl _
  sum-some p q (x ∷ xs) = omega (arith, sum-keep p x xs, sum-keep-keep p q x xs, cond-le (q x) (cond (p x) (f x) 0), sum-some p q xs)

  -- of those that pass another test, and of those that do not
  pub sum-two : (p q : A → Bool) (xs : List A) → sum_where p (keep (λ x. not (q x)) xs) + sum_where p (keep q xs) ≡ sum_where p xs
  unfolding keep sum_of sum
  sum-two p q [] = refl
  sum-two p q (x ∷ xs) =
      omega (arith, sum-keep p x xs, sum-keep-keep p q x xs, sum-keep-keep p (λ x. not (q x)) x xs, two-conds (q x) (cond (p x) (f x) 0), sum-two p q xs)
    where
      two-conds : (t : Bool) (n : ℕ) → cond (not t) n 0 + cond t n 0 ≡ n
      two-conds true n = omega arith
      two-conds false n = omega arith

-- Deductions

-- the amounts of those that pass a test, 0 for the others
abbrev pub masked : {A : Type 0} → (A → Bool) → (A → ℕ) → List A → List ℕ
masked p f xs = map (λ x. cond (p x) (f x) 0) xs

-- of some deductions those of the elements that pass a test, 0 for the others
unfoldable pub passing : {A : Type 0} → (A → Bool) → List ℕ → List A → List ℕ
passing p [] xs = []
passing p (l ∷ ls) [] = []
passing p (l ∷ ls) (x ∷ xs) = cond (p x) l 0 ∷ passing p ls xs

-- losing nothing is within nothing
pub zeros-under : {A : Type 0} (xs : List A) → Under (map (λ x. 0) xs) (map (λ x. 0) xs)
zeros-under [] = under0
zeros-under (x ∷ xs) = under zero-le (zeros-under xs)

-- an element of at most one of two groups loses at most its amount
cond_both : (a b : Bool) (n : ℕ) {k l : ℕ} → (a ≡ true → b ≡ false) → k ≤ cond a n 0 → l ≤ cond b n 0 → k + l ≤ cond (a || b) n 0
cond_both true b n f h k = omega (arith, rw (f refl) at k)
cond_both false b n f h k = omega arith

-- two deductions of an element
cond-add : (b : Bool) (k l : ℕ) → cond b (k + l) 0 ≡ cond b k 0 + cond b l 0
cond-add true k l = refl
cond-add false k l = refl

-- an element outside the group loses nothing
pub none_left : (b : Bool) (n : ℕ) {l : ℕ} → b ≡ false → l ≤ cond b n 0 → l ≡ 0
none_left b n e h = omega (arith, rw e at h)

module _ {A : Type 0} (f : A → ℕ) where
  -- the amounts of those that pass a test sum to their sum
  pub masked-sum : (p : A → Bool) (xs : List A) → sum (masked p f xs) ≡ sum_of f (keep p xs)
  unfolding keep sum_of sum
  masked-sum p [] = refl
  masked-sum p (x ∷ xs) = by_bool (p x) (λ e. rw e (omega (arith, masked-sum p xs))) (λ e. rw e (omega (arith, masked-sum p xs)))

  -- deductions of two groups that share no element
  pub under-add : (p q : A → Bool) → ((x : A) → p x ≡ true → q x ≡ false) → {ks ls : List ℕ} (xs : List A)
      → Under ks (masked p f xs) → Under ls (masked q f xs) → Under (add_each ks ls) (masked (λ x. p x || q x) f xs)
  unfolding add_each
  under-add p q a [] under0 under0 = under0
  under-add p q a (x ∷ xs) (under h t) (under k u) = under (cond_both (p x) (q x) (f x) (a x) h k) (under-add p q a xs t u)

  -- deductions of a group are all of that group
  pub passing-self : (p : A → Bool) {ls : List ℕ} (xs : List A) → Under ls (masked p f xs) → passing p ls xs ≡ ls
  unfolding passing
  passing-self p [] under0 = refl
  passing-self p (x ∷ xs) (under {a = l} h t) =
      by_bool (p x) (λ e. rw e (ap (λ (r : List ℕ). l ∷ r) (passing-self p xs t)))
      (λ e. rw (e, none_left (p x) (f x) e h) (ap (λ (r : List ℕ). 0 ∷ r) (passing-self p xs t)))

  -- and none of a group that shares no element with it
  pub passing-none : (p q : A → Bool) → ((x : A) → q x ≡ true → p x ≡ false) → {ls : List ℕ} (xs : List A)
      → Under ls (masked q f xs) → passing p ls xs ≡ map (λ x. 0) xs
  unfolding passing
  passing-none p q a [] under0 = refl
  passing-none p q a (x ∷ xs) (under {a = l} h t) =
      ap₂ (λ (k : ℕ) (r : List ℕ). k ∷ r)
      (by_bool (q x) (λ e. rw (a x e)) (λ e. rw (none_left (q x) (f x) e h) (cond-zero (p x)))) (passing-none p q a xs t)
    where
      cond-zero : (b : Bool) → ◌≡◌ {A = ℕ} (cond b 0 0) 0
      cond-zero true = refl
      cond-zero false = refl

  -- nothing deducted besides changes no deduction
  pub add-zeros : (p : A → Bool) {ls : List ℕ} (xs : List A) → Under ls (masked p f xs)
      → (add_each ls (map (λ x. 0) xs) ≡ ls) × (add_each (map (λ x. 0) xs) ls ≡ ls)
  unfolding add_each
  add-zeros p [] under0 = (refl, refl)
  add-zeros p (x ∷ xs) (under {a = l} h t) =
      let k = add-zeros p xs t in
      (ap₂ (λ (n : ℕ) (r : List ℕ). n ∷ r) (omega arith) k.0, ap₂ (λ (n : ℕ) (r : List ℕ). n ∷ r) (omega arith) k.1)

-- deductions of some are no more than all
pub passing-le : {A : Type 0} (p : A → Bool) (ls : List ℕ) (xs : List A) → sum (passing p ls xs) ≤ sum ls
unfolding passing sum
passing-le p [] xs = zero-le
passing-le p (l ∷ ls) [] = zero-le
passing-le p (l ∷ ls) (x ∷ xs) =
    by_bool (p x) (λ e. rw e (omega (arith, passing-le p ls xs))) (λ e. rw e (omega (arith, passing-le p ls xs)))

-- deductions added, then sorted out
pub passing-add : {A : Type 0} (p : A → Bool) (ks ls : List ℕ) (xs : List A) → passing p (add_each ks ls) xs ≡ add_each (passing p ks xs) (passing p ls xs)
unfolding passing add_each
passing-add p [] ls xs = refl
passing-add p (k ∷ ks) [] [] = refl
passing-add p (k ∷ ks) [] (x ∷ xs) = refl
passing-add p (k ∷ ks) (l ∷ ls) [] = refl
passing-add p (k ∷ ks) (l ∷ ls) (x ∷ xs) = ap₂ (λ (n : ℕ) (r : List ℕ). n ∷ r) (cond-add (p x) k l) (passing-add p ks ls xs)

-- Lodgements of two kinds put together by rising number.
use Prim.Native.Nat.{ℕ, suc, ◌+◌, ◌≤◌, ◌<◌}
use mathlib.Core.Path.{◌≡◌, refl, sym, ap, ◌∙◌}
use mathlib.Core.Bool.{Bool, true, false, cond, ◌&&◌}
use mathlib.Core.List.{List, [], ◌∷◌, ◌++◌}
use mathlib.Core.Logic.{⊎_elim}
use native.Mathlib.Omega.{arith}
use native.Mathlib.Nat.{eq-or-lt_of_le}
use lib.Dec.{ltb}
use lib.ListN.{length}
use borrow.Author.Tests.{ltb-true, ltb-false, lt-ltb}
use Rattle.rules.specs.Lists.{All, none, more, Some, here, there, Pairwise, empty, ahead, keep, sum, sum_of}
use Rattle.rules.specs.Lodging as L
use Rattle.rules.proofs.BoolLaws.{by_bool, not-both, of-not}
use Rattle.rules.proofs.ListLaws.{all_map, all-cond, all-parts, keep-none}
use Rattle.rules.proofs.ElementLaws.{all_both}
use Rattle.rules.proofs.SumLaws.{sum-keep}
use Rattle.clear_gather.specs.Holding.{insert, insert_all}

module _ {P : L.Lodgement → Type 0} where
  all_insert : (l : L.Lodgement) {ks : List L.Lodgement} → P l → All P ks → All P (insert l ks)
  unfolding insert
  all_insert l h none = more h none
  all_insert l h (more {x = k} {xs = ks} p t) = all-cond (ltb l.number k.number) (more h (more p t)) (more p (all_insert l h t))

  pub all_inserted : {ls ks : List L.Lodgement} → All P ls → All P ks → All P (insert_all ls ks)
  unfolding insert_all
  all_inserted none a = a
  all_inserted (more {x} h t) a = all_insert x h (all_inserted t a)

length-insert : (l : L.Lodgement) (ks : List L.Lodgement) → length (insert l ks) ≡ suc (length ks)
unfolding insert
length-insert l [] = refl
length-insert l (k ∷ ks) = by_bool (ltb l.number k.number) (λ t. rw t) (λ t. rw t (ap suc (length-insert l ks)))

pub length_inserted : (ls ks : List L.Lodgement) → length (insert_all ls ks) ≡ length ls + length ks
unfolding insert_all
length_inserted [] ks = omega arith
length_inserted (l ∷ ls) ks = omega (arith, length-insert l (insert_all ls ks), length_inserted ls ks)

-- what holds both ways of every two
module _ {Q : L.Lodgement → L.Lodgement → Type 0} (turn : (k l : L.Lodgement) → Q k l → Q l k) where
  pair-insert : (l : L.Lodgement) {ks : List L.Lodgement} → All (Q l) ks → Pairwise Q ks → Pairwise Q (insert l ks)
  unfolding insert
  pair-insert l none empty = ahead none empty
  pair-insert l (more {x = k} {xs = ks} h t) (ahead a p) =
      by_bool (ltb l.number k.number) (λ e. rw e (ahead (more h t) (ahead a p))) (λ e. rw e (ahead (all_insert l (turn l k h) a) (pair-insert l t p)))

  pub pair-inserted : {ks ls : List L.Lodgement} → All (λ l. All (Q l) ks) ls → Pairwise Q ls → Pairwise Q ks → Pairwise Q (insert_all ls ks)
  unfolding insert_all
  pair-inserted none empty q = q
  pair-inserted (more {x} c cs) (ahead a p) q = pair-insert x (all_inserted a c) (pair-inserted cs p q)

-- numbers rise
rise-insert : (l : L.Lodgement) {ks : List L.Lodgement} → All (λ k. l.number ≡ k.number → ⊥) ks → Pairwise (λ j k. j.number < k.number) ks → Pairwise (λ j k. j.number < k.number) (insert l ks)
unfolding insert
rise-insert l none empty = ahead none empty
rise-insert l (more {x = k} {xs = ks} h t) (ahead a p) =
    by_bool (ltb l.number k.number)
    (λ e. let m = ltb-true l.number k.number e in rw e (ahead (more m (all_map (λ j n. omega arith) a)) (ahead a p)))
    (λ e. rw e (ahead (all_insert l (above (ltb-false l.number k.number e)) a) (rise-insert l t p)))
  where
    above : k.number ≤ l.number → k.number < l.number
    above m = ⊎_elim (λ z. absurd (h (sym z))) (λ z. z) (eq-or-lt_of_le m)

pub rise-inserted : {ks ls : List L.Lodgement} → All (λ l. All (λ k. l.number ≡ k.number → ⊥) ks) ls → Pairwise (λ k l. k.number < l.number) ls → Pairwise (λ k l. k.number < l.number) ks
    → Pairwise (λ k l. k.number < l.number) (insert_all ls ks)
unfolding insert_all
rise-inserted none empty q = q
rise-inserted (more {x} c cs) (ahead a p) q = rise-insert x (all_inserted (all_map (λ k n e. omega arith) a) c) (rise-inserted cs p q)

-- Each kind again

module _ (p : L.Lodgement → Bool) where
  keep_out : (l : L.Lodgement) (ks : List L.Lodgement) → p l ≡ false → keep p (insert l ks) ≡ keep p ks
  unfolding insert keep
  keep_out l [] e = rw e
  keep_out l (k ∷ ks) e =
      by_bool (ltb l.number k.number) (λ t. rw (t, e))
      (λ t. rw t (by_bool (p k) (λ s. rw s (ap (λ (js : List L.Lodgement). k ∷ js) (keep_out l ks e))) (λ s. rw s (keep_out l ks e))))

  keep-in : (l : L.Lodgement) {ks : List L.Lodgement} → p l ≡ true → All (λ k. p k ≡ true → l.number < k.number) ks → keep p (insert l ks) ≡ l ∷ keep p ks
  unfolding insert keep
  keep-in l e none = rw e
  keep-in l e (more {x = k} {xs = ks} h t) =
      by_bool (ltb l.number k.number) (λ s. rw (s, e))
      (λ s. rw (s, of-not (p k) (λ c. not-both (lt-ltb l.number k.number (h c)) s)) (keep-in l e t))

  pub keep_all : {ks : List L.Lodgement} → All (λ k. p k ≡ true) ks → keep p ks ≡ ks
  unfolding keep
  keep_all none = refl
  keep_all (more {x = k} h t) = rw h (ap (λ (js : List L.Lodgement). k ∷ js) (keep_all t))

  -- those inserted
  pub keep-inserted : {ls ks : List L.Lodgement} → All (λ l. p l ≡ true) ls → All (λ k. p k ≡ false) ks → Pairwise (λ k l. k.number < l.number) ls → keep p (insert_all ls ks) ≡ ls
  unfolding insert_all
  keep-inserted none f empty = keep-none p f
  keep-inserted (more {x = l} e es) f (ahead a q) =
      keep-in l e (all_inserted (all_map (λ k n c. n) a) (all_map (λ k n c. not-both c n) f)) ∙ ap (λ (js : List L.Lodgement). l ∷ js) (keep-inserted es f q)

  -- the others
  pub keep-others : {ls ks : List L.Lodgement} → All (λ l. p l ≡ false) ls → All (λ k. p k ≡ true) ks → keep p (insert_all ls ks) ≡ ks
  unfolding insert_all
  keep-others none f = keep_all f
  keep-others {ks} (more {x = l} {xs = ls} e es) f = keep_out l (insert_all ls ks) e ∙ keep-others es f

-- Elements

-- each is among all
pub each-among : {A : Type 0} (xs : List A) → All (λ x. Some (λ y. y ≡ x) xs) xs
each-among [] = none
each-among (x ∷ xs) = more (here refl) (all_map (λ y s. there s) (each-among xs))

-- of two lists one after the other
pub pairwise-parts : {A : Type 0} {Q : A → A → Type 0} (xs : List A) {ys : List A} → Pairwise Q (xs ++ ys) → All (λ x. All (Q x) ys) xs × Pairwise Q xs × Pairwise Q ys
pairwise-parts [] q = (none, empty, q)
pairwise-parts (x ∷ xs) (ahead a q) =
    let k = all-parts xs a in
    let m = pairwise-parts xs q in
    (more k.1 m.0, ahead k.0 m.1, m.2)

-- of every two of a list, where it holds of each with itself and both ways
pub every_two : {A : Type 0} {Q : A → A → Type 0} → ((x : A) → Q x x) → ((x y : A) → Q x y → Q y x) → {xs : List A} → Pairwise Q xs → All (λ x. All (λ y. Q y x) xs) xs
every_two self turn empty = none
every_two self turn (ahead {x} {xs} a p) = more (more (self x) (all_map (λ y q. turn x y q) a)) (all_both (λ l q r. more q r) a (every_two self turn p))

-- A sum with one more

cond-fewer : (s t : Bool) (n : ℕ) → cond (s && t) n 0 ≤ cond s n 0
cond-fewer true true n = omega arith
cond-fewer true false n = omega arith
cond-fewer false t n = omega arith

module _ {A : Type 0} (f : A → ℕ) (p q : A → Bool) where
  sum-fewer : (xs : List A) → sum_of f (keep (λ x. p x && q x) xs) ≤ sum_of f (keep p xs)
  unfolding keep sum_of sum
  sum-fewer [] = omega arith
  sum-fewer (x ∷ xs) =
      by_bool (p x) (λ t. rw t (by_bool (q x) (λ s. rw s (omega (arith, sum-fewer xs))) (λ s. rw s (omega (arith, sum-fewer xs))))) (λ t. rw t (sum-fewer xs))

  pub one_more : (x : A) {xs : List A} → p x ≡ true → q x ≡ false → Some (λ y. y ≡ x) xs → f x + sum_of f (keep (λ y. p y && q y) xs) ≤ sum_of f (keep p xs)
  one_more x a b (here {x = y} {xs = ys} e) =
      let g : cond (p y && q y) (f y) 0 ≡ 0 = rw (e, a, b) in
      let m : cond (p y) (f y) 0 ≡ f x = rw (e, a) in
      omega (arith, sum-keep f (λ z. p z && q z) y ys, sum-keep f p y ys, g, m, sum-fewer ys)
  one_more x a b (there {x = y} {xs = ys} s) =
      omega (arith, sum-keep f (λ z. p z && q z) y ys, sum-keep f p y ys, cond-fewer (p y) (q y) (f y), one_more x a b s)

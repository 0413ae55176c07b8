-- A loop over two slices side by side, with an index.
use Prim.Native.Nat.{ℕ, ◌+◌, ◌<◌, min}
use mathlib.Core.Path.{◌≡◌, refl, ap, subst}
use mathlib.Core.List.{List, [], ◌∷◌, map}
use native.Mathlib.Omega.{arith}
use denote.Ref.{Bor}
use lib.ListN.{length, get_or, length-map}
use Rattle.std.specs.Iterator.{Yields}
use Rattle.std.specs.Iterator.Adapters.{enumerate_source, enumerate_count, enumerate_steps, zip_first, zip_second}
use Rattle.std.specs.Slice.Iter.{iter_rest}
use Rattle.std.specs.declared.iter.Enumerate.{Enumerate}
use Rattle.std.specs.declared.iter.Zip.{Zip}
use Rattle.std.proofs.Common.{Iter}
use Rattle.std.specs.Prelude.{Option, None, Some}
use Rattle.std.proofs.iter.Yields.{fronts}
use Rattle.std.proofs.lemmas.Iterator.{zips}
use Rattle.std.proofs.lemmas.Slice.Zip.{zip_turn, zip_end}

module _ {A B : Type 0} where
  abbrev turns : Enumerate (Zip (Iter A) (Iter B)) → Option (ℕ × (Bor A × Bor B)) → Enumerate (Zip (Iter A) (Iter B)) → Type 0
  turns = enumerate_steps (zips fronts fronts)

  passed : (xs : List (ℕ × (Bor A × Bor B))) (s t : Enumerate (Zip (Iter A) (Iter B))) → Yields turns s xs t
      → Yields (zips fronts fronts) (enumerate_source s) (map (λ x. x.1) xs) (enumerate_source t) × (enumerate_count t ≡ enumerate_count s + length xs)
  passed [] s t y = (ap enumerate_source y, omega (arith, ap enumerate_count y))
  passed (x ∷ xs) s t y = let r = passed xs y.0 t y.2 in ((enumerate_source y.0, y.1.0, r.0), omega (arith, y.1.2, r.1))

  module _ (ks : List A) (vs : List B) (xs : List (ℕ × (Bor A × Bor B))) (s t u : Enumerate (Zip (Iter A) (Iter B))) (r : Option (ℕ × (Bor A × Bor B))) (first : iter_rest (zip_first (enumerate_source s)) ≡ ks) (second : iter_rest (zip_second (enumerate_source s)) ≡ vs) (start : enumerate_count s ≡ 0) (y : Yields turns s xs t) where
    few : length (map (λ (x : ℕ × (Bor A × Bor B)). x.1) xs) ≡ length xs
    few = length-map xs (λ (x : ℕ × (Bor A × Bor B)). x.1)

    -- the index, the lengths and the elements
    pub numbered_turn : (p : ℕ × (Bor A × Bor B)) → r ≡ Some p → turns t r u
        → (p.0 ≡ length xs) × (length xs < length ks) × (length xs < length vs) × ((d : A) → p.1.0.now ≡ get_or ks (length xs) d) × ((d : B) → p.1.1.now ≡ get_or vs (length xs) d)
    numbered_turn p e h =
        let k = subst (λ o. turns t o u) e h in
        let z = zip_turn ks vs (map (λ (x : ℕ × (Bor A × Bor B)). x.1) xs) (enumerate_source s) (enumerate_source t) (enumerate_source u) (Some p.1) first second (passed xs s t y).0 p.1 refl k.0 in
        let w = rw few at z in
        (omega (arith, k.1, (passed xs s t y).1), w.0, w.1, w.2, w.3)

    pub numbered_end : r ≡ None → turns t r u → length xs ≡ min (length ks) (length vs)
    numbered_end e h =
        let k = subst (λ o. turns t o u) e h in
        rw few at (zip_end ks vs (map (λ (x : ℕ × (Bor A × Bor B)). x.1) xs) (enumerate_source s) (enumerate_source t) (enumerate_source u) None first second (passed xs s t y).0 refl k.0)

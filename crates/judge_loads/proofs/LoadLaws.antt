-- The loops: the energies at indices added up, the indices of those that are counted, the lowest hour passed.
use Prim.Native.Nat.{ℕ, zero, suc, ◌+◌, ◌*◌, ◌≤◌, ◌<◌}
use mathlib.Core.Path.{◌≡◌, refl, ap, sym, subst}
use mathlib.Core.Logic.{⊎_elim}
use mathlib.Core.Bool.{Bool, true, false, cond, not, ◌&&◌}
use mathlib.Core.List.{List, [], ◌∷◌, ◌++◌, append-nil}
use native.Mathlib.Nat.{eq-or-lt_of_le}
use native.Mathlib.Numerals.{add-one}
use native.Mathlib.Omega.{arith}
use lib.ListN.{length, get_or}
use lib.Dec.{eqb}
use borrow.Author.Tests.{lt-ltb, le-ltb, eq-eqb, ne_eqb}
use Rattle.rules.specs.Lists.{sum, sum_of, from, hourly, lowest}
use Rattle.rules.specs.Units.{passes}
use Rattle.rules.specs.Lodging.{passed_at}
use Rattle.rules.proofs.ListLaws.{hourly-suc}
use Rattle.rules.proofs.LowestLaws.{lowest-is, lowest-none}
use Rattle.session.specs.Bare.{bare_energies}
use Rattle.session.specs.declared.Energies.{Energies}
use Rattle.std.specs.Prelude.{Some, None}
use Rattle.judge_loads.specs.Loads.{marked, IndicesIn, energy_at_index, load_by, hour_at, laid}

-- Sums

-- of an hour's load the energies at these indices are left to add
pub record Left (es : List Energies) (h all : ℕ) (indices : List ℕ) (load : ℕ) : Type 0 where
  pub few : length indices ≤ 128
  pub below : (l : ℕ) → l < length indices → get_or indices l 0 < length es
  pub small : load + 4294967295 * length indices ≤ 4294967295 * 129
  pub rest : load + sum_of (energy_at_index es h) indices ≡ all

module _ (es : List Energies) (h : ℕ) where
  pub left-start : (own ps : List ℕ) (n : ℕ) → IndicesIn es ps → n ≡ get_or own h 0 → n ≤ 4294967295 → Left es (suc h) (load_by own es ps (suc h)) ps n
  unfolding load_by
  left-start own ps n p e small = record { few = p.few; below = p.below; small = omega (arith, p.few); rest = rw (hourly-suc own h, e) refl }

  -- one more index
  pub left-next : (all n r : ℕ) (i : ℕ) {ps qs : List ℕ} → ps ≡ i ∷ qs → Left es (suc h) all ps n → r ≡ get_or (get_or es i bare_energies).energies h 0 → r ≤ 4294967295 → Left es (suc h) all qs (n + r)
  unfolding sum_of sum
  left-next all n r i {ps} {qs} q p e small = go (rw q at p)
    where
      go : Left es (suc h) all (i ∷ qs) n → Left es (suc h) all qs (n + r)
      go p = record {
        few = omega (arith, p.few);
        below = λ l k. p.below (suc l) (omega arith);
        small = omega (arith, p.small);
        rest = omega (arith, p.rest, e, hourly-suc (get_or es i bare_energies).energies h);
      }

  pub left-end : (all n : ℕ) (ps : List ℕ) → length ps ≡ 0 → Left es (suc h) all ps n → n ≡ all
  unfolding sum_of sum
  left-end all n [] e p = omega (arith, p.rest)
  left-end all n (i ∷ ps) e p = absurd (omega arith)

  -- what is added is no more than all
  pub left-some : (all n : ℕ) (ps : List ℕ) → Left es h all ps n → n ≤ all
  left-some all n ps p = omega (arith, p.rest)

-- Indices

marked-none : {A : Type 0} (bs : List Bool) → ◌≡◌ {A = List A} (marked bs []) []
unfolding marked
marked-none [] = refl
marked-none (b ∷ bs) = refl

marked-last : (bs : List Bool) (i n : ℕ) → marked bs (from i (suc n)) ≡ marked bs (from i n) ++ cond (get_or bs n false) ((i + n) ∷ []) []
unfolding marked from
marked-last [] i n = refl
marked-last (true ∷ bs) i zero = let e : i ≡ i + 0 = omega arith in rw (marked-none {A = ℕ} bs, ← e)
marked-last (false ∷ bs) i zero = marked-none {A = ℕ} bs
marked-last (true ∷ bs) i (suc n) = let e : suc i + n ≡ i + suc n = omega arith in ap (λ (ps : List ℕ). i ∷ ps) (rw e at (marked-last bs (suc i) n))
marked-last (false ∷ bs) i (suc n) = let e : suc i + n ≡ i + suc n = omega arith in rw e at (marked-last bs (suc i) n)

pub index-start : (bs : List Bool) → [] ≡ marked bs (from 0 0)
unfolding from
index-start bs = sym (marked-none {A = ℕ} bs)

-- one that is counted is added, another is left
module _ (bs : List Bool) (ps : List ℕ) (l : ℕ) where
  pub index-pushed : get_or bs l false ≡ true → ps ≡ marked bs (from 0 l) → ps ++ (l ∷ []) ≡ marked bs (from 0 (l + 1))
  index-pushed t e =
      let z : 0 + l ≡ l = omega arith in
      rw (add-one, marked-last bs 0 l, t, z) (ap (λ (qs : List ℕ). qs ++ (l ∷ [])) e)

  pub index-left : get_or bs l false ≡ false → ps ≡ marked bs (from 0 l) → ps ≡ marked bs (from 0 (l + 1))
  index-left t e = rw (add-one, marked-last bs 0 l, t, append-nil (marked bs (from 0 l))) e

-- indices that are marked are of so many at most, and below their number
pub marked-few : (bs : List Bool) (i n : ℕ) → length (marked bs (from i n)) ≤ n
unfolding marked from
marked-few [] i n = omega arith
marked-few (b ∷ bs) i zero = omega arith
marked-few (true ∷ bs) i (suc n) = omega (arith, marked-few bs (suc i) n)
marked-few (false ∷ bs) i (suc n) = omega (arith, marked-few bs (suc i) n)

pub marked-below : (bs : List Bool) (i n l : ℕ) → l < length (marked bs (from i n)) → get_or (marked bs (from i n)) l 0 < i + n
unfolding marked from
marked-below [] i n l h = absurd (omega arith)
marked-below (b ∷ bs) i zero l h = absurd (omega arith)
marked-below (true ∷ bs) i (suc n) zero h = omega arith
marked-below (true ∷ bs) i (suc n) (suc l) h = omega (arith, marked-below bs (suc i) n l (omega arith))
marked-below (false ∷ bs) i (suc n) l h = omega (arith, marked-below bs (suc i) n l h)

-- those of the first n that are marked are indices of n energies and more
pub indices-in : (bs : List Bool) (n : ℕ) (es : List Energies) (ps : List ℕ) → ps ≡ marked bs (from 0 n) → n ≤ 128 → n ≤ length es → IndicesIn es ps
indices-in bs n es ps e few room = rw e (record { few = omega (arith, marked-few bs 0 n); below = λ l h. omega (arith, marked-below bs 0 n l h) })

-- Hours

pub and-false : (a b : Bool) → b ≡ false → (a && b) ≡ false
and-false true b e = e
and-false false b e = refl

module _ (own : List ℕ) (load : ℕ → ℕ) (limit : List ℕ) (h : ℕ) where
  pub unnamed : get_or own h 0 ≡ 0 → passed_at own load (laid limit) (suc h) ≡ false
  unfolding passed_at
  unnamed e = rw (hourly-suc own h, eq-eqb (get_or own h 0) 0 e)

  pub over : (get_or own h 0 ≡ 0 → ⊥) → get_or limit h 0 < load (suc h) → passed_at own load (laid limit) (suc h) ≡ true
  unfolding passed_at passes
  over e i = rw (hourly-suc own h, hourly-suc limit h, ne_eqb (get_or own h 0) 0 e, lt-ltb (get_or limit h 0) (load (suc h)) i)

  pub within : load (suc h) ≤ get_or limit h 0 → passed_at own load (laid limit) (suc h) ≡ false
  unfolding passed_at passes
  within i = rw (hourly-suc limit h, le-ltb (get_or limit h 0) (load (suc h)) i) (and-false (not (eqb (hourly own (suc h)) 0)) false refl)

-- no hour from 1 to h passes
unfoldable pub NoneTo : (ℕ → Bool) → ℕ → Type 0
NoneTo p h = (k : ℕ) → 1 ≤ k → k ≤ h → p k ≡ false

module _ (p : ℕ → Bool) where
  pub none-start : NoneTo p 0
  unfolding NoneTo
  none-start k a b = absurd (omega arith)

  pub none-next : (h : ℕ) → NoneTo p h → p (suc h) ≡ false → NoneTo p (h + 1)
  unfolding NoneTo
  none-next h f e k a b = ⊎_elim (λ q. subst (λ x. p x ≡ false) (omega arith) e) (λ i. f k a (omega arith)) (eq-or-lt_of_le b)

  pub none-all : (n h : ℕ) → n ≤ h → NoneTo p h → 0 ≡ lowest p n
  unfolding NoneTo
  none-all n h i f = sym (lowest-none p n (λ k a b. f k a (omega arith)))

  pub none_found : (n h k : ℕ) → k ≡ h → h < n → NoneTo p h → p (suc h) ≡ true → k + 1 ≡ lowest p n
  unfolding NoneTo
  none_found n h k q i f e =
      omega (arith, lowest-is p n (suc h) (omega arith) (omega arith) e (λ k a b. f k a (omega arith)))

  -- the same of the hour that is told
  pub hour-none : (n h : ℕ) → n ≤ h → NoneTo p h → None ≡ hour_at (lowest p n)
  hour-none n h i f = rw (← none-all n h i f)

  pub hour-found : (n h : ℕ) → h < n → NoneTo p h → p (suc h) ≡ true → Some (h + 1) ≡ hour_at (lowest p n)
  hour-found n h i f e = rw (← none_found n h h refl i f e, ne_eqb (h + 1) 0 (λ z. absurd (omega arith)))

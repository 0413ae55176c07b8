-- What a caller needs: the indices of those that are counted make the load by marks.
use Prim.Native.Nat.{ℕ, suc, ◌+◌, ◌≤◌, ◌<◌}
use mathlib.Core.Path.{◌≡◌, refl, sym, ap, ◌∙◌}
use mathlib.Core.Bool.{Bool, true, false}
use mathlib.Core.List.{List, [], ◌∷◌, map}
use native.Mathlib.Omega.{arith}
use lib.ListN.{length, get_or, take}
use lib.Seq.{length-take-le, get_or-take}
use Rattle.rules.specs.Lists.{sum, sum_of, from, hourly}
use Rattle.rules.specs.Refusals.{first_row}
use Rattle.rules.specs.Units.{Limit}
use Rattle.rules.specs.Lodging.{judged_by, limit_rows}
use Rattle.session.specs.Bare.{bare_energies}
use Rattle.session.specs.Parts.{given_by}
use Rattle.session.specs.declared.Energies.{Energies}
use Rattle.session.specs.declared.Unit.{Unit}
use Rattle.session.specs.declared.Notice.{Notice}
use Rattle.judge_loads.specs.Loads.{marked, energy_in, load_in, energy_at_index, load_by}
use Rattle.judge_limits.specs.Limits.{registered_in, lines_in, judged_in, limit_in, first_passed}
use Rattle.judge_limits.specs.declared.Limit as Code
use Rattle.judge_limits.proofs.NoticeLaws.{rows-load}

-- a sum over the indices of those that are marked is one over themselves
pub sums-indices : (h : ℕ) (f : ℕ → ℕ) (i : ℕ) (bs : List Bool) (es : List Energies)
    → ((j : ℕ) → j < length es → get_or bs j false ≡ true → f (i + j) ≡ energy_in h (get_or es j bare_energies))
    → sum_of f (marked bs (from i (length es))) ≡ sum_of (energy_in h) (marked bs es)
unfolding marked from sum_of sum
sums-indices h f i [] es e = refl
sums-indices h f i (b ∷ bs) [] e = refl
sums-indices h f i (true ∷ bs) (x ∷ es) e =
    let z : i + 0 ≡ i = omega arith in
    omega (arith, rw z at (e 0 (omega arith) refl), sums-indices h f (suc i) bs es (λ j k t. let q : i + suc j ≡ suc i + j = omega arith in rw q at (e (suc j) (omega arith) t)))
sums-indices h f i (false ∷ bs) (x ∷ es) e = sums-indices h f (suc i) bs es (λ j k t. let q : i + suc j ≡ suc i + j = omega arith in rw q at (e (suc j) (omega arith) t))

pub load-indices : (own : List ℕ) (bs : List Bool) (n : ℕ) (es : List Energies) (h : ℕ) → n ≤ length es → load_by own es (marked bs (from 0 n)) h ≡ load_in own bs (take n es) h
unfolding load_by load_in
load-indices own bs n es h b =
    let m : length (take n es) ≡ n = length-take-le n es b in
    ap (λ k. hourly own h + k)
    (ap (λ k. sum_of (energy_at_index es h) (marked bs (from 0 k))) (sym m)
    ∙ sums-indices h (energy_at_index es h) 0 bs (take n es) (λ j k t. let z : 0 + j ≡ j = omega arith in rw (z, get_or-take n es j bare_energies (omega (arith, m)))))

-- loads that are the same in every hour are judged as the same
module _ (H : ℕ) (own : List ℕ) (f g : ℕ → ℕ) (same : (h : ℕ) → 1 ≤ h → h ≤ H → f h ≡ g h) where
  rows-same : (ls : List Limit) → given_by (first_row (limit_rows H own f ls)) ≡ given_by (first_row (limit_rows H own g ls))
  rows-same ls = ap (λ rows. given_by (first_row rows)) (rows-load H own f g same ls)

  pub passed-same : (ls : List Code.Limit) → first_passed ls H own f ≡ first_passed ls H own g
  unfolding first_passed
  passed-same ls = rows-same (map limit_in ls)

  judged-same : (u : Unit) (notice rights : Notice) (cs : List Notice) (losses : List ℕ) (only : Bool) → judged_in u notice rights cs losses only H own f ≡ judged_in u notice rights cs losses only H own g
  unfolding judged_in
  judged-same u notice rights cs losses only = rows-same (judged_by (lines_in cs losses) (registered_in u notice rights) only)

-- the judgement by indices is that by marks
module _ (u : Unit) (notice rights : Notice) (cs : List Notice) (losses : List ℕ) (only : Bool) (H : ℕ) (own ps : List ℕ) (bs : List Bool) (n : ℕ) (es : List Energies) where
  pub judged-indices : n ≤ length es → ps ≡ marked bs (from 0 n)
      → judged_in u notice rights cs losses only H own (load_by own es ps) ≡ judged_in u notice rights cs losses only H own (load_in own bs (take n es))
  judged-indices b e = judged-same H own (load_by own es ps) (load_in own bs (take n es)) (λ h i k. rw e (load-indices own bs n es h b)) u notice rights cs losses only

-- Energies of a unit, added one after the other, and laid at the units' indices.
use Prim.Native.Nat.{ℕ, zero, suc, ◌+◌, ◌/◌, ◌%◌, ◌<◌}
use mathlib.Core.Path.{◌≡◌, refl, sym, ap, ◌∙◌}
use mathlib.Core.Bool.{Bool, ◌&&◌, beq}
use mathlib.Core.List.{List, [], ◌∷◌, ◌++◌, map, map-map}
use native.Mathlib.Omega.{arith}
use lib.Dec.{eqb}
use lib.ListN.{get_or, set, length, take, length-map, length-take}
use Rattle.std.specs.Prelude.{unwrap_or}
use Rattle.rules.specs.Lists.{keep, sum, sum_of, from}
use Rattle.rules.specs.Borders.{Directed}
use Rattle.rules.proofs.ElementLaws.{all-every}
use Rattle.rules.proofs.IndexLaws.{map-all}
use Rattle.rules.proofs.BoolLaws.{by_bool}
use Rattle.rules.proofs.ListLaws.{keep-map}
use Rattle.session.specs.declared.HourFigures.{HourFigures}
use Rattle.session.specs.Laid.{pad}
use Rattle.session.specs.Image.{by_direction, energy_of}
use Rattle.session.proofs.LaidLaws.{map_last, set-pad}
use Rattle.hour.specs.View.{energy_among, laid_by_direction}

pub take-last : {A : Type 0} (xs : List A) (i : ℕ) (d : A) → i < length xs → take (i + 1) xs ≡ take i xs ++ (get_or xs i d ∷ [])
take-last [] i d h = absurd (omega arith)
take-last (x ∷ xs) zero d h = refl
take-last (x ∷ xs) (suc i) d h = let e : suc i + 1 ≡ suc (i + 1) = omega arith in rw e (ap (λ l. x ∷ l) (take-last xs i d (omega arith)))

-- an energy more, at the index of the next element
pub laid-next : {A : Type 0} (size : ℕ) (f : A → ℕ) (xs : List A) (i : ℕ) (d : A) (es : List ℕ) (e : ℕ) → i < length xs → i < size → es ≡ pad size 0 (map f (take i xs)) → e ≡ f (get_or xs i d)
    → set es i e ≡ pad size 0 (map f (take (i + 1) xs))
laid-next size f xs i d es e h l s q =
    let n : length (map f (take i xs)) ≡ i = length-map (take i xs) f ∙ (length-take i xs ∙ omega arith) in
    rw (take-last xs i d h, s, q) (set-pad size 0 (map f (take i xs)) i (f (get_or xs i d)) (sym n) (omega (arith, n)) ∙ ap (pad size 0) (sym (map_last f (take i xs) (get_or xs i d))))

-- a list read by another type's eyes
pub kept-sum : {A B : Type 0} (g : A → B) (energy : B → ℕ) (p : B → Bool) (xs : List A) → sum_of energy (keep p (map g xs)) ≡ sum_of (λ x. energy (g x)) (keep (λ x. p (g x)) xs)
unfolding sum_of
kept-sum g energy p xs = ap (λ l. sum (map energy l)) (keep-map g p xs) ∙ ap sum (map-map energy g (keep (λ x. p (g x)) xs))

-- 0 where a direction has no energy
among-as : (ds : List Directed) (b : ℕ) (e : Bool) → unwrap_or (energy_among ds b e) 0 ≡ energy_of ds b e
unfolding energy_among energy_of
among-as [] b e = refl
among-as (d ∷ ds) b e = by_bool (eqb d.border b && beq d.export e) (λ t. rw t refl) (λ t. rw t (among-as ds b e))

pub maxima-as : (ds : List Directed) → map (λ o. unwrap_or o 0) (laid_by_direction ds) ≡ by_direction (energy_of ds)
unfolding laid_by_direction by_direction
maxima-as ds =
    map-map (λ o. unwrap_or o 0) (λ d. energy_among ds (d / 2 + 1) (eqb (d % 2) 0)) (from 0 8)
    ∙ map-all _ _ (all-every (λ d. among-as ds (d / 2 + 1) (eqb (d % 2) 0)) (from 0 8))

-- equal parts make equal figures
pub cleared-same : {p : ℕ} {m m' b b' x x' d d' e e' : List ℕ} → m ≡ m' → b ≡ b' → x ≡ x' → d ≡ d' → e ≡ e'
    → ◌≡◌ {A = HourFigures} (record { price = p; market = m; bilateral = b; maxima = x; matched = d; executed = e }) (record { price = p; market = m'; bilateral = b'; maxima = x'; matched = d'; executed = e' })
cleared-same a b c d e = rw (a, b, c, d, e)

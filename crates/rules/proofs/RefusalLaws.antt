-- Laws of the table's rows: a value is given exactly where no row applies.
use mathlib.Core.Path.{◌≡◌, refl}
use mathlib.Core.Bool.{Bool, true, false, cond, false≢true}
use mathlib.Core.List.{List, [], ◌∷◌}
use mathlib.Core.Option.{some, none as nothing}
use Prim.Native.Nat.{ℕ}
use native.Mathlib.Omega.{arith}
use Rattle.rules.specs.Lists.{All, none, more}
use Rattle.rules.specs.Refusals.{Row, first_row, given, unless, outcome}
use Rattle.rules.proofs.BoolLaws.{by_bool}

-- where no row applies the value is given
pub of-no-row : {A : Type 0} {rows : List Row} (a : A) → All (λ r. r.applies ≡ false) rows → outcome rows a ≡ given a
unfolding outcome first_row unless
of-no-row a none = refl
of-no-row a (more h t) = rw h (of-no-row a t)

-- a value that is given: no row applies, and it is that value
pub no_row : {A : Type 0} (rows : List Row) (a b : A) → outcome rows a ≡ given b → All (λ r. r.applies ≡ false) rows × (a ≡ b)
unfolding outcome first_row unless
no_row [] a b h = (none, cc)
no_row (r ∷ rows) a b h =
    by_bool r.applies (λ e. let k = rw e at h in let z : ◌≡◌ {A = ℕ} 0 1 = cc in absurd (omega arith))
    (λ e. let k = no_row rows a b (rw e at h) in (more e k.0, k.1))

-- an accepted call: no row applies
pub accepted-rows : (rows : List Row) → first_row rows ≡ nothing → All (λ r. r.applies ≡ false) rows
unfolding outcome unless
accepted-rows rows h = (no_row {A = ℕ} rows 0 0 (rw h)).0

-- a row in front that applies is given
pub given-row : (x r : Row) (rows : List Row) → x.applies ≡ true → first_row (x ∷ rows) ≡ some r → x ≡ r
unfolding first_row
given-row x r rows e h = go x.applies e h
  where
    go : (t : Bool) → t ≡ true → cond t (some x) (first_row rows) ≡ some r → x ≡ r
    go true e h = cc
    go false e h = absurd (false≢true e)

-- What rights take off limit 12.
use Prim.Native.Nat.{ℕ, ◌-◌, ◌≤◌, ◌<◌}
use mathlib.Core.Path.{◌≡◌, refl, ap, sym, ◌∙◌}
use mathlib.Core.Bool.{Bool, true, false, cond}
use mathlib.Core.List.{List, map}
use mathlib.Core.Option.{Option, some, none}
use Rattle.std.specs.Prelude.{Some, None}
use native.Mathlib.Omega.{arith}
use lib.Dec.{ltb}
use lib.ListN.{length, get_or, get_or-eq_default}
use borrow.Author.Tests.{ltb-true, ltb-false}
use Rattle.rules.proofs.BoolLaws.{by_bool}
use Rattle.rules.specs.Lists.{hourly}
use Rattle.rules.specs.Units.{unit_loss, rights_at, border_sum, increased_sum, lessened, border_limit}
use Rattle.session.specs.Image.{unit_in}
use Rattle.session.specs.declared.Unit.{Unit}
use Rattle.session.specs.declared.Notice.{Notice}
use Rattle.std.specs.declared.option.Option as O
use Rattle.judge_limits.specs.Limits.{notice_in, registered_in, lines_in, taken_off, line_at, limit_at}

-- nothing is taken off
less-nothing : (o : Option ℕ) → o ≡ lessened 0 o
unfolding lessened
less-nothing none = refl
less-nothing (some n) = ap some (omega arith)

rights-taken : (h : ℕ) (t : Bool) (es : List ℕ) → ◌≡◌ {A = ℕ} (elim (cond t (some es) none) [ none ↦ 0 | some xs ↦ hourly xs h ]) (cond t (hourly es h) 0)
rights-taken h true es = refl
rights-taken h false es = refl

-- limit 12 by the losses and the rights that a session keeps
pub border-lessened : (u : Unit) (n g : Notice) (cs : List Notice) (losses : List ℕ) (h : ℕ) → (border_limit (lines_in cs losses) (registered_in u n g)).at h ≡ line_at u g cs losses h
unfolding border_limit rights_at notice_in line_at taken_off
border-lessened u n g cs losses h =
    ap (λ k. lessened (cond u.rights 0 k) (increased_sum (unit_loss losses (unit_in u)) (border_sum (map notice_in cs) u.border h))) (rights-taken h g.given g.energies)

-- The ways out of `unit_line`

module _ (u : Unit) (g : Notice) (h : ℕ) (sum : Option ℕ) (line : O.Option (List ℕ)) (e : limit_at line h ≡ sum) where
  -- a marked unit's sum is whole
  pub line-marked : u.rights ≡ true → limit_at line h ≡ lessened (taken_off u g h) sum
  unfolding taken_off
  line-marked t = rw t (e ∙ less-nothing sum)

  -- "without a notice they are 0"
  pub line-bare : u.rights ≡ false → g.given ≡ false → limit_at line h ≡ lessened (taken_off u g h) sum
  unfolding taken_off
  line-bare t k = rw (t, k) (e ∙ less-nothing sum)

  -- where there is no sum nothing is lessened
  pub line-none : line ≡ None → limit_at None h ≡ lessened (taken_off u g h) sum
  unfolding limit_at lessened
  line-none t = rw (sym e, t) refl

  pub line-less : u.rights ≡ false → g.given ≡ true → (sums rest : List ℕ) → line ≡ Some sums → length rest ≡ 25 → length sums ≡ 25 → length g.energies ≡ 25
      → ((k : ℕ) → k < 25 → get_or rest k 0 ≡ get_or sums k 0 - get_or g.energies k 0) → limit_at (Some rest) h ≡ lessened (taken_off u g h) sum
  unfolding limit_at lessened taken_off hourly
  line-less x y sums rest t a b c f = rw (x, y, sym e, t) (ap some (each (h - 1)))
    where
      each : (k : ℕ) → get_or rest k 0 ≡ get_or sums k 0 - get_or g.energies k 0
      each k = by_bool (ltb k 25) (λ z. f k (ltb-true k 25 z)) (λ z. beyond (ltb-false k 25 z))
        where
          beyond : 25 ≤ k → get_or rest k 0 ≡ get_or sums k 0 - get_or g.energies k 0
          beyond z = rw (get_or-eq_default rest 0 {n = k} (omega arith), get_or-eq_default sums 0 {n = k} (omega arith), get_or-eq_default g.energies 0 {n = k} (omega arith))

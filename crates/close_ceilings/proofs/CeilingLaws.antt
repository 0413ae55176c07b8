-- The ceilings of the code are those of the rules.
use Prim.Native.Nat.{ℕ, zero, suc, ◌+◌, ◌-◌, ◌<◌, min}
use mathlib.Core.Path.{◌≡◌, refl, ap, ap₂, sym, ◌∙◌}
use mathlib.Core.Bool.{Bool, true, false, cond}
use mathlib.Core.List.{List, [], ◌∷◌, ◌++◌, map}
use mathlib.Core.Option.{Option, some, none}
use native.Mathlib.Omega.{arith}
use lib.Dec.{ltb}
use lib.ListN.{length, get_or, replicate, length-replicate, get_or-replicate, get_or-append, get_or-eq_default}
use lib.Seq.{get_or-append_seam}
use borrow.Author.Tests.{ltb-true, ltb-false}
use Rattle.rules.specs.Lists.{hourly}
use Rattle.rules.specs.Units.{loss_of, unit_loss, available_at, rights_at, border_sum, increased_sum, lessened, maximum_limit, available_limit, own_limits, border_limit, rights_limit, border_limits, limits, least_of, ceiling}
use Rattle.rules.proofs.BoolLaws.{by_bool}
use Rattle.rules.proofs.ListLaws.{hourly-suc}
use Rattle.session.specs.Image.{unit_in}
use Rattle.session.specs.declared.Unit.{Unit}
use Rattle.session.specs.declared.Notice.{Notice}
use Rattle.judge_limits.specs.Limits.{notice_in, limit_at}
use Rattle.std.specs.Prelude.{Some, None}
use Rattle.std.specs.declared.option.Option as O
use Rattle.judge_limits.proofs.BorderLaws.{off-domestic, off-borders}
use Rattle.close_ceilings.specs.declared.Lines.{Lines}
use Rattle.close_ceilings.specs.Ceilings.{LinesOf, line_row, line_of, own_in, rights_in, ceiling_in, ceiling_of, ceiling_at, CeilingsTo}

-- Limit 12

-- a number that no border has
row-none : (cs : List Notice) (b k l h : ℕ) → length cs ≡ 8 → 4 < b → increased_sum k (border_sum (map notice_in cs) 0 h) ≡ increased_sum l (border_sum (map notice_in cs) b h)
row-none cs b k l h e m = sym (off-domestic cs 0 k h refl) ∙ off-borders cs b l h (λ z. absurd (omega arith)) e m

row_as : (cs : List Notice) (losses : List ℕ) (b h : ℕ) → length cs ≡ 8
    → increased_sum (loss_of losses (line_row b)) (border_sum (map notice_in cs) (line_row b) h) ≡ increased_sum (loss_of losses b) (border_sum (map notice_in cs) b h)
unfolding line_row
row_as cs losses b h e = by_bool (ltb 4 b) (λ t. rw t (row-none cs b (loss_of losses 0) (loss_of losses b) h e (ltb-true 4 b t))) (λ t. rw t)

row_in : (b : ℕ) → line_row b < 5
unfolding line_row
row_in b = by_bool (ltb 4 b) (λ t. rw t (omega arith)) (λ t. rw t (omega (arith, ltb-false 4 b t)))

-- of no loss
no-loss : (b : ℕ) → loss_of (replicate 5 0) b ≡ 0
unfolding loss_of
no-loss b = by_bool (ltb b 5) (λ t. get_or-replicate 5 b 0 0 (ltb-true b 5 t)) (λ t. get_or-eq_default (replicate 5 0) 0 {n = b} (omega (arith, length-replicate 5 zero, ltb-false b 5 t)))

-- a unit's line is its border sum with its loss
pub line-as : (cs : List Notice) (losses : List ℕ) (lines : Lines) (u : Unit) (h : ℕ) → LinesOf cs losses lines
    → limit_at (line_of lines u) h ≡ increased_sum (unit_loss losses (unit_in u)) (border_sum (map notice_in cs) u.border h)
unfolding line_of unit_loss
line-as cs losses lines u h l =
    by_bool u.purchase
    (λ t. rw t (l.purchases (line_row u.border) h (row_in u.border) ∙ row_as cs losses u.border h l.eight))
    (λ t. rw t (l.sales (line_row u.border) h (row_in u.border) ∙ row_as cs (replicate 5 0) u.border h l.eight ∙ ap (λ k. increased_sum k (border_sum (map notice_in cs) u.border h)) (no-loss u.border)))

module _ (limit taken h : ℕ) (line : O.Option (List ℕ)) where
  -- one that does not apply lessens nothing
  pub under-none : line ≡ None → limit ≡ least_of limit (lessened taken (limit_at line (suc h)) ∷ [])
  unfolding least_of lessened limit_at
  under-none e = rw e refl

  pub under-sum : (sums : List ℕ) (r : ℕ) → line ≡ Some sums → r ≡ min limit (get_or sums h 0 - taken) → r ≡ least_of limit (lessened taken (limit_at line (suc h)) ∷ [])
  unfolding least_of lessened limit_at
  under-sum sums r e q = rw e (omega (arith, q, hourly-suc sums h))

-- The least of the limits

least-as : (k t : Bool) (m e g : ℕ) (o : Option ℕ) → cond k (least_of (min (cond t (min m e) m) g) (lessened 0 o ∷ [])) (least_of (cond t (min m e) m) (lessened g o ∷ []))
    ≡ least_of m (some m ∷ some (cond t e m) ∷ lessened (cond k 0 g) o ∷ cond k (some g) none ∷ [])
unfolding least_of lessened
least-as true true m e g none = omega arith
least-as true true m e g (some s) = omega arith
least-as true false m e g none = omega arith
least-as true false m e g (some s) = omega arith
least-as false true m e g none = omega arith
least-as false true m e g (some s) = omega arith
least-as false false m e g none = omega arith
least-as false false m e g (some s) = omega arith

-- a notice in an hour
noticed-at : (t : Bool) (es : List ℕ) (m h : ℕ) → ◌≡◌ {A = ℕ} (elim (cond t (some es) none) [ none ↦ m | some xs ↦ hourly xs (suc h) ]) (cond t (get_or es h 0) m)
noticed-at true es m h = hourly-suc es h
noticed-at false es m h = refl

pub ceiling-as : (u : Unit) (n g : Notice) (cs : List Notice) (losses : List ℕ) (line : O.Option (List ℕ)) (h : ℕ)
    → limit_at line (suc h) ≡ increased_sum (unit_loss losses (unit_in u)) (border_sum (map notice_in cs) u.border (suc h)) → ceiling_in u n g line h ≡ ceiling_of u n g cs losses h
unfolding ceiling_in own_in rights_in ceiling limits own_limits border_limits maximum_limit available_limit border_limit rights_limit available_at rights_at notice_in
ceiling-as u n g cs losses line h e =
    let sum = increased_sum (unit_loss losses (unit_in u)) (border_sum (map notice_in cs) u.border (suc h)) in
    rw e
    (least-as u.rights n.given u.maximum (get_or n.energies h 0) (cond g.given (get_or g.energies h 0) 0) sum
    ∙ ap₂ (λ (a r : ℕ). least_of u.maximum (some u.maximum ∷ some a ∷ lessened (cond u.rights 0 r) sum ∷ cond u.rights (some r) none ∷ []))
    (sym (noticed-at n.given n.energies u.maximum h)) (sym (noticed-at g.given g.energies 0 h)))

-- a row more
pub ceilings_more : (us : List Unit) (ns gs cs : List Notice) (losses : List ℕ) (rows : List (List ℕ)) (row : List ℕ) (n : ℕ) → length rows ≡ n
    → ((h : ℕ) → h < 25 → get_or row h 0 ≡ ceiling_at us ns gs cs losses n h) → CeilingsTo us ns gs cs losses n rows → CeilingsTo us ns gs cs losses (n + 1) (rows ++ row ∷ [])
ceilings_more us ns gs cs losses rows row n l f g p h i k =
    by_bool (ltb p n)
    (λ t. rw (get_or-append rows (row ∷ []) [] p (omega (arith, ltb-true p n t))) (g p h (ltb-true p n t) k))
    (λ t. let q : p ≡ length rows = omega (arith, ltb-false p n t) in rw (q, get_or-append_seam rows row [] [], l) (f h k))

-- Limits that are passed: the first of them, in the lowest hour in which it is; and a refusal exactly when their least is.
use Prim.Native.Nat.{ℕ, ◌≤◌, ◌<◌}
use mathlib.Core.Path.{◌≡◌, refl, sym, subst, ap, ◌∙◌}
use mathlib.Core.Logic.{◌↔◌}
use mathlib.Core.Bool.{Bool, true, false, not, ◌&&◌, true≢false}
use mathlib.Core.List.{List, [], ◌∷◌, map}
use mathlib.Core.Option.{Option, some, none as nothing}
use native.Mathlib.Omega.{arith}
use lib.Dec.{ltb, eqb}
use borrow.Author.Tests.{ltb-true, lt-ltb, ltb-false, eqb-false, ne_eqb, not-true}
use Rattle.rules.specs.Lists.{All, none, more, any, lowest, hourly}
use Rattle.rules.specs.Refusals.{Row, limit_row, first_row}
use Rattle.rules.specs.Units.{Limit, passes}
use Rattle.rules.specs.Lodging.{passed_at, limit_rows}
use Rattle.rules.specs.Judging.{hidden, limit, is_accepted, verdict_of_row}
use Rattle.rules.specs.Demands.{Over, Chosen, first-passed, later}
use Rattle.rules.proofs.BoolLaws.{by_bool, not-both, both, of-both}
use Rattle.rules.proofs.ListLaws.{all_map, all_head, of-any-false}
use Rattle.rules.proofs.ElementLaws.{all-every}
use Rattle.rules.proofs.LowestLaws.{Least, missing, found, least}
use Rattle.rules.proofs.RefusalLaws.{accepted-rows, given-row}
use Rattle.rules.proofs.CeilingLaws.{Bound}

-- Rows by the lowest hour in which something is passed

module _ {A : Type 0} (number : A → ℕ) (H : ℕ) (passed : A → ℕ → Bool) where
  -- a limit's row applies exactly when it is passed in an hour, and says the lowest
  row-cases : {C : Type 0} (l : A) {h : ℕ} → Least (passed l) 1 H h → (not (eqb h 0) ≡ false → ((k : ℕ) → 1 ≤ k → k ≤ H → passed l k ≡ false) → C)
      → (not (eqb h 0) ≡ true → 1 ≤ h → h ≤ H → passed l h ≡ true → ((k : ℕ) → 1 ≤ k → k < h → passed l k ≡ false) → C) → C
  row-cases l (missing f) u v = u refl (λ k a b. f k a (omega arith))
  row-cases l (found {h} a b t f) u v = v (rw (ne_eqb h 0 (λ e. omega arith))) a (omega arith) t f

  -- a row for each
  abbrev pub rows_by : List A → List Row
  rows_by ls = map (λ l. limit_row (number l) H (passed l)) ls

  -- the row that is given is that of the first limit passed
  pub first-limit : (ls : List A) (r : Row) → first_row (rows_by ls) ≡ some r → Chosen number H passed r.number r.hour ls
  unfolding first_row limit_row lowest
  first-limit [] r e = let z : ◌≡◌ {A = ℕ} 0 1 = cc in absurd (omega arith)
  first-limit (l ∷ ls) r e =
      row-cases l (least (passed l) 1 H) (λ q f. later f (first-limit ls r (rw q at e)))
      (λ q a b t f. subst (λ (r : Row). Chosen number H passed r.number r.hour (l ∷ ls))
      (given-row (limit_row (number l) H (passed l)) r (rows_by ls) q e) (first-passed refl a b t f))

  -- where none is given no limit is passed in any hour
  no-limit : (ls : List A) → first_row (rows_by ls) ≡ nothing → All (λ l. (k : ℕ) → 1 ≤ k → k ≤ H → passed l k ≡ false) ls
  unfolding first_row limit_row lowest
  no-limit [] e = none
  no-limit (l ∷ ls) e =
      row-cases l (least (passed l) 1 H) (λ q f. more f (no-limit ls (rw q at e)))
      (λ q a b t f. not-both q (all_head (accepted-rows (rows_by (l ∷ ls)) e)))

  -- the hour of the first limit passed: one of them is passed in it
  chosen-any : {n h : ℕ} {ls : List A} → Chosen number H passed n h ls → (1 ≤ h) × (h ≤ H) × (any (λ l. passed l h) ls ≡ true)
  unfolding any
  chosen-any (first-passed e a b t f) = (a, b, rw t)
  chosen-any {h} (later {l} f c) = let k = chosen-any c in (k.0, k.1, rw (f h k.0 k.1) k.2)

  -- in the hour of the row that is given one is passed
  pub row-passed : (ls : List A) (r : Row) → first_row (rows_by ls) ≡ some r → (1 ≤ r.hour) × (r.hour ≤ H) × (any (λ l. passed l r.hour) ls ≡ true)
  row-passed ls r e = chosen-any (first-limit ls r e)

  -- where none is given, none in any hour
  pub row-none : (ls : List A) → first_row (rows_by ls) ≡ nothing → (h : ℕ) → 1 ≤ h → h ≤ H → any (λ l. passed l h) ls ≡ false
  row-none ls e h a b = of-any-false _ (all_map (λ l f. f h a b) (no-limit ls e))

-- The verdict by such rows

-- a refusal has its row
verdict-row : (o : Option Row) {n h : ℕ} → verdict_of_row o ≡ limit n h → (r : Row) × ((o ≡ some r) × (r.number ≡ n) × (r.hour ≡ h))
unfolding verdict_of_row
verdict-row nothing e = let z : ◌≡◌ {A = ℕ} 0 1 = cc in absurd (omega arith)
verdict-row (some r) e = (r, (refl, cc, cc))

-- one that is judged is not hidden
pub verdict-shown : (o : Option Row) → verdict_of_row o ≡ hidden → ⊥
unfolding verdict_of_row
verdict-shown nothing e = let z : ◌≡◌ {A = ℕ} 0 1 = cc in omega arith
verdict-shown (some r) e = let z : ◌≡◌ {A = ℕ} 0 1 = cc in omega arith

module _ {A : Type 0} (number : A → ℕ) (H : ℕ) (passed : A → ℕ → Bool) (ls : List A) where
  -- in an hour of 1 to H one of them is passed
  abbrev pub PassedIn : ℕ → Type 0
  PassedIn h = (1 ≤ h) × (h ≤ H) × (any (λ l. passed l h) ls ≡ true)

  -- refused exactly when one is passed in an hour
  pub rows-exactly : (is_accepted (verdict_of_row (first_row (rows_by number H passed ls))) ≡ false) ↔ ((h : ℕ) × PassedIn h)
  unfolding verdict_of_row is_accepted
  rows-exactly = go (first_row (rows_by number H passed ls)) refl
    where
      go : (o : Option Row) → first_row (rows_by number H passed ls) ≡ o → (is_accepted (verdict_of_row o) ≡ false) ↔ ((h : ℕ) × PassedIn h)
      go nothing q = ((λ e. absurd (true≢false e)), (λ k. not-both k.1.2 (row-none number H passed ls q k.0 k.1.0 k.1.1)))
      go (some r) q = ((λ e. (r.hour, row-passed number H passed ls r q)), (λ k. refl))

  -- by the first that is passed, in its lowest hour
  pub rows-chosen : (n h : ℕ) → verdict_of_row (first_row (rows_by number H passed ls)) ≡ limit n h → Chosen number H passed n h ls
  rows-chosen n h e = let k = verdict-row (first_row (rows_by number H passed ls)) e in chosen_is k.1.1 k.1.2 (first-limit number H passed ls k.0 k.1.0)
    where
      chosen_is : {m j n h : ℕ} → m ≡ n → j ≡ h → Chosen number H passed m j ls → Chosen number H passed n h ls
      chosen_is p q c = rw (← p, ← q) c

-- Limits whose least is a ceiling

-- a limit is passed in an hour that is named
passed-any : (named : List ℕ) (load : ℕ → ℕ) (h : ℕ) (ls : List Limit)
    → any (λ l. passed_at named load l h) ls ≡ (not (eqb (hourly named h) 0) && any (λ l. passes (load h) (l.at h)) ls)
unfolding passed_at
passed-any named load h ls = by_bool (eqb (hourly named h) 0) (λ e. rw e (of-any-false _ (all-every (λ l. refl) ls))) (λ e. rw e)

module _ (H : ℕ) (named : List ℕ) (load top : ℕ → ℕ) (ls : List Limit) (bound : Bound top ls) where
  -- a limit passed in an hour that is named: the ceiling is passed there
  pub over-of : (h : ℕ) → 1 ≤ h → h ≤ H → any (λ l. passed_at named load l h) ls ≡ true → Over H named load top h
  over-of h a b e =
      let k = both (not (eqb (hourly named h) 0)) (any (λ l. passes (load h) (l.at h)) ls) (sym (passed-any named load h ls) ∙ e) in
      record { first = a; last = b; named = omega (arith, eqb-false (hourly named h) 0 (not-true _ k.0)); over = ltb-true _ _ (bound h (load h) ∙ k.1) }

  -- and the other way
  pub of-over : (h : ℕ) → Over H named load top h → any (λ l. passed_at named load l h) ls ≡ true
  of-over h v =
      passed-any named load h ls ∙ of-both (ap not (ne_eqb (hourly named h) 0 (λ z. omega (arith, v.named)))) (sym (bound h (load h)) ∙ lt-ltb _ _ v.over)

  -- the hour of the row that is given is such an hour
  pub row-over : (r : Row) → first_row (limit_rows H named load ls) ≡ some r → Over H named load top r.hour
  unfolding limit_rows
  row-over r e = let c = row-passed (λ (l : Limit). l.number) H (passed_at named load) ls r e in over-of r.hour c.0 c.1 c.2

  -- where none is given there is none
  pub none_over : first_row (limit_rows H named load ls) ≡ nothing → (h : ℕ) → Over H named load top h → ⊥
  unfolding limit_rows
  none_over e h v = not-both (of-over h v) (row-none (λ (l : Limit). l.number) H (passed_at named load) ls e h v.first v.last)

  -- refused exactly when, in an hour that is named, the load passes the ceiling
  pub refused-exactly : (is_accepted (verdict_of_row (first_row (limit_rows H named load ls))) ≡ false) ↔ ((h : ℕ) × Over H named load top h)
  unfolding limit_rows
  refused-exactly =
      let x = rows-exactly (λ (l : Limit). l.number) H (passed_at named load) ls in
      ((λ e. let k = x.0 e in (k.0, over-of k.0 k.1.0 k.1.1 k.1.2)), (λ k. x.1 (k.0, (k.1.first, k.1.last, of-over k.0 k.1))))

  -- accepted: in no hour that is named
  pub accepted-under : is_accepted (verdict_of_row (first_row (limit_rows H named load ls))) ≡ true → (h : ℕ) → 1 ≤ h → h ≤ H → 0 < hourly named h → load h ≤ top h
  accepted-under e h a b n =
      by_bool (ltb (top h) (load h)) (λ k. not-both e (refused-exactly.1 (h, record { first = a; last = b; named = n; over = ltb-true _ _ k }))) (λ k. ltb-false _ _ k)

-- by the first limit passed, in its lowest hour
pub refused-chosen : (H : ℕ) (named : List ℕ) (load : ℕ → ℕ) (ls : List Limit) (n h : ℕ) → verdict_of_row (first_row (limit_rows H named load ls)) ≡ limit n h
    → Chosen (λ l. l.number) H (passed_at named load) n h ls
unfolding limit_rows
refused-chosen H named load ls n h e = rows-chosen (λ (l : Limit). l.number) H (passed_at named load) ls n h e

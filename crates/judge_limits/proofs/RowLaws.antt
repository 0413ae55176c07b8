-- Judging by a list of limits: which of them is told, and that it is the rules' judgement.
use Prim.Native.Nat.{ℕ, zero, suc, ◌+◌, ◌-◌, ◌≤◌, ◌<◌}
use mathlib.Core.Path.{◌≡◌, refl, ap, ap₂, sym, ◌∙◌}
use mathlib.Core.Bool.{Bool, true, false, cond, not}
use mathlib.Core.List.{List, [], ◌∷◌}
use mathlib.Core.Option.{Option, some, none}
use native.Mathlib.Omega.{arith}
use lib.Dec.{eqb}
use lib.ListN.{length, get_or, drop, replicate, get_or-replicate}
use lib.Seq.{drop-cons}
use Rattle.std.proofs.lemmas.List.{drop_all}
use Rattle.rules.proofs.BoolLaws.{by_bool}
use Rattle.rules.specs.Lists.{first, from, lowest, hourly}
use Rattle.rules.specs.Refusals.{Row, limit_row, first_row}
use Rattle.rules.specs.Rows.{number_of}
use Rattle.rules.specs.declared.row.Row.TheVariants.{Maximum, Available, Border, Rights}
use Rattle.rules.specs.Units.{Registered, Limit, passes, available_at, rights_at, maximum_limit, available_limit, own_limits, border_limit, rights_limit, border_limits, limits}
use Rattle.rules.specs.Lodging.{passed_at, judged_by, limit_rows}
use Rattle.rules.proofs.LowestLaws.{lowest-none}
use Rattle.session.specs.declared.Unit.{Unit}
use Rattle.session.specs.declared.Notice.{Notice}
use Rattle.session.specs.Parts.{given_by}
use Rattle.judge_loads.specs.Loads.{hour_at, laid}
use Rattle.judge_limits.specs.Limits.{notice_in, registered_in, lines_in, line_at, judged_in, limit_at, limit_in, maximum_limit_for, own_limits_for, border_limits_for, else_by, first_passed}
use Rattle.judge_limits.specs.declared.Limit as Code
use Rattle.std.specs.declared.option.Option as O
use Rattle.std.specs.Prelude.{Some, None}
use Rattle.std.specs.Option.{unwrap_or}
use Rattle.std.proofs.lemmas.Option.{none-some}
use Rattle.judge_loads.proofs.LoadLaws.{and-false}
use Rattle.judge_limits.proofs.RightsLaws.{border-lessened}

-- tests that agree on each number have the same lowest
first-same : (p q : ℕ → Bool) (i n : ℕ) → ((k : ℕ) → i ≤ k → k < i + n → p k ≡ q k) → first p 0 (from i n) ≡ first q 0 (from i n)
unfolding first from
first-same p q i zero f = refl
first-same p q i (suc n) f =
    rw (f i (omega arith) (omega arith)) (ap (λ r. cond (q i) i r) (first-same p q (suc i) n (λ k a b. f k (omega arith) (omega arith))))

pub lowest-same : (p q : ℕ → Bool) (n : ℕ) → ((k : ℕ) → 1 ≤ k → k ≤ n → p k ≡ q k) → lowest p n ≡ lowest q n
unfolding lowest
lowest-same p q n f = first-same p q 1 n (λ k a b. f k a (omega arith))

-- Limits by hour

-- a number that is a limit in every hour of the day; a notice's energies, or such a number
maximum-hourly : (m h H : ℕ) → H ≤ 25 → 1 ≤ h → h ≤ H → m ≡ hourly (replicate 25 m) h
unfolding hourly
maximum-hourly m h H most a b = sym (get_or-replicate 25 (h - 1) m 0 (omega arith))

notice-hourly : (t : Bool) (es : List ℕ) (m h H : ℕ) → H ≤ 25 → 1 ≤ h → h ≤ H
    → ◌≡◌ {A = ℕ} (elim (cond t (some es) none) [ none ↦ m | some xs ↦ hourly xs h ]) (hourly (cond t es (replicate 25 m)) h)
notice-hourly true es m h H most a b = refl
notice-hourly false es m h H most a b = maximum-hourly m h H most a b

module _ (H : ℕ) (own : List ℕ) (load : ℕ → ℕ) where
  -- limits that are the same in every hour are passed first in the same
  pub limit-same : (l m : Limit) → ((h : ℕ) → 1 ≤ h → h ≤ H → l.at h ≡ m.at h) → lowest (passed_at own load l) H ≡ lowest (passed_at own load m) H
  unfolding passed_at
  limit-same l m f = lowest-same _ _ H (λ h a b. rw (f h a b))

  -- a limit that applies in no hour is passed in none
  limit-absent : (l : Limit) → ((h : ℕ) → l.at h ≡ none) → lowest (passed_at own load l) H ≡ 0
  unfolding passed_at passes
  limit-absent l f = lowest-none _ H (λ h a b. rw (f h) (and-false (not (eqb (hourly own h) 0)) false refl))

-- The judgement by a list of limits

-- where one of the first two applies, the others are not looked at
first-parts : (a b : Row) (rs : List Row) → given_by (first_row (a ∷ b ∷ rs)) ≡ else_by (given_by (first_row (a ∷ b ∷ []))) (given_by (first_row rs))
unfolding first_row given_by else_by
first-parts a b rs = go a.applies b.applies (first_row rs)
  where
    go : (p q : Bool) (o : Option Row) → given_by (cond p (some a) (cond q (some b) o)) ≡ else_by (given_by (cond p (some a) (cond q (some b) none))) (given_by o)
    go true q o = refl
    go false true o = refl
    go false false o = refl

rows-two : {a x b y : Row} → a ≡ x → b ≡ y → first_row (a ∷ b ∷ []) ≡ first_row (x ∷ y ∷ [])
rows-two p q = rw (p, q)

module _ (H : ℕ) (own : List ℕ) (load : ℕ → ℕ) where
  abbrev row_by : Limit → Row
  row_by l = limit_row l.number H (passed_at own load l)

  row-same : (l m : Limit) → l.number ≡ m.number → ((h : ℕ) → 1 ≤ h → h ≤ H → l.at h ≡ m.at h) → row_by l ≡ row_by m
  unfolding limit_row
  row-same l m e f = ap₂ (λ (n h : ℕ). record { number = n; hour = h; applies = not (eqb h 0) }) e (limit-same H own load l m f)

  row-absent : (l : Limit) → ((h : ℕ) → l.at h ≡ none) → (row_by l).applies ≡ false
  unfolding limit_row
  row-absent l f = rw (limit-absent H own load l f)

  -- the loop over them: one that does not apply, one that is passed, and one that is not
  module _ (l : Code.Limit) (ls : List Code.Limit) where
    pub first-absent : l.by_hour ≡ None → first_passed (l ∷ ls) H own load ≡ first_passed ls H own load
    unfolding first_passed limit_rows first_row limit_at
    first-absent e = rw (row-absent (limit_in l) (λ h. rw e refl))

    module _ (es : List ℕ) (is : l.by_hour ≡ Some es) where
      abbrev low : ℕ
      low = lowest (passed_at own load (laid es)) H

      low-is : lowest (passed_at own load (limit_in l)) H ≡ low
      unfolding limit_at
      low-is = limit-same H own load (limit_in l) (laid es) (λ h a b. rw is refl)

      pub first-passed : (h : ℕ) → hour_at low ≡ Some h → first_passed (l ∷ ls) H own load ≡ some (number_of l.row, h)
      unfolding first_passed limit_rows limit_row first_row given_by
      first-passed h e =
          by_bool (eqb low 0) (λ t. absurd (none-some h (rw t at e)))
          (λ t. let f : Some low ≡ Some h = rw t at e in rw (low-is, t) (ap (λ o. some (number_of l.row, unwrap_or o 0)) f))

      pub first-unpassed : hour_at low ≡ None → first_passed (l ∷ ls) H own load ≡ first_passed ls H own load
      unfolding first_passed limit_rows limit_row first_row given_by
      first-unpassed e = by_bool (eqb low 0) (λ t. rw (low-is, t)) (λ t. absurd (none-some low (sym (rw t at e))))

  -- that at an index
  module _ (ls : List Code.Limit) (i : ℕ) (d : Code.Limit) (inside : i < length ls) where
    abbrev l : Code.Limit
    l = get_or ls i d

    from-here : first_passed (drop i ls) H own load ≡ first_passed (l ∷ drop (i + 1) ls) H own load
    from-here = let e : suc i ≡ i + 1 = omega arith in ap (λ (xs : List Code.Limit). first_passed xs H own load) (rw e at (drop-cons ls i d inside))

    pub at-absent : l.by_hour ≡ None → first_passed (drop i ls) H own load ≡ first_passed (drop (i + 1) ls) H own load
    at-absent e = from-here ∙ first-absent l (drop (i + 1) ls) e

    module _ (es : List ℕ) (is : l.by_hour ≡ Some es) where
      pub at-passed : (h : ℕ) → hour_at (lowest (passed_at own load (laid es)) H) ≡ Some h → first_passed (drop i ls) H own load ≡ some (number_of l.row, h)
      at-passed h e = from-here ∙ first-passed l (drop (i + 1) ls) es is h e

      pub at-unpassed : hour_at (lowest (passed_at own load (laid es)) H) ≡ None → first_passed (drop i ls) H own load ≡ first_passed (drop (i + 1) ls) H own load
      at-unpassed e = from-here ∙ first-unpassed l (drop (i + 1) ls) es is e

  pub at-end : (ls : List Code.Limit) (n : ℕ) → length ls ≤ n → first_passed (drop n ls) H own load ≡ none
  unfolding first_passed limit_rows first_row given_by
  at-end ls n e = rw (drop_all n ls e) refl

  module _ (most : H ≤ 25) (u : Unit) (n g : Notice) (cs : List Notice) (losses : List ℕ) where
    abbrev r : Registered
    r = registered_in u n g

    maximum-row : row_by (limit_in (record { row = Maximum; by_hour = Some (replicate 25 u.maximum) })) ≡ row_by (maximum_limit r)
    unfolding maximum_limit limit_at
    maximum-row = row-same _ _ refl (λ h a b. ap some (sym (maximum-hourly u.maximum h H most a b)))

    available-row : row_by (limit_in (record { row = Available; by_hour = Some (cond n.given n.energies (replicate 25 u.maximum)) })) ≡ row_by (available_limit r)
    unfolding available_limit available_at notice_in limit_at
    available-row = row-same _ _ refl (λ h a b. ap some (sym (notice-hourly n.given n.energies u.maximum h H most a b)))

    border-row : (line : O.Option (List ℕ)) → ((h : ℕ) → limit_at line h ≡ line_at u g cs losses h)
        → row_by (limit_in (record { row = Border; by_hour = line })) ≡ row_by (border_limit (lines_in cs losses) r)
    unfolding border_limit
    border-row line is = row-same _ _ refl (λ h a b. is h ∙ sym (border-lessened u n g cs losses h))

    -- a marked unit's rights; an unmarked one has no such limit
    rights-row : row_by (limit_in (record { row = Rights; by_hour = cond (not u.rights) None (Some (cond g.given g.energies (replicate 25 0))) })) ≡ row_by (rights_limit r)
    unfolding rights_limit rights_at notice_in limit_at
    rights-row = by_bool u.rights (λ t. row-same _ _ refl (λ h a b. rw t (ap some (sym (notice-hourly g.given g.energies 0 h H most a b))))) (λ t. row-same _ _ refl (λ h a b. rw t refl))

    -- a default lodgement's judgement
    pub default-judged : first_passed (maximum_limit_for u ∷ []) H own load ≡ judged_in u n g cs losses true H own load
    unfolding first_passed maximum_limit_for limit_rows judged_in judged_by
    default-judged = ap (λ (x : Row). given_by (first_row (x ∷ []))) maximum-row

    -- a normal one's, in two parts: the limits that a unit has of its own, and those by its border
    abbrev by-border : Option (ℕ × ℕ)
    by-border = given_by (first_row (limit_rows H own load (border_limits (lines_in cs losses) r)))

    pub judged-normal : judged_in u n g cs losses false H own load ≡ else_by (first_passed (own_limits_for u n) H own load) by-border
    unfolding first_passed own_limits_for maximum_limit_for limit_rows judged_in judged_by limits own_limits border_limits
    judged-normal = first-parts _ _ _ ∙ ap (λ (o : Option Row). else_by (given_by o) by-border) (sym (rows-two maximum-row available-row))

    pub own-passed : (q : ℕ × ℕ) → first_passed (own_limits_for u n) H own load ≡ some q → judged_in u n g cs losses false H own load ≡ some q
    unfolding else_by
    own-passed q e = judged-normal ∙ rw e refl

    pub own-unpassed : (line : O.Option (List ℕ)) → ((h : ℕ) → limit_at line h ≡ line_at u g cs losses h)
        → first_passed (own_limits_for u n) H own load ≡ none → judged_in u n g cs losses false H own load ≡ first_passed (border_limits_for u g line) H own load
    unfolding else_by first_passed border_limits_for limit_rows border_limits
    own-unpassed line is e = judged-normal ∙ rw e (ap given_by (sym (rows-two (border-row line is) rights-row)))

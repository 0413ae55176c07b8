-- Laws of "Hours of the day": a day has 23, 24 or 25 hours, a month at most 31 days, and name plus mark gives back the hour.
use Prim.Native.Nat.{ℕ, zero, suc, ◌+◌, ◌*◌, ◌-◌, min, ◌≤◌, ◌<◌}
use mathlib.Core.Path.{◌≡◌, refl, ap, ap₂, sym, ◌∙◌, subst⁻¹}
use mathlib.Core.Bool.{Bool, true, false, cond, ◌&&◌, ◌||◌, beq, false≢true}
use native.Mathlib.Omega.{arith}
use lib.Dec.{leb, eqb}
use borrow.Author.Tests.{eqb-true, leb-true, leb-false, eq-eqb, ne_eqb, le-leb}
use Rattle.rules.specs.Hours.{Date, Clock, leap, days_of_month, is_date, days_before, last_sunday, hours_of, clock_name, clock_of, same_clock, hour_of}
use Rattle.rules.proofs.BoolLaws.{by_bool, both}
use Rattle.rules.proofs.LowestLaws.{lowest-is, lowest-none, lowest-passes}

-- "23 hours, .. 25, other days 24"
hours-cases : (a b : Bool) → (23 ≤ cond a 23 (cond b 25 24)) × (cond a 23 (cond b 25 24) ≤ 25)
hours-cases true b = omega arith
hours-cases false true = omega arith
hours-cases false false = omega arith

module _ (d : Date) where
  pub hours-least : 23 ≤ hours_of d
  unfolding hours_of
  hours-least = (hours-cases (eqb d.month 3 && last_sunday d) (eqb d.month 10 && last_sunday d)).0

  pub hours-most : hours_of d ≤ 25
  unfolding hours_of
  hours-most = (hours-cases (eqb d.month 3 && last_sunday d) (eqb d.month 10 && last_sunday d)).1

days-cases : (a b c : Bool) → cond a (cond b 29 28) (cond c 30 31) ≤ 31
days-cases true true c = omega arith
days-cases true false c = omega arith
days-cases false b true = omega arith
days-cases false b false = omega arith

pub month-most : (y m : ℕ) → days_of_month y m ≤ 31
unfolding days_of_month
month-most y m = days-cases (eqb m 2) (leap y) (eqb m 4 || eqb m 6 || eqb m 9 || eqb m 11)

pub before-most : (y m : ℕ) → days_before y m ≤ m * 31
unfolding days_before
before-most y zero = omega arith
before-most y (suc m) = omega (arith, before-most y m, month-most y (suc m))

-- "from 2002-01-01 to 2099-12-31": a date in the range, part by part
pub record InRange (d : Date) : Type 0 where
  pub year-least : 2002 ≤ d.year
  pub year-most : d.year ≤ 2099
  pub month-first : 1 ≤ d.month
  pub month-last : d.month ≤ 12
  pub day-first : 1 ≤ d.day
  pub day-last : d.day ≤ days_of_month d.year d.month

module _ (d : Date) where
  pub in-range : is_date d ≡ true → InRange d
  unfolding is_date
  in-range e =
      let f = both _ _ e in
      let g = both _ _ f.0 in
      let h = both _ _ g.0 in
      let i = both _ _ h.0 in
      let j = both _ _ i.0 in
      record {
        year-least = leb-true _ _ j.0;
        year-most = leb-true _ _ j.1;
        month-first = leb-true _ _ i.1;
        month-last = leb-true _ _ h.1;
        day-first = leb-true _ _ g.1;
        day-last = leb-true _ _ f.1;
      }

  pub out_of_range : (InRange d → ⊥) → is_date d ≡ false
  out_of_range out = by_bool (is_date d) (λ e. absurd (out (in-range e))) (λ e. e)

  -- where year, month and the day's 1 are in the range, the month's last day decides
  pub by-last-day : 2002 ≤ d.year → d.year ≤ 2099 → 1 ≤ d.month → d.month ≤ 12 → 1 ≤ d.day
      → is_date d ≡ leb d.day (days_of_month d.year d.month)
  unfolding is_date
  by-last-day a b p q t =
      rw (le-leb 2002 d.year a, le-leb d.year 2099 b, le-leb 1 d.month p, le-leb d.month 12 q, le-leb 1 d.day t)

-- two clocks are one where their names and their marks are, and the test of two clocks says so
pub clock-eq : {a b : Clock} → a.name ≡ b.name → a.second ≡ b.second → a ≡ b
clock-eq n s = ap₂ (λ n s. record { name = n; second = s }) n s

marks-same : (a b : Bool) → beq a b ≡ true → a ≡ b
marks-same true true e = refl
marks-same true false e = sym e
marks-same false true e = e
marks-same false false e = refl

pub same-clock : (a b : Clock) → same_clock a b ≡ true → a ≡ b
unfolding same_clock
same-clock a b e =
    let h : (eqb a.name b.name ≡ true) × (beq a.second b.second ≡ true) = both _ _ e in
    clock-eq (eqb-true _ _ h.0) (marks-same _ _ h.1)

marks-refl : (b : Bool) → beq b b ≡ true
marks-refl true = refl
marks-refl false = refl

pub clock-same : (c : Clock) → same_clock c c ≡ true
unfolding same_clock
clock-same c = rw (eq-eqb c.name c.name refl) (marks-refl c.second)

-- a claim about every day, by its length: short, long, any other
pub by_length : (P : ℕ → Type 0) → P 23 → P 25 → ((H : ℕ) → eqb H 23 ≡ false → eqb H 25 ≡ false → P H) → (H : ℕ) → P H
by_length P short long other H =
    by_bool (eqb H 23) (λ e. subst⁻¹ P (eqb-true H 23 e) short)
    (λ e. by_bool (eqb H 25) (λ f. subst⁻¹ P (eqb-true H 25 f) long) (λ f. other H e f))

-- the clock names as sums
pub short-name : (h : ℕ) → 1 ≤ h → clock_name 23 h + 1 ≡ h + min 1 (h - 2)
unfolding clock_name
short-name h a = by_bool (leb h 2) (λ e. rw e (omega (arith, leb-true))) (λ e. rw e (omega (arith, leb-false)))

pub long-name : (h : ℕ) → 1 ≤ h → clock_name 25 h + 1 + min 1 (h - 3) ≡ h
unfolding clock_name
long-name h a = by_bool (leb h 3) (λ e. rw e (omega (arith, leb-true))) (λ e. rw e (omega (arith, leb-false)))

pub other_name : (H h : ℕ) → 1 ≤ h → eqb H 23 ≡ false → eqb H 25 ≡ false → clock_name H h + 1 ≡ h
unfolding clock_name
other_name H h a e f = rw (e, f) (omega arith)

-- no two hours of a day have one name and mark: 3 and 4 of the long day have one name and two marks
long-once : (k h : ℕ) → 1 ≤ k → k < h → clock_of 25 k ≡ clock_of 25 h → ⊥
unfolding clock_of
long-once k h a b same =
    let three : (k ≡ 3) × (h ≡ 4) = omega (arith, long-name k a, long-name h (omega arith), ap (λ c. c.name) same) in
    false≢true (sym (ne_eqb k 4 (omega arith)) ∙ ap (λ c. c.second) same ∙ eq-eqb h 4 three.1)

pub clock-once : (H k h : ℕ) → 1 ≤ k → k < h → clock_of H k ≡ clock_of H h → ⊥
unfolding clock_of
clock-once H k h a b =
    by_length (λ H. clock_of H k ≡ clock_of H h → ⊥)
    (λ e. omega (arith, short-name k a, short-name h (omega arith), ap (λ c. c.name) e))
    (long-once k h a b)
    (λ H p q e. omega (arith, other_name H k a p q, other_name H h (omega arith) p q, ap (λ c. c.name) e))
    H

-- the hour that has a clock, and 0 where none has it
module _ (H : ℕ) (c : Clock) where
  pub hour-is : (h : ℕ) → 1 ≤ h → h ≤ H → clock_of H h ≡ c → hour_of H c ≡ h
  unfolding hour_of
  hour-is h a b e =
      lowest-is (λ k. same_clock (clock_of H k) c) H h a b (rw e (clock-same c))
      (λ k low less. by_bool (same_clock (clock_of H k) c) (λ t. absurd (clock-once H k h low less (same-clock _ _ t ∙ sym e))) (λ t. t))

  pub hour-none : ((h : ℕ) → 1 ≤ h → h ≤ H → clock_of H h ≡ c → ⊥) → hour_of H c ≡ 0
  unfolding hour_of
  hour-none lacks =
      lowest-none (λ k. same_clock (clock_of H k) c) H
      (λ k low most. by_bool (same_clock (clock_of H k) c) (λ t. absurd (lacks k low most (same-clock _ _ t))) (λ t. t))

  -- the hour gives back name and mark
  pub clock-back : (hour_of H c ≡ 0 → ⊥) → clock_of H (hour_of H c) ≡ c
  unfolding hour_of
  clock-back has = same-clock _ _ (lowest-passes (λ k. same_clock (clock_of H k) c) H has)

-- "Name plus mark gives back the hour"
pub hour-back : (H h : ℕ) → 1 ≤ h → h ≤ H → hour_of H (clock_of H h) ≡ h
hour-back H h a b = hour-is H (clock_of H h) h a b refl

-- the days of a year before a month fit any word
pub ruleset before_laws = (before-most)

-- a day has 23 to 25 hours
pub ruleset length_laws = (hours-least, hours-most)

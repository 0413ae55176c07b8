-- A judgement by the limits is clear exactly where no ceiling is passed.
use Prim.Native.Nat.{ℕ, zero, suc, ◌≤◌, ◌<◌}
use mathlib.Core.Path.{◌≡◌, refl}
use mathlib.Core.Bool.{false}
use mathlib.Core.List.{List}
use mathlib.Core.Option.{Option, some, none}
use native.Mathlib.Omega.{arith}
use Rattle.rules.specs.Lists.{hourly}
use Rattle.rules.specs.Refusals.{Row, first_row}
use Rattle.rules.specs.Units.{limits, ceiling}
use Rattle.rules.specs.Lodging.{judged_by, limit_rows}
use Rattle.rules.proofs.CeilingLaws.{over-limits}
use Rattle.rules.proofs.LimitLaws.{row-over, none_over}
use Rattle.session.specs.Parts.{given_by}
use Rattle.session.specs.declared.Unit.{Unit}
use Rattle.session.specs.declared.Notice.{Notice}
use Rattle.judge_limits.specs.Limits.{registered_in, lines_in, judged_in}

-- a judgement that refuses
pub data Refuses : Option (ℕ × ℕ) → Type 0 where
  refuses : (r : ℕ × ℕ) → Refuses (some r)

judgement-none : (o : Option Row) → ((r : Row) → o ≡ some r → ⊥) → given_by o ≡ none
unfolding given_by
judgement-none none f = refl
judgement-none (some r) f = absurd (f r refl)

judgement-some : (o : Option Row) → (o ≡ none → ⊥) → Refuses (given_by o)
unfolding given_by
judgement-some none f = absurd (f refl)
judgement-some (some r) f = refuses _

-- The judgement of a lodgement at closing, by all limits

module _ (u : Unit) (n g : Notice) (cs : List Notice) (losses : List ℕ) (H : ℕ) (own : List ℕ) (load : ℕ → ℕ) where
  abbrev pub top : ℕ → ℕ
  top h = ceiling (lines_in cs losses) (registered_in u n g) h

  abbrev rows : List Row
  rows = limit_rows H own load (limits (lines_in cs losses) (registered_in u n g))

  pub judged-under : ((h : ℕ) → 1 ≤ h → h ≤ H → load h ≤ top h) → judged_in u n g cs losses false H own load ≡ none
  unfolding judged_in judged_by
  judged-under f =
      judgement-none (first_row rows) (λ r e. let v = row-over H own load top (limits (lines_in cs losses) (registered_in u n g)) (over-limits (lines_in cs losses) (registered_in u n g)) r e in
      omega (arith, v.over, f r.hour v.first v.last))

  pub judged-over : (h : ℕ) → 1 ≤ h → h ≤ H → (hourly own h ≡ 0 → ⊥) → top h < load h → Refuses (judged_in u n g cs losses false H own load)
  unfolding judged_in judged_by
  judged-over h a b e i =
      judgement-some (first_row rows) (λ q. none_over H own load top (limits (lines_in cs losses) (registered_in u n g)) (over-limits (lines_in cs losses) (registered_in u n g)) q h
      (record { first = a; last = b; named = above (hourly own h) e; over = i }))
    where
      above : (k : ℕ) → (k ≡ 0 → ⊥) → 0 < k
      above zero e = absurd (e refl)
      above (suc k) e = omega arith

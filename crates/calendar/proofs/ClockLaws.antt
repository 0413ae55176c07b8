-- The hour of a clock, computed from its name, is the one that the rules' search finds.
use Prim.Native.Nat.{ℕ, ◌+◌, ◌-◌, min, ◌≤◌, ◌<◌}
use mathlib.Core.Path.{◌≡◌, refl, ap, sym, ◌∙◌, subst⁻¹}
use mathlib.Core.Bool.{true, false}
use native.Mathlib.Omega.{arith}
use borrow.Author.Tests.{eqb-true, eqb-false, ne_eqb}
use Rattle.rules.specs.Hours.{Clock, clock_name, clock_of, hour_of}
use Rattle.rules.proofs.BoolLaws.{both}
use Rattle.rules.proofs.HoursLaws.{by_length, clock-eq, short-name, long-name, hour-is, hour-none}

-- a claim about each of the three lengths of a day
by_three : (P : ℕ → Type 0) → P 23 → P 24 → P 25 → (H : ℕ) → 23 ≤ H → H ≤ 25 → P H
by_three P short plain long =
    by_length (λ H. 23 ≤ H → H ≤ 25 → P H) (λ a b. short) (λ a b. long)
    (λ H p q a b. subst⁻¹ P (omega (arith, eqb-false)) plain)

-- the last hour of a day is named 23
name-most : (H : ℕ) → 23 ≤ H → H ≤ 25 → (h : ℕ) → 1 ≤ h → h ≤ H → clock_name H h ≤ 23
unfolding clock_name
name-most =
    by_three (λ H. (h : ℕ) → 1 ≤ h → h ≤ H → clock_name H h ≤ 23) (λ h a b. omega (arith, short-name h a)) (λ h a b. omega arith)
    (λ h a b. omega (arith, long-name h a))

-- hour h of a day of H hours is named n and has no mark
record Plain (H h n : ℕ) : Type 0 where
  least : 1 ≤ h
  most : h ≤ H
  short : H ≡ 23 → h + min 1 (h - 2) ≡ n + 1
  plain : H ≡ 24 → h ≡ n + 1
  long : H ≡ 25 → h ≡ n + 1 + min 1 (h - 3)
  mark : H ≡ 25 → h ≡ 4 → ⊥

plain-clock : (c : Clock) (h : ℕ) → c.second ≡ false → (H : ℕ) → 23 ≤ H → H ≤ 25 → Plain H h c.name → clock_of H h ≡ c
unfolding clock_of clock_name
plain-clock c h s =
    by_three (λ H. Plain H h c.name → clock_of H h ≡ c)
    (λ p. clock-eq (omega (arith, short-name h p.least, p.short refl)) (sym s))
    (λ p. clock-eq (omega (arith, p.plain refl)) (sym s))
    (λ p. clock-eq (omega (arith, long-name h p.least, p.long refl)) (ne_eqb h 4 (p.mark refl) ∙ sym s))

module _ (H : ℕ) (c : Clock) where
  module _ (marked : c.second ≡ true) where
    pub second-two : H ≡ 25 → c.name ≡ 2 → hour_of H c ≡ 4
    unfolding clock_of clock_name
    second-two l m = hour-is H c 4 (omega arith) (omega arith) (rw l (clock-eq (sym m) (sym marked)))

    pub second_none : (H ≡ 25 → c.name ≡ 2 → ⊥) → hour_of H c ≡ 0
    unfolding clock_of clock_name
    second_none not-two =
        hour-none H c
        (λ h a b e.
        let t = both _ _ (ap (λ c. c.second) e ∙ marked) in
        let l : H ≡ 25 = eqb-true _ _ t.0 in
        let k : h ≡ 4 = eqb-true _ _ t.1 in
        not-two l (rw (l, k) at (sym (ap (λ c. c.name) e))))

  pub no-two : H ≡ 23 → c.name ≡ 2 → hour_of H c ≡ 0
  unfolding clock_of
  no-two s n = hour-none H c (λ h a b e. omega (arith, short-name h a, rw s at (ap (λ c. c.name) e)))

  module _ (least : 23 ≤ H) (most : H ≤ 25) where
    pub too-late : 23 < c.name → hour_of H c ≡ 0
    unfolding clock_of
    too-late n = hour-none H c (λ h a b e. omega (arith, name-most H least most h a b, ap (λ c. c.name) e))

    plain-hour : (h : ℕ) → c.second ≡ false → Plain H h c.name → hour_of H c ≡ h
    plain-hour h s p = hour-is H c h p.least p.most (plain-clock c h s H least most p)

    module _ (unmarked : c.second ≡ false) where
      pub three-on : 2 < c.name → c.name ≤ 23 → hour_of H c ≡ H - (23 - c.name)
      three-on a n = plain-hour (H - (23 - c.name)) unmarked (omega arith)

      pub before-two : c.name < 2 → hour_of H c ≡ c.name + 1
      before-two a = plain-hour (c.name + 1) unmarked (omega arith)

      pub first_two : (H ≡ 23 → ⊥) → c.name ≡ 2 → hour_of H c ≡ 3
      first_two a n = plain-hour 3 unmarked (omega arith)

pub ruleset clock_laws = (second-two, second_none, no-two, too-late, three-on, before-two, first_two)

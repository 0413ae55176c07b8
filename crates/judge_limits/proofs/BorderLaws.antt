-- Limit 12: where it applies, by the notices that a session keeps.
use Prim.Native.Nat.{ℕ, ◌+◌, ◌-◌, ◌*◌, ◌/◌, ◌%◌, ◌≤◌, ◌<◌}
use mathlib.Core.Path.{◌≡◌, refl, ap, sym, ◌∙◌}
use mathlib.Core.Bool.{true, false}
use mathlib.Core.List.{List, map}
use mathlib.Core.Option.{some, none}
use Rattle.std.specs.Prelude.{Some, None}
use native.Mathlib.Omega.{arith}
use lib.ListN.{length, get_or, get_or-eq_default, get_or-map}
use lib.Dec.{ltb}
use Rattle.std.proofs.lemmas.Nat.{div-add-mod'}
use Rattle.std.proofs.Math.Nat.{mul-add-div_right, div-mul-le_self}
use borrow.Author.Tests.{eq-eqb, ne_eqb, ltb-true, ltb-false}
use Rattle.rules.proofs.BoolLaws.{by_bool}
use Rattle.rules.specs.Lists.{hourly}
use Rattle.rules.specs.Units.{Published, direction, capacity_of, both_at, border_sum, increased, increased_sum}
use Rattle.rules.proofs.CrossingLaws.{increased-plain}
use Rattle.session.specs.Bare.{bare_notice}
use Rattle.session.specs.declared.Notice.{Notice}
use Rattle.judge_limits.specs.Limits.{notice_in, limit_at}

-- The sum that is increased

-- without a loss
increased-none : (l s : ℕ) → l ≡ 0 → s ≡ increased l s
increased-none l s z = rw z (sym (increased-plain s))

-- with one, by ten thousands and a rest
times-rest : (s q r : ℕ) → s * (10000 + (q * 10000 + r)) ≡ s * (q + 1) * 10000 + s * r
times-rest s q r = omega arith

pub increased-parted : (l s : ℕ) → s * (l / 10000 + 1) + s * (l % 10000) / 10000 ≡ increased l s
unfolding increased
increased-parted l s =
    sym (ap (λ k. k / 10000) (ap (λ k. s * (10000 + k)) (sym (div-add-mod' l 10000)) ∙ times-rest s (l / 10000) (l % 10000)) ∙ mul-add-div_right {m = 10000} (omega arith) (s * (l / 10000 + 1)) (s * (l % 10000)))

-- of nothing
increased-nothing : (l : ℕ) → 0 ≡ increased l 0
unfolding increased
increased-nothing l = omega (arith, div-mul-le_self (0 * (10000 + l)) 10000)

-- Where limit 12 applies

both-none : (h : ℕ) (p : Published) → both_at h p none ≡ none
unfolding both_at
both-none h none = refl
both-none h (some es) = refl

module _ (ns : List Notice) (b l h : ℕ) where
  -- a direction of a border, by its index
  index-export : capacity_of (map notice_in ns) b true ≡ notice_in (get_or ns ((b - 1) * 2) bare_notice)
  unfolding capacity_of direction notice_in
  index-export = let e : (b - 1) * 2 + 0 ≡ (b - 1) * 2 = omega arith in rw e (get_or-map notice_in ns ((b - 1) * 2) bare_notice)

  index-import : capacity_of (map notice_in ns) b false ≡ notice_in (get_or ns ((b - 1) * 2 + 1) bare_notice)
  unfolding capacity_of direction notice_in
  index-import = get_or-map notice_in ns ((b - 1) * 2 + 1) bare_notice

  -- "0 domestic"
  pub off-domestic : b ≡ 0 → limit_at None h ≡ increased_sum l (border_sum (map notice_in ns) b h)
  unfolding limit_at increased_sum border_sum
  off-domestic e = rw (eq-eqb b 0 e)

  abbrev pub export : Notice
  export = get_or ns ((b - 1) * 2) bare_notice

  abbrev pub import : Notice
  import = get_or ns ((b - 1) * 2 + 1) bare_notice

  module _ (z : b ≡ 0 → ⊥) where
    absent-export : export.given ≡ false → limit_at None h ≡ increased_sum l (border_sum (map notice_in ns) b h)
    unfolding limit_at increased_sum border_sum notice_in both_at
    absent-export e = rw (ne_eqb b 0 z, index-export, e)

    pub off-export : export.given ≡ false → limit_at None h ≡ increased_sum l (border_sum (map notice_in ns) b h)
    off-export e = absent-export e

    pub off-import : import.given ≡ false → limit_at None h ≡ increased_sum l (border_sum (map notice_in ns) b h)
    unfolding limit_at increased_sum border_sum notice_in
    off-import e = rw (ne_eqb b 0 z, index-import, e) (ap (increased_sum l) (sym (both-none h (capacity_of (map notice_in ns) b true))))

    -- a number that no border has
    pub off-borders : length ns ≡ 8 → 4 < b → limit_at None h ≡ increased_sum l (border_sum (map notice_in ns) b h)
    off-borders m k = absent-export (ap (λ (x : Notice). x.given) (get_or-eq_default ns bare_notice {n = (b - 1) * 2} (omega arith)))

    -- "the sum of the two capacities", with the loss
    pub on-border : (sums : List ℕ) → length sums ≡ 25 → length export.energies ≡ 25 → length import.energies ≡ 25
        → ((k : ℕ) → k < 25 → get_or sums k 0 ≡ increased l (get_or export.energies k 0 + get_or import.energies k 0)) → export.given ≡ true → import.given ≡ true
        → limit_at (Some sums) h ≡ increased_sum l (border_sum (map notice_in ns) b h)
    unfolding limit_at increased_sum border_sum notice_in both_at hourly
    on-border sums m n o e x y = rw (ne_eqb b 0 z, index-export, index-import, x, y) (ap some (each (h - 1)))
      where
        each : (k : ℕ) → get_or sums k 0 ≡ increased l (get_or export.energies k 0 + get_or import.energies k 0)
        each k = by_bool (ltb k 25) (λ t. e k (ltb-true k 25 t)) (λ t. beyond (ltb-false k 25 t))
          where
            beyond : 25 ≤ k → get_or sums k 0 ≡ increased l (get_or export.energies k 0 + get_or import.energies k 0)
            beyond g =
                rw (get_or-eq_default sums 0 {n = k} (omega arith), get_or-eq_default export.energies 0 {n = k} (omega arith), get_or-eq_default import.energies 0 {n = k} (omega arith)) (increased-nothing l)

    -- that without one
    pub on-plain : (sums : List ℕ) → length sums ≡ 25 → length export.energies ≡ 25 → length import.energies ≡ 25
        → ((k : ℕ) → k < 25 → get_or sums k 0 ≡ get_or export.energies k 0 + get_or import.energies k 0) → export.given ≡ true → import.given ≡ true → l ≡ 0
        → limit_at (Some sums) h ≡ increased_sum l (border_sum (map notice_in ns) b h)
    on-plain sums m n o e x y p = on-border sums m n o (λ k i. e k i ∙ increased-none l _ p) x y

-- the ways out of the test for limit 12
pub ruleset border_laws = (off-domestic, off-borders, off-export, off-import, on-border, on-plain)

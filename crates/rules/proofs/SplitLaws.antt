-- Split: balances as differences of two flows, import as the mirror of export, and how large the market maximum can be.
use Prim.Native.Nat.{ℕ, zero, suc, ◌+◌, ◌*◌, ◌-◌, ◌≤◌, ◌<◌, min}
use mathlib.Core.Path.{◌≡◌, refl}
use mathlib.Core.Bool.{Bool, true, false, not}
use mathlib.Core.List.{List}
use native.Mathlib.Omega.{arith}
use native.Mathlib.Nat.{div-zero, div-lt_iff_lt-mul, mul-le-mul_right}
use lib.Dec.{ltb}
use lib.IntN.{ℤ, pos, negsuc, neg_ℤ, sub_ℕ}
use borrow.Author.Tests.{lt-ltb, le-ltb, ltb-true, ltb-false}
use Rattle.rules.specs.Lists.{round_up}
use Rattle.rules.specs.Match.{Holder, Offer}
use Rattle.rules.specs.Borders.{Directed, Execution, runs, at_border, flow, balance, market_balance, execution_balance, toward, positive}
use Rattle.rules.specs.Split.{net_capacity, claims, bilateral_part, market_maximum, legacy_flow, LegacyCounted, maximum_of}
use Rattle.rules.proofs.BoolLaws.{by_bool}
use Rattle.rules.proofs.SumLaws.{sum-two}

-- x exports less i imports, negated, is i less x
pub neg-sub : (x i : ℕ) → neg_ℤ (sub_ℕ x i) ≡ sub_ℕ i x
neg-sub x i =
    by_bool (ltb x i)
    (λ t. let h = ltb-true x i t in let q : suc (i - suc x) ≡ i - x = omega arith in rw (t, le-ltb i x (omega arith), q))
    (λ t. let h = ltb-false x i t in
    by_bool (ltb i x)
    (λ u. let k = ltb-true i x u in let q : x - i ≡ suc (x - suc i) = omega arith in rw (t, u, q))
    (λ u. let k = ltb-false i x u in let q : x - i ≡ 0 = omega arith in let p : i - x ≡ 0 = omega arith in rw (t, u, q, p)))

pub positive-sub : (x i : ℕ) → positive (sub_ℕ x i) ≡ x - i
unfolding positive
positive-sub x i = by_bool (ltb x i) (λ t. rw t (omega (arith, ltb-true x i t))) (λ t. rw t)

pub positive-neg : (x i : ℕ) → positive (neg_ℤ (sub_ℕ x i)) ≡ i - x
positive-neg x i = rw (neg-sub x i) (positive-sub i x)

-- "with B and M negated": import is export with the two flows exchanged
pub toward-import : (x i : ℕ) → toward false (sub_ℕ x i) ≡ sub_ℕ i x
unfolding toward
toward-import x i = neg-sub x i

-- a balance seen in a direction: the flow in it less the flow against it
pub toward-balance : {A : Type 0} (holder : A → Holder) (energy : A → ℕ) (border : ℕ) (export : Bool) (xs : List A)
    → toward export (balance holder energy border xs) ≡ sub_ℕ (flow holder energy border export xs) (flow holder energy border (not export) xs)
unfolding toward balance
toward-balance holder energy border true xs = refl
toward-balance holder energy border false xs = neg-sub (flow holder energy border true xs) (flow holder energy border false xs)

-- the maximum of either direction by flows in it and against it
pub maximum-by-flows : (os : List Offer) (xs : List Execution) (c : Directed)
    → (maximum_of os xs c).energy ≡ market_maximum c.energy
    (sub_ℕ (flow (λ x. x.holder) (λ x. x.energy) c.border c.export xs) (flow (λ x. x.holder) (λ x. x.energy) c.border (not c.export) xs))
    (sub_ℕ (flow (λ o. o.holder) (λ o. o.matched) c.border c.export os) (flow (λ o. o.holder) (λ o. o.matched) c.border (not c.export) os))
    (legacy_flow c.border c.export os)
unfolding maximum_of market_balance execution_balance
maximum-by-flows os xs c =
    rw (toward-balance (λ (x : Execution). x.holder) (λ x. x.energy) c.border c.export xs, toward-balance (λ (o : Offer). o.holder) (λ o. o.matched) c.border c.export os)

pub round-up-le : (a d k : ℕ) → a ≤ k * d → round_up a d ≤ k
unfolding round_up
round-up-le a zero k h = omega (arith, div-zero (a + (0 - 1)))
round-up-le a (suc d) k h = omega (arith, (div-lt_iff_lt-mul {k = suc d} {x = a + (suc d - 1)} {y = suc k} (omega arith)).1 (omega arith))

-- t is at most min(s, d), so that "a − t" never stops at 0
pub part-le : (B : ℤ) (s d : ℕ) → positive B ≤ d → bilateral_part B s d ≤ min s d
unfolding bilateral_part
part-le B s d h =
    by_bool (ltb 0 (positive B))
    (λ t. rw t (round-up-le (positive B * min s d) d (min s d) (omega (arith, mul-le-mul_right (min s d) h))))
    (λ t. rw t (omega arith))

-- "0 when B ≤ 0"
pub part_none : (B : ℤ) (s d : ℕ) → positive B ≡ 0 → bilateral_part B s d ≡ 0
unfolding bilateral_part
part_none B s d z = rw (le-ltb 0 (positive B) (omega arith))

-- "t = B × min(s, d) / d rounded up"
pub part-some : (B : ℤ) (s d : ℕ) → 0 < positive B → bilateral_part B s d ≡ round_up (positive B * min s d) d
unfolding bilateral_part
part-some B s d h = rw (lt-ltb 0 (positive B) h)

pub positive-le-claims : (B M : ℤ) (L : ℕ) → positive B ≤ claims B M L
unfolding claims
positive-le-claims B M L = omega arith

-- no market maximum passes the capacity and what executions against the direction free
pub maximum-le : (E : ℕ) (B M : ℤ) (L : ℕ) → market_maximum E B M L ≤ E + positive (neg_ℤ B)
unfolding market_maximum net_capacity
maximum-le E B M L = omega arith

pub maximum-all : (E : ℕ) (B M : ℤ) (L : ℕ) → positive B ≡ 0 → market_maximum E B M L ≡ E + positive (neg_ℤ B)
unfolding market_maximum net_capacity
maximum-all E B M L z = omega (arith, part_none B (E + positive (neg_ℤ B) - L) (claims B M L) z)

-- a balance runs one way only
one_way : (B : ℤ) → 0 < positive B → positive (neg_ℤ B) ≡ 0
unfolding positive
one_way (pos zero) h = refl
one_way (pos (suc n)) h = refl
one_way (negsuc n) h = absurd (omega arith)

pub maximum-within : (E : ℕ) (B M : ℤ) (L : ℕ) → 0 < positive B → market_maximum E B M L ≤ E
maximum-within E B M L h = omega (arith, maximum-le E B M L, one_way B h)

-- K2: L is a part of the market's exports, in border figures as they are
pub legacy-counted : LegacyCounted
unfolding legacy_flow flow
legacy-counted border export os =
    omega (arith, sum-two (λ o. at_border o.holder o.matched) (λ o. runs border export o.holder) (λ o. o.holder.legacy) os)

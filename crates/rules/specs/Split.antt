-- "Split": the market maximum of a border's direction, after the first match. ("Split" is document 01's term.)
use Rattle.std.specs.Prelude.{ℕ, ◌+◌, ◌*◌, ◌-◌, min, ◌≡◌, Bool, cond, not, List, ltb, ℤ, neg_ℤ}
use Rattle.rules.specs.Lists.{keep, round_up}
use Rattle.rules.specs.Match.{Offer}
use Rattle.rules.specs.Borders.{Directed, Execution, flow, market_balance, execution_balance, toward, positive}

-- "a = E + max(−B, 0)"
unfoldable pub net_capacity : ℕ → ℤ → ℕ
net_capacity E B = E + positive (neg_ℤ B)

-- "d = max(max(M, 0) − L, 0) + max(B, 0)"
unfoldable pub claims : ℤ → ℤ → ℕ → ℕ
claims B M L = (positive M - L) + positive B

-- "t = B × min(s, d) / d rounded up, and 0 when B ≤ 0"
unfoldable pub bilateral_part : ℤ → ℕ → ℕ → ℕ
bilateral_part B s d = cond (ltb 0 (positive B)) (round_up (positive B * min s d) d) 0

-- "Market export maximum: a − t", with "s = max(a − L, 0)". (Subtraction stops at 0; t is never above s.)
unfoldable pub market_maximum : ℕ → ℤ → ℤ → ℕ → ℕ
market_maximum E B M L =
    let a = net_capacity E B in
    a - bilateral_part B (a - L) (claims B M L)

-- "L matched legacy exports", or imports
unfoldable pub legacy_flow : ℕ → Bool → List Offer → ℕ
legacy_flow border export os = flow (λ o. o.holder) (λ o. o.matched) border export (keep (λ o. o.holder.legacy) os)

-- K2: "Balances, legacy exports [..] use that figure": L is the legacy part of the same flow, so in border figures as it is (`legacy-counted` of proofs/SplitLaws.antt)
abbrev pub LegacyCounted : Type 0
LegacyCounted = (border : ℕ) (export : Bool) (os : List Offer)
    → legacy_flow border export os + flow (λ o. o.holder) (λ o. o.matched) border export (keep (λ o. not o.holder.legacy) os)
    ≡ flow (λ o. o.holder) (λ o. o.matched) border export os

-- the market maximum of a direction with capacity c, of the first match os and the executions xs:
-- "For import, use the import capacity and legacy imports with B and M negated."
unfoldable pub maximum_of : List Offer → List Execution → Directed → Directed
maximum_of os xs c = record {
  border = c.border;
  export = c.export;
  energy = market_maximum c.energy (toward c.export (execution_balance c.border xs)) (toward c.export (market_balance c.border os))
      (legacy_flow c.border c.export os);
}

unfoldable pub unfold_split : Unit {0}
unfolding net_capacity claims bilateral_part market_maximum legacy_flow maximum_of
unfold_split = tt

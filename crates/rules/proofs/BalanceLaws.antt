-- Balances are differences of two flows: sums, excesses and comparisons of balances, said of the flows.
use Prim.Native.Nat.{ℕ, suc, ◌+◌, ◌-◌, ◌≤◌, ◌<◌}
use mathlib.Core.Path.{◌≡◌, refl, ap, ap₂, sym, ◌∙◌}
use mathlib.Core.Logic.{◌↔◌}
use mathlib.Core.Bool.{Bool, true, false, not}
use mathlib.Core.List.{List}
use native.Mathlib.Omega.{arith}
use lib.Dec.{ltb, le→leb, lt→ltb, ltb→lt}
use lib.IntN.{ℤ, pos, negsuc, sub_ℕ, ◌+ℤ◌, ◌-ℤ◌, neg_ℤ-+ℤ}
use lib.Signed.{◌≤ℤ◌, ◌<ℤ◌}
use borrow.Author.Tests.{lt-ltb, le-ltb, ltb-true, ltb-false}
use Rattle.rules.specs.Match.{Offer}
use Rattle.rules.specs.Borders.{Directed, Execution, flow, market_balance, execution_balance, toward, positive}
use Rattle.rules.specs.Withdrawal.{excess_of}
use Rattle.rules.specs.Executions.{bilateral_maximum, bilateral_excess}
unfoldable pub use Rattle.rules.specs.Demands.{crossing}
use Rattle.rules.proofs.BoolLaws.{by_bool}
use Rattle.rules.proofs.SplitLaws.{neg-sub, positive-sub, toward-balance}

-- Differences of naturals

-- equal differences
pub sub_same : (a b c d : ℕ) → a + d ≡ c + b → sub_ℕ a b ≡ sub_ℕ c d
sub_same a b c d h =
    by_bool (ltb a b)
    (λ t. let k = ltb-true a b t in rw (t, lt-ltb c d (omega arith)) (ap negsuc (omega arith)))
    (λ t. let k = ltb-false a b t in rw (t, le-ltb c d (omega arith)) (ap pos (omega arith)))

-- a natural is a difference
pub pos-sub : (a : ℕ) → pos a ≡ sub_ℕ a 0
pos-sub a = rw (le-ltb a 0 (omega arith)) (ap pos (omega arith))

-- the sum of two differences
pub add-sub : (a b c d : ℕ) → sub_ℕ a b +ℤ sub_ℕ c d ≡ sub_ℕ (a + c) (b + d)
add-sub a b c d =
    by_bool (ltb a b)
    (λ t. let h = ltb-true a b t in
    by_bool (ltb c d)
    (λ u. let k = ltb-true c d u in rw (t, u, lt-ltb (a + c) (b + d) (omega arith)) (ap negsuc (omega arith)))
    (λ u. let k = ltb-false c d u in rw (t, u) (sub_same (c - d) (suc (b - suc a)) (a + c) (b + d) (omega arith))))
    (λ t. let h = ltb-false a b t in
    by_bool (ltb c d)
    (λ u. let k = ltb-true c d u in rw (t, u) (sub_same (a - b) (suc (d - suc c)) (a + c) (b + d) (omega arith)))
    (λ u. let k = ltb-false c d u in rw (t, u, le-ltb (a + c) (b + d) (omega arith)) (ap pos (omega arith))))

-- and their difference
pub less-sub : (a b c d : ℕ) → sub_ℕ a b -ℤ sub_ℕ c d ≡ sub_ℕ (a + d) (b + c)
less-sub a b c d = ap (λ z. sub_ℕ a b +ℤ z) (neg-sub c d) ∙ add-sub a b d c

-- a difference within a natural
pub sub-le : (a b k : ℕ) → a ≤ b + k → sub_ℕ a b ≤ℤ pos k
sub-le a b k h =
    by_bool (ltb a b) (λ t. rw t (record { le = tt })) (λ t. let l = ltb-false a b t in rw t (record { le = le→leb (a - b) k (omega arith) }))

-- a difference that passes a natural
pub sub-gt : (a b k : ℕ) → (pos k <ℤ sub_ℕ a b) ↔ (b + k < a)
sub-gt a b k =
    by_bool (ltb a b)
    (λ t. let l = ltb-true a b t in rw t ((λ h. absurd h.lt), (λ h. absurd (omega arith))))
    (λ t. let l = ltb-false a b t in rw t ((λ h. omega (arith, ltb→lt k (a - b) h.lt)), (λ h. record { lt = lt→ltb k (a - b) (omega arith) })))

-- a difference that is a natural
pub sub_at : (a b k : ℕ) → a ≡ b + k → sub_ℕ a b ≡ pos k
sub_at a b k h = sub_same a b k 0 (omega arith) ∙ sym (pos-sub k)

-- by how far a difference passes a natural
positive-less : (x i k : ℕ) → positive (sub_ℕ x i -ℤ pos k) ≡ x - (i + k)
positive-less x i k =
    ap (λ z. positive (sub_ℕ x i -ℤ z)) (pos-sub k) ∙ ap positive (less-sub x i k 0) ∙ positive-sub (x + 0) (i + k) ∙ omega arith

-- by how far it passes a natural less another difference
positive-less-less : (x i f g k : ℕ) → positive (sub_ℕ x i -ℤ (pos k -ℤ sub_ℕ f g)) ≡ (f + x) - (g + i + k)
positive-less-less x i f g k =
    ap (λ z. positive (sub_ℕ x i -ℤ z)) (ap (λ z. z -ℤ sub_ℕ f g) (pos-sub k) ∙ less-sub k 0 f g)
    ∙ ap positive (less-sub x i (k + g) (0 + f)) ∙ positive-sub (x + (0 + f)) (i + (k + g)) ∙ omega arith

-- Flows and balances

-- what is matched at a border in a direction, as counted there
abbrev pub market_flow : ℕ → Bool → List Offer → ℕ
market_flow border export os = flow (λ o. o.holder) (λ o. o.matched) border export os

-- what is executed there
abbrev pub execution_flow : ℕ → Bool → List Execution → ℕ
execution_flow border export xs = flow (λ x. x.holder) (λ x. x.energy) border export xs

-- the market balance seen in a direction is the flow in it less the flow against it
pub market-toward : (border : ℕ) (export : Bool) (os : List Offer)
    → toward export (market_balance border os) ≡ sub_ℕ (market_flow border export os) (market_flow border (not export) os)
unfolding market_balance
market-toward border export os = toward-balance (λ o. o.holder) (λ o. o.matched) border export os

-- and the executions' balance
pub execution-toward : (border : ℕ) (export : Bool) (xs : List Execution)
    → toward export (execution_balance border xs) ≡ sub_ℕ (execution_flow border export xs) (execution_flow border (not export) xs)
unfolding execution_balance
execution-toward border export xs = toward-balance (λ x. x.holder) (λ x. x.energy) border export xs

-- a sum of balances seen in a direction
toward-add : (export : Bool) (m k : ℤ) → toward export (m +ℤ k) ≡ toward export m +ℤ toward export k
unfolding toward
toward-add true m k = refl
toward-add false m k = neg_ℤ-+ℤ m k

-- it is what flows in the direction less what flows against it
pub crossing-flows : (c : Directed) (os : List Offer) (xs : List Execution)
    → crossing c os xs ≡ sub_ℕ (market_flow c.border c.export os + execution_flow c.border c.export xs)
    (market_flow c.border (not c.export) os + execution_flow c.border (not c.export) xs)
unfolding crossing
crossing-flows c os xs =
    toward-add c.export (market_balance c.border os) (execution_balance c.border xs)
    ∙ ap₂ ◌+ℤ◌ (market-toward c.border c.export os) (execution-toward c.border c.export xs)
    ∙ add-sub (market_flow c.border c.export os) (market_flow c.border (not c.export) os)
    (execution_flow c.border c.export xs) (execution_flow c.border (not c.export) xs)

-- the market's excess over its maximum
pub excess-flows : (os : List Offer) (m : Directed)
    → (excess_of os m).energy ≡ market_flow m.border m.export os - (market_flow m.border (not m.export) os + m.energy)
unfolding excess_of
excess-flows os m =
    rw (market-toward m.border m.export os)
    (positive-less (market_flow m.border m.export os) (market_flow m.border (not m.export) os) m.energy)

-- the executions' excess over the bilateral maximum: by how far the sum with none cut passes the capacity
pub bilateral-flows : (os : List Offer) (xs : List Execution) (c : Directed)
    → bilateral_excess os xs c ≡ (market_flow c.border c.export os + execution_flow c.border c.export xs)
    - (market_flow c.border (not c.export) os + execution_flow c.border (not c.export) xs + c.energy)
unfolding bilateral_excess bilateral_maximum
bilateral-flows os xs c =
    rw (market-toward c.border c.export os, execution-toward c.border c.export xs)
    (positive-less-less (execution_flow c.border c.export xs) (execution_flow c.border (not c.export) xs)
    (market_flow c.border c.export os) (market_flow c.border (not c.export) os) c.energy)

-- the sum with none cut passes the capacity exactly when the executions have an excess
pub passes-excess : (c : Directed) (os : List Offer) (xs : List Execution) → (pos c.energy <ℤ crossing c os xs) ↔ (0 < bilateral_excess os xs c)
passes-excess c os xs =
    let k = sub-gt (market_flow c.border c.export os + execution_flow c.border c.export xs)
    (market_flow c.border (not c.export) os + execution_flow c.border (not c.export) xs) c.energy in
    rw (crossing-flows c os xs) ((λ h. omega (arith, k.0 h, bilateral-flows os xs c)), (λ h. k.1 (omega (arith, bilateral-flows os xs c))))

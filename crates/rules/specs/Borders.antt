-- Energy at a border: directions, border figures, flows, balances.
use Rattle.std.specs.Prelude.{ℕ, ◌+◌, ◌*◌, ◌-◌, ◌/◌, min, ◌≤◌, ◌≡◌, ◌↔◌, Bool, true, false, cond, ◌&&◌, List, [], ◌∷◌, eqb, ℤ, pos, negsuc, neg_ℤ}
use Rattle.std.specs.Bool.{beq}
use Rattle.std.proofs.Math.IntN.{sub_ℕ}
use Rattle.rules.specs.Lists.{keep, sum_of, round_up}
use Rattle.rules.specs.Units.{increased}
use Rattle.rules.specs.Match.{Holder, Offer}

-- What a border has in a direction: a capacity, a maximum or an excess.
pub record Directed : Type 0 where
  pub border : ℕ
  pub export : Bool
  pub energy : ℕ  -- as it counts at the border; K2: a border figure

-- An accepted execution in one hour.
pub record Execution : Type 0 where
  pub holder : Holder
  pub energy : ℕ

-- "At a border a sale is an import, a purchase an export."
unfoldable pub runs : ℕ → Bool → Holder → Bool
runs border export x = eqb x.border border && beq x.purchase export

-- K2: "A lodgement's export of e counts at the border as e × 10,000 / (10,000 + l) rounded up": the border figure of e
unfoldable pub border_figure : ℕ → ℕ → ℕ
border_figure l e = round_up (e * 10000) (10000 + l)

-- "rounded up": the least number that is no less than the quotient (`figure-rounded` of proofs/CrossingLaws.antt)
abbrev pub FigureRounded : Type 0
FigureRounded = (l e f : ℕ) → (border_figure l e ≤ f) ↔ (e * 10000 ≤ f * (10000 + l))

-- What the sum is increased for: the export of one lodgement is within the increased sum exactly where its border figure is within the sum (`figure-within`
-- of proofs/CrossingLaws.antt). Several, rounded up "each by itself", may pass it in border figures: a unit's limit 12 is of its energies.
abbrev pub FigureWithin : Type 0
FigureWithin = (l e s : ℕ) → (border_figure l e ≤ s) ↔ (e ≤ increased l s)

-- what is left of an energy when k of its border figure is taken. K2: "After a cut the lodgement keeps the largest energy, no more than was
-- matched or executed, that has the border figure left to it."
unfoldable pub kept_energy : ℕ → ℕ → ℕ → ℕ
kept_energy l e k = min e ((border_figure l e - k) * (10000 + l) / 10000)

-- At a loss of l, m is the largest energy, no more than e, that has the border figure g.
pub record Largest (l e g m : ℕ) : Type 0 where
  pub most : m ≤ e
  pub figure : border_figure l m ≡ g
  pub none_above : (j : ℕ) → j ≤ e → border_figure l j ≡ g → j ≤ m

-- `kept_energy` is what that sentence says: the theorem `kept-largest` of proofs/CrossingLaws.antt
abbrev pub KeptLargest : Type 0
KeptLargest = (l e k : ℕ) → Largest l e (border_figure l e - k) (kept_energy l e k)

-- what an energy of a holder counts for at its border: "each by itself". Imports and domestic energies count for themselves, since their loss is 0
-- (`Counted` of Losses.antt).
unfoldable pub at_border : Holder → ℕ → ℕ
at_border x e = border_figure x.loss e

-- what is left of an energy of a holder when k of what it counts for is taken
unfoldable pub keeps : Holder → ℕ → ℕ → ℕ
keeps x e k = kept_energy x.loss e k

-- the sum at a border, in a direction, of a list's energies as they count there. K2: "and sums add these figures. Balances, legacy exports, excesses
-- [..] use that figure"
unfoldable pub flow : {A : Type 0} → (A → Holder) → (A → ℕ) → ℕ → Bool → List A → ℕ
flow holder energy border export xs = sum_of (λ x. at_border (holder x) (energy x)) (keep (λ x. runs border export (holder x)) xs)

-- "each by itself, and sums add these figures" (`figures-added` of proofs/CrossingLaws.antt)
abbrev pub FiguresAdded : Type 1
FiguresAdded = (A : Type 0) (holder : A → Holder) (energy : A → ℕ) (border : ℕ) (export : Bool) → let sum = flow holder energy border export in
    (sum [] ≡ 0)
    × ((x : A) (xs : List A) → sum (x ∷ xs) ≡ cond (runs border export (holder x)) (border_figure (holder x).loss (energy x)) 0 + sum xs)

-- "exports less imports"
unfoldable pub balance : {A : Type 0} → (A → Holder) → (A → ℕ) → ℕ → List A → ℤ
balance holder energy border xs = sub_ℕ (flow holder energy border true xs) (flow holder energy border false xs)

unfoldable pub market_balance : ℕ → List Offer → ℤ
market_balance border os = balance (λ o. o.holder) (λ o. o.matched) border os

unfoldable pub execution_balance : ℕ → List Execution → ℤ
execution_balance border xs = balance (λ x. x.holder) (λ x. x.energy) border xs

-- a balance seen in a direction: as it is for export, negated for import
unfoldable pub toward : Bool → ℤ → ℤ
toward true z = z
toward false z = neg_ℤ z

-- max(z, 0)
unfoldable pub positive : ℤ → ℕ
positive (pos n) = n
positive (negsuc n) = 0

unfoldable pub unfold_borders : Unit {0}
unfolding runs border_figure kept_energy at_border keeps flow balance market_balance execution_balance toward positive
unfold_borders = tt

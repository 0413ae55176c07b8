-- K1's rights by the date and the calls: whatever the order of notices and registrations, a French unit has what was last accepted for its agent
-- and side, and its ceiling follows from that.
use Rattle.std.specs.Prelude.{ℕ, ◌+◌, ◌-◌, ◌≤◌, ◌≡◌, Bool, true, false, cond, ◌&&◌, List, [], ◌∷◌, eqb}
use Rattle.std.specs.Bool.{beq}
use Rattle.std.proofs.Math.Option.{Option, some, none}
use Rattle.rules.specs.Lists.{All, Some, hourly}
use Rattle.rules.specs.Refusals.{Row, first_row}
use Rattle.rules.specs.Hours.{Date}
use Rattle.rules.specs.Units.{Registered, loss_of, unit_loss, french_of, border_sum, increased, ceiling}
use Rattle.rules.specs.Book.{Book, lines_of}
use Rattle.rules.specs.DayBook.{Call, register, capacity, available, rights, loss, lodge, annul, close, clear, rows_of, effect, after, opening}

-- "A rights notice gives H energies for one agent and side and replaces the earlier one for the two"
unfoldable pub renewed : ℕ → Bool → Call → Option (List ℕ) → Option (List ℕ)
renewed agent purchase (rights a p es) last = cond (eqb a agent && beq p purchase) (some es) last
renewed agent purchase (register u) last = last
renewed agent purchase (capacity cs) last = last
renewed agent purchase (available n es) last = last
renewed agent purchase (loss border l) last = last
renewed agent purchase (lodge bytes) last = last
renewed agent purchase (annul k) last = last
renewed agent purchase close last = last
renewed agent purchase clear last = last

-- a refused call gives nothing
unfoldable pub unless_refused : {A : Type 0} → Option Row → A → A → A
unless_refused none new last = new
unless_refused (some r) new last = last

-- the last rights of an agent and side that were accepted along a list of calls from a book, `last` before it
unfoldable pub last_rights : ℕ → Bool → Book → List Call → Option (List ℕ) → Option (List ℕ)
last_rights agent purchase b [] last = last
last_rights agent purchase b (c ∷ cs) last =
    last_rights agent purchase (effect b c).book cs (unless_refused (first_row (rows_of b c)) (renewed agent purchase c last) last)

-- "without a notice they are 0"
unfoldable pub energy_of : Option (List ℕ) → ℕ → ℕ
energy_of none h = 0
energy_of (some es) h = hourly es h

-- after every list of calls
abbrev pub RightsLast : Type 0
RightsLast = (d : Date) (cs : List Call) (agent : ℕ) (purchase : Bool)
    → All (λ r. french_of agent purchase r.unit ≡ true → r.rights ≡ last_rights agent purchase (opening d).book cs none) (after (opening d).book cs).units

-- what last rights are to a unit's ceiling in an hour
pub record Ceilinged (b : Book) (last : Option (List ℕ)) (r : Registered) (h : ℕ) : Type 0 where
  -- "A marked unit's ceiling takes in the agent's rights."
  pub marked : r.unit.rights ≡ true → ceiling (lines_of b) r h ≤ energy_of last h
  -- "An unmarked one's border sum is lessened by them, never below 0." K2: a purchase unit's is increased first, "before rights come off".
  pub unmarked : (s : ℕ) → r.unit.rights ≡ false → border_sum b.capacities 1 h ≡ some s
      → ceiling (lines_of b) r h ≤ increased (unit_loss b.losses r.unit) s - energy_of last h

-- after every list of calls, in every hour (`rights-in-ceilings` of proofs/RightsLaws.antt)
abbrev pub RightsInCeilings : Type 0
RightsInCeilings = (d : Date) (cs : List Call) (agent : ℕ) (purchase : Bool) → let b = (after (opening d).book cs) in
    All (λ r. french_of agent purchase r.unit ≡ true → (h : ℕ) → Ceilinged b (last_rights agent purchase (opening d).book cs none) r h) b.units

-- So an agent's two French units of a side can have no more together than the border's sum, whatever the rights: of purchases the sum increased by the French
-- loss, of sales the sum as it is, since `increased 0 s` is s (`increased-plain` of proofs/CrossingLaws.antt). (`within-sum` of proofs/RightsLaws.antt)
abbrev pub WithinSum : Type 0
WithinSum = (d : Date) (cs : List Call) (agent : ℕ) (purchase : Bool) → let b = (after (opening d).book cs) in
    (q r : Registered) → Some (λ x. x ≡ q) b.units → Some (λ x. x ≡ r) b.units
    → french_of agent purchase q.unit ≡ true → french_of agent purchase r.unit ≡ true → q.unit.rights ≡ true → r.unit.rights ≡ false
    → (h s : ℕ) → border_sum b.capacities 1 h ≡ some s
    → ceiling (lines_of b) q h + ceiling (lines_of b) r h ≤ increased (cond purchase (loss_of b.losses 1) 0) s

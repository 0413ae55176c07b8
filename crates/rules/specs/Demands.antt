-- Demand 3: what is claimed of the book after every list of calls.
use Rattle.std.specs.Prelude.{ℕ, ◌+◌, ◌-◌, ◌≤◌, ◌<◌, ◌≡◌, ◌↔◌, Bool, true, false, cond, ◌&&◌, List, [], ◌∷◌, ◌++◌, map, eqb, ℤ, pos, ◌+ℤ◌, ◌≤ℤ◌, ◌<ℤ◌}
use Rattle.std.specs.Bool.{beq}
use Rattle.std.proofs.Math.Option.{some, none}
use Rattle.rules.specs.Lists.{All, Each, Each3, keep, sum, sum_of, hourly}
use Rattle.rules.specs.Hours.{Date}
use Rattle.rules.specs.Units.{Registered, capacity_of}
use Rattle.rules.specs.Lodging.{Lodgement, energy_at, is_hidden, passed_at}
use Rattle.rules.specs.Book.{Book, hours, limits_of, ceiling_of, frozen}
use Rattle.rules.specs.Judging.{Verdict, hidden, limit, is_accepted, class_by, is_before, verdict_among}
use Rattle.rules.specs.Closing.{closing_classes, judgements, accepted_at}
use Rattle.rules.specs.Share.{share}
use Rattle.rules.specs.Match.{Offer}
use Rattle.rules.specs.Borders.{Directed, Execution, runs, at_border, Largest, market_balance, execution_balance, toward}
use Rattle.rules.specs.Withdrawal.{Ends}
use Rattle.rules.specs.Executions.{bilateral_excess}
use Rattle.rules.specs.Clearing.{hour_of_day, figures_at, day_steps}
use Rattle.rules.specs.Queries.{matched_at, executed_at}
use Rattle.rules.specs.DayBook.{Call, Answer, close, clear, done, steps, after, answers, opening}

-- Closing

-- a standing lodgement's verdict
unfoldable pub verdict_of : Book → Lodgement → Verdict
verdict_of b l = verdict_among (judgements b) l.number

-- "normal executions, default executions, offers"
unfoldable pub class_of : Lodgement → ℕ
class_of l = class_by closing_classes l

-- "Unhidden lodgements are taken in this order: normal executions, default executions, offers; within each, latest number first"
unfoldable pub taken_before : Lodgement → Lodgement → Bool
taken_before k l = is_before closing_classes (λ l. l.number) k l

-- "that accepted before it on its unit": of those accepted at closing the ones of its unit that are taken before it
unfoldable pub accepted_before : Book → Lodgement → List Lodgement
accepted_before b l = keep (λ k. eqb k.key.unit l.key.unit && taken_before k l) (accepted_at b)

-- "its energy with that accepted before it on its unit"
unfoldable pub energy_with : Book → Lodgement → ℕ → ℕ
energy_with b l h = energy_at l h + sum_of (λ k. energy_at k h) (accepted_before b l)

-- in an hour of 1 to H that some energies name, a load passes a top
pub record Over (H : ℕ) (energies : List ℕ) (load top : ℕ → ℕ) (h : ℕ) : Type 0 where
  pub first : 1 ≤ h
  pub last : h ≤ H
  pub named : 0 < hourly energies h
  pub over : top h < load h

-- "in an hour it names, its energy with that accepted before it on its unit passes the ceiling"
abbrev pub Passes : Book → Lodgement → ℕ → Type 0
Passes b l h = Over (hours b) l.energies (energy_with b l) (ceiling_of b l.key.unit) h

-- "for 10 to 12 the lowest hour in which that limit is passed"; K1: 15 too, and "Places, not numbers, now give the order": of some limits n is the number of the first that is passed in an hour of 1 to H, and h the lowest such hour
pub data Chosen {A : Type 0} (number : A → ℕ) (H : ℕ) (passed : A → ℕ → Bool) (n h : ℕ) : List A → Type 0 where
  first-passed : {l : A} {ls : List A} → number l ≡ n → 1 ≤ h → h ≤ H → passed l h ≡ true
      → ((k : ℕ) → 1 ≤ k → k < h → passed l k ≡ false) → Chosen number H passed n h (l ∷ ls)
  later : {l : A} {ls : List A} → ((k : ℕ) → 1 ≤ k → k ≤ H → passed l k ≡ false)
      → Chosen number H passed n h ls → Chosen number H passed n h (l ∷ ls)

-- the limit and hour of a lodgement refused at closing
abbrev pub ChosenAt : Book → Lodgement → ℕ → ℕ → Type 0
ChosenAt b l n h = Chosen (λ L. L.number) (hours b) (passed_at l.energies (energy_with b l)) n h (limits_of b l.key.unit)

-- What closing gives a standing lodgement.
pub record Judgement (b : Book) (l : Lodgement) : Type 0 where
  -- "an unhidden lodgement standing at closing was refused there exactly when, in an hour it names, its energy with that
  -- accepted before it on its unit passes the ceiling"
  pub exactly : is_hidden b.standing l ≡ false → (is_accepted (verdict_of b l) ≡ false) ↔ ((h : ℕ) × Passes b l h)
  -- it is then refused by the first limit passed, in the lowest hour in which that limit is
  pub chosen : (n h : ℕ) → verdict_of b l ≡ limit n h → ChosenAt b l n h
  -- "hidden" is the verdict of the hidden ones, and of no other
  pub hiding : (verdict_of b l ≡ hidden) ↔ (is_hidden b.standing l ≡ true)

-- Clearing

-- what is matched on a side: "matched sales" (false), "matched purchases" (true)
unfoldable pub matched_on : Bool → List Offer → ℕ
matched_on side os = sum_of (λ o. o.matched) (keep (λ o. beq o.holder.purchase side) os)

-- "Market plus bilateral balance at each border", seen in a direction: "negated for import"
unfoldable pub crossing : Directed → List Offer → List Execution → ℤ
crossing c os xs = toward c.export (market_balance c.border os +ℤ execution_balance c.border xs)

-- An execution against what it was before the cut: the same holder, and no more energy.
pub record CutDown (before after : Execution) : Type 0 where
  pub holder : after.holder ≡ before.holder
  pub energy : after.energy ≤ before.energy

-- one that is not cut, if it runs at a border in a direction
pub record Uncut (border : ℕ) (export : Bool) (before after : Execution) : Type 0 where
  pub energy : runs border export before.holder ≡ true → after.energy ≡ before.energy

-- "Some execution there in a direction is cut": it has less energy after than before
pub data SomeCut (c : Directed) : List Execution → List Execution → Type 0 where
  this : {x y : Execution} {xs ys : List Execution} → runs c.border c.export x.holder ≡ true → y.energy < x.energy → SomeCut c (x ∷ xs) (y ∷ ys)
  another : {x y : Execution} {xs ys : List Execution} → SomeCut c xs ys → SomeCut c (x ∷ xs) (y ∷ ys)

-- the executions' energies in a direction, as they count at the border, 0 for the others
abbrev pub amounts_on : Directed → List Execution → List ℕ
amounts_on c xs = map (λ x. cond (runs c.border c.export x.holder) (at_border x.holder x.energy) 0) xs

-- what is taken of each execution's border figure in a direction, 0 for the others
unfoldable pub deducted : Directed → List Execution → List Execution → List ℕ
deducted c [] ys = []
deducted c (x ∷ xs) [] = []
deducted c (x ∷ xs) (y ∷ ys) =
    cond (runs c.border c.export x.holder) (at_border x.holder x.energy - at_border y.holder y.energy) 0 ∷ deducted c xs ys

-- K2: "After a cut the lodgement keeps the largest energy, no more than was [..] executed, that has the border figure left to it.": x that runs in a
-- direction and loses k there, and y that is left
abbrev pub KeepsLargest : Directed → Execution → ℕ → Execution → Type 0
KeepsLargest c x k y = runs c.border c.export x.holder ≡ true → Largest x.holder.loss x.energy (at_border x.holder x.energy - k) y.energy

-- What holds at a border in a direction with a capacity, of the final offers, the executions, and the executions after cuts.
pub record BorderCleared (c : Directed) (os : List Offer) (before after : List Execution) : Type 0 where
  -- "Market plus bilateral balance at each border keeps within each published capacity." K2: "in border figures"
  pub within : crossing c os after ≤ℤ pos c.energy
  -- "Some execution there in a direction is cut [..] exactly when the sum with none cut would pass that direction's capacity"
  pub cut : SomeCut c before after ↔ (pos c.energy <ℤ crossing c os before)
  -- "and the cut sum then stands at it"
  pub stands : pos c.energy <ℤ crossing c os before → crossing c os after ≡ pos c.energy
  -- "by the papers' Share": R is at most G, and each loses what Share takes from it
  pub enough : bilateral_excess os before c ≤ sum (amounts_on c before)
  pub shared : deducted c before after ≡ share (bilateral_excess os before c) (amounts_on c before)
  -- and each keeps the largest energy with what Share leaves of its border figure
  pub largest : Each3 (KeepsLargest c) before (share (bilateral_excess os before c) (amounts_on c before)) after

-- the executions accepted at closing, in an hour, "with none cut"
abbrev pub executions_at : Book → ℕ → List Execution
executions_at b h = (hour_of_day b (accepted_at b) h).executions

-- a unit's accepted executions in an hour: what `executed_at` would be "with none cut"
unfoldable pub accepted_executed : Book → ℕ → ℕ → ℕ
accepted_executed b u h = sum_of (λ x. x.energy) (keep (λ x. eqb x.holder.unit u) (executions_at b h))

-- A unit that is cut in an hour: at a border, of the side that runs in a direction, and with less executed than accepted.
pub record UnitCut (b : Book) (c : Directed) (h : ℕ) (r : Registered) : Type 0 where
  pub border : r.unit.border ≡ c.border
  pub purchase : r.unit.purchase ≡ c.export
  pub less : executed_at b r.unit.number h < accepted_executed b r.unit.number h

-- What holds in an hour after clearing.
pub record Cleared (b : Book) (h : ℕ) : Type 0 where
  -- "Matched sales equal matched purchases"
  pub balanced : matched_on false (figures_at b h).offers ≡ matched_on true (figures_at b h).offers
  -- "and no unit's energy passes its ceiling": "A unit's energy is matched plus executed, after cuts."
  pub ceilings : (u : ℕ) → matched_at b u h + executed_at b u h ≤ ceiling_of b u h
  -- no execution gains by the cut
  pub executions : Each CutDown (executions_at b h) (figures_at b h).executions
  -- "while a market balance passes its maximum": at the end none does
  pub withdrawal : Ends (figures_at b h).maxima (hour_of_day b (accepted_at b) h).offers (record { offers = (figures_at b h).offers; steps = (figures_at b h).steps })
  -- "Market plus bilateral balance at each border keeps within each published capacity", and what is cut there: at each of
  -- the 4 borders in each direction for which the notice has energies es
  pub borders : (border : ℕ) (export : Bool) (es : List ℕ) → 1 ≤ border → border ≤ 4 → capacity_of b.capacities border export ≡ some es
      → BorderCleared (record { border = border; export = export; energy = hourly es h }) (figures_at b h).offers (executions_at b h) (figures_at b h).executions
  -- "Absent means no maximum": in a direction without capacity no execution is cut
  pub uncut : (border : ℕ) (export : Bool) → capacity_of b.capacities border export ≡ none → Each (Uncut border export) (executions_at b h) (figures_at b h).executions

-- Lists of calls

-- a book that lists of calls start from: "from a fresh session"
pub data Begins : Book → Type 0 where
  opened : (d : Date) → Begins (opening d).book

-- one of the calls of a list is c, and its answer a
pub data Got {A : Type 0} (c : Call) (a : A) : List Call → List A → Type 0 where
  now : {cs : List Call} {rs : List A} → Got c a (c ∷ cs) (a ∷ rs)
  next : {d : Call} {e : A} {cs : List Call} {rs : List A} → Got c a cs rs → Got c a (d ∷ cs) (e ∷ rs)

-- "If closing was accepted"
abbrev pub ClosingAccepted : List Call → List Answer → Type 0
ClosingAccepted cs rs = Got close done cs rs

-- "If clearing was accepted": it "answers the step count"
abbrev pub ClearingAccepted : List Call → List Answer → Type 0
ClearingAccepted cs rs = (n : ℕ) × Got clear (steps n) cs rs

-- The stage of the book at a list's end, by the list's answers: it is closed exactly where closing was accepted, cleared exactly
-- where clearing was, and the steps answered then are the book's.
pub record Staged (b : Book) (cs : List Call) (rs : List Answer) : Type 0 where
  pub closed : ClosingAccepted cs rs ↔ (b.closed ≡ true)
  pub cleared : ClearingAccepted cs rs ↔ (b.cleared ≡ true)
  pub counted : (n : ℕ) → Got clear (steps n) cs rs → n ≡ day_steps b

-- "Demand 3's ceilings and published capacities [..] are by the book's notices at closing; the lodgements it has then are those
-- standing at closing": one of the calls found the book open and closed it, and the book at the list's end still has what that
-- call found and froze: date, units, notices, losses, standing lodgements and last number.
pub record ClosedIn (start : Book) (cs : List Call) : Type 0 where
  pub earlier : List Call
  pub rest : List Call
  pub calls : cs ≡ earlier ++ (close ∷ rest)
  pub found : (after start earlier).closed ≡ false
  pub same : frozen (after start cs) ≡ frozen (after start earlier)
  pub stage : (after start cs).closed ≡ true

-- Demand 3, of a list of calls and the book at its end. K2: "Border balances keep within capacity in border figures, and demand 3 is owed over lists that set
-- losses too." (`loss` of `Call`).
pub record BookDemand3 (start : Book) (cs : List Call) : Type 0 where
  pub stage : Staged (after start cs) cs (answers start cs)
  -- "If closing was accepted"
  pub found : ClosingAccepted cs (answers start cs) → ClosedIn start cs
  pub closing : ClosingAccepted cs (answers start cs) → All (Judgement (after start cs)) (after start cs).standing
  -- "If clearing was accepted too, all that follows holds in each hour."
  pub clearing : ClearingAccepted cs (answers start cs) → (h : ℕ) → 1 ≤ h → h ≤ hours (after start cs) → Cleared (after start cs) h

-- Demand 3, of a session: what holds after every list of calls, of its answers and of what its queries then reply. The book is
-- fed the date and the calls' arguments, never the session.
use Rattle.std.specs.Prelude.{ℕ, ◌+◌, ◌≤◌, ◌<◌, ◌≡◌, ◌↔◌, Bool, true, false, List, map, eqb, ℤ, pos, ◌+ℤ◌, ◌≤ℤ◌, ◌<ℤ◌}
use Rattle.std.specs.Bool.{beq}
use Rattle.std.proofs.Math.Option.{some, none}
use Rattle.rules.specs.Lists.{All, Some, Each, keep, sum_of, hourly}
use Rattle.rules.specs.Units.{Registered, capacity_of, ceiling}
use Rattle.rules.specs.Lodging.{Lodgement, is_hidden}
use Rattle.rules.specs.Book.{Book, hours, lines_of}
use Rattle.rules.specs.Borders.{positive, toward, execution_balance}
use Rattle.rules.specs.Queries as Q
use Rattle.rules.specs.DayBook as D
use Rattle.rules.specs.Demands.{Got, ClosedIn, Passes, ChosenAt, CutDown, BorderCleared, executions_at, accepted_executed}
use Rattle.rules.specs.Clearing.{figures_at, day_steps}
use Rattle.answer.specs.Told.{told, shown, accepted, hidden, limit, steps}
use Rattle.answer.specs.declared.Response.{Response}
use Rattle.session.specs.declared.Session.{Session}
use Rattle.book.specs.Runs.{Ran, Started}
use Rattle.query.specs.Replies.{Answered}

-- What the session's queries reply: a reply for each query, of which that query's own contract holds. (A number that no
-- function's argument can hold is a query here too; the claim is then wider, and such a reply can be had from the book.)
abbrev pub Asked : Session → (Q.Query → Response) → Type 0
Asked t response = (q : Q.Query) → Answered t q (response q)

-- a figure that is an energy
unfoldable pub energy_in : Response → ℕ
energy_in r = positive r.value

unfoldable pub is_acceptance : Response → Bool
is_acceptance r = eqb r.kind 0

module _ (b : Book) (response : Q.Query → Response) where
  -- Closing: the reply to the query of a standing lodgement's verdict
  pub record VerdictReply (l : Lodgement) : Type 0 where
    -- "an unhidden lodgement standing at closing was refused there exactly when, in an hour it names, its energy with that
    -- accepted before it on its unit passes the ceiling"
    pub exactly : is_hidden b.standing l ≡ false → (is_acceptance (response (Q.verdict l.number)) ≡ false) ↔ ((h : ℕ) × Passes b l h)
    -- one that was refused is told so by a limit and an hour,
    pub refused : is_hidden b.standing l ≡ false → is_acceptance (response (Q.verdict l.number)) ≡ false → (n : ℕ) × (h : ℕ) × (response (Q.verdict l.number) ≡ limit n h)
    -- the first limit passed and the lowest hour in which it is
    pub chosen : (n h : ℕ) → response (Q.verdict l.number) ≡ limit n h → ChosenAt b l n h
    -- a hidden one is told so, and no other
    pub hiding : (response (Q.verdict l.number) ≡ hidden) ↔ (is_hidden b.standing l ≡ true)

  -- Clearing, in an hour
  module _ (h : ℕ) where
    -- what the queries reply of a unit
    abbrev pub matched_of : Registered → ℕ
    matched_of r = energy_in (response (Q.matched r.unit.number h))

    abbrev pub executed_of : Registered → ℕ
    executed_of r = energy_in (response (Q.executed r.unit.number h))

    -- "Market plus bilateral balance" at a border, seen in a direction
    abbrev pub crossing_at : ℕ → Bool → ℤ
    crossing_at border export = toward export ((response (Q.market border h)).value +ℤ (response (Q.bilateral border h)).value)

    -- "The sum with none cut is the final market balance plus that of all accepted executions, negated for import."
    abbrev pub uncut_at : ℕ → Bool → ℤ
    uncut_at border export = toward export ((response (Q.market border h)).value +ℤ execution_balance border (executions_at b h))

    -- "Some execution there in a direction is cut": a unit there and in that direction executes less than was accepted
    pub record IsCut (border : ℕ) (export : Bool) (r : Registered) : Type 0 where
      pub there : r.unit.border ≡ border
      pub direction : r.unit.purchase ≡ export
      pub less : executed_of r < accepted_executed b r.unit.number h

    -- at a border in a direction with a capacity
    pub record Carried (border : ℕ) (export : Bool) (capacity : ℕ) : Type 0 where
      -- "Market plus bilateral balance at each border keeps within each published capacity."
      pub within : crossing_at border export ≤ℤ pos capacity
      -- "Some execution there in a direction is cut [..] exactly when the sum with none cut would pass that direction's capacity"
      pub cut : Some (IsCut border export) b.units ↔ (pos capacity <ℤ uncut_at border export)
      -- "and the cut sum then stands at it"
      pub stands : pos capacity <ℤ uncut_at border export → crossing_at border export ≡ pos capacity
      -- "by the papers' Share": each execution loses what Share takes from it
      pub share : BorderCleared (record { border = border; export = export; energy = capacity }) (figures_at b h).offers (executions_at b h) (figures_at b h).executions

    pub record Holds : Type 0 where
      -- "Matched sales equal matched purchases"
      pub balanced : sum_of matched_of (keep (λ r. beq r.unit.purchase false) b.units) ≡ sum_of matched_of (keep (λ r. beq r.unit.purchase true) b.units)
      -- no execution gains by the cut, and no unit executes more than was accepted
      pub executions : Each CutDown (executions_at b h) (figures_at b h).executions
      pub gains : All (λ r. executed_of r ≤ accepted_executed b r.unit.number h) b.units
      -- "and no unit's energy passes its ceiling": "matched plus executed, after cuts"
      pub ceilings : All (λ r. matched_of r + executed_of r ≤ ceiling (lines_of b) r h) b.units
      -- the borders, for each direction given energies es by the last notice
      pub borders : (border : ℕ) (export : Bool) (es : List ℕ) → 1 ≤ border → border ≤ 4 → capacity_of b.capacities border export ≡ some es
          → Carried border export (hourly es h)
      -- "Absent means no maximum": in a direction without capacity none is cut
      pub uncut : (border : ℕ) (export : Bool) → capacity_of b.capacities border export ≡ none → Some (IsCut border export) b.units → ⊥

-- "If closing was accepted"
abbrev pub ClosingAccepted : List D.Call → List Response → Type 0
ClosingAccepted cs rs = Got D.close accepted cs rs

-- "If clearing was accepted": it "answers the step count"
abbrev pub ClearingAccepted : List D.Call → List Response → Type 0
ClearingAccepted cs rs = (n : ℕ) × Got D.clear (steps n) cs rs

-- The stage of the book at a list's end, by the list's answers, as the rules' `Staged` says it of the book's.
pub record Staged (b : Book) (cs : List D.Call) (rs : List Response) : Type 0 where
  pub closed : ClosingAccepted cs rs ↔ (b.closed ≡ true)
  pub cleared : ClearingAccepted cs rs ↔ (b.cleared ≡ true)
  pub counted : (n : ℕ) → Got D.clear (steps n) cs rs → n ≡ day_steps b

-- What holds after some calls from a book; `D.after start cs` is the book after them.
pub record Demand3 (start : Book) (cs : List D.Call) (rs : List Response) (response : Q.Query → Response) : Type 0 where
  -- "every answer [..] is that of document 01's day book"
  pub answers : rs ≡ map told (D.answers start cs)
  -- "and each verdict and figure at the list's end"
  pub figures : (q : Q.Query) → response q ≡ shown (Q.query (D.after start cs) q)
  -- the book is closed exactly where an answer says that closing was accepted, cleared exactly where one says it of clearing
  pub stage : Staged (D.after start cs) cs rs
  -- "Demand 3's ceilings and published capacities [..] are by the book's notices at closing; the lodgements it has then are
  -- those standing at closing": the book at the list's end still holds what the call that closed it found
  pub found : ClosingAccepted cs rs → ClosedIn start cs
  -- "If closing was accepted"
  pub closing : ClosingAccepted cs rs → All (VerdictReply (D.after start cs) response) (D.after start cs).standing
  -- "If clearing was accepted too, all that follows holds in each hour."
  pub clearing : ClearingAccepted cs rs → (h : ℕ) → 1 ≤ h → h ≤ hours (D.after start cs) → Holds (D.after start cs) response h

-- Demand 3: for every session that lists of calls start from and every list, each call on the session the last one left, and
-- whatever the queries of the session at the list's end answer
abbrev pub Demanded : Type 0
Demanded = (s : Session) (b : Book) (cs : List D.Call) (t : Session) (rs : List Response) (response : Q.Query → Response)
    → Started s b → Ran s cs t rs → Asked t response → Demand3 b cs rs response

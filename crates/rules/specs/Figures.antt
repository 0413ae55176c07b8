-- "Figures to hold against the rules": the twelve, of the definitions together, as one list; that each holds is the theorem `twelve-hold` of
-- proofs/FigureLaws.antt.
use Rattle.std.specs.Prelude.{ℕ, ◌≡◌, Bool, true, false, List, [], ◌∷◌, ◌++◌, map, replicate, ℤ, pos, neg_ℤ, ◌+ℤ◌}
use Rattle.std.proofs.Math.Option.{some, none}
use Rattle.rules.specs.Refusals.{Outcome, given}
use Rattle.rules.specs.Hours.{Date, Clock, hours_at, clock_of}
use Rattle.rules.specs.Message.{Fields, form1, encode, read, write}
use Rattle.rules.specs.Book.{Book}
use Rattle.rules.specs.Share.{share}
use Rattle.rules.specs.Borders.{market_balance, execution_balance}
use Rattle.rules.specs.Split.{market_maximum}
use Rattle.rules.specs.Clearing.{figures_at}
use Rattle.rules.specs.Queries.{Query, Shown, number, matched, executed, market, bilateral, market_max, query}
use Rattle.rules.specs.DayBook.{Call, Answer, register, capacity, lodge, close, clear, done, numbered, steps, after, answers, opening}

-- A figure: what the definitions give, and what document 01 states.
pub record Figure : Type 1 where
  pub Value : Type 0
  pub found : Value
  pub stated : Value

-- every figure of a list is the one stated
abbrev pub Hold : List Figure → Type 0
Hold [] = Unit {0}
Hold (f ∷ fs) = (f.found ≡ f.stated) × Hold fs

abbrev figure : {A : Type 0} → A → A → Figure
figure {A} found stated = record { Value = A; found = found; stated = stated }

abbrev date : ℕ → ℕ → ℕ → Date
date y m d = record { year = y; month = m; day = d }

-- 1. "Offer, unit 7, hour 3: 120 at 4,500; hour 4: 95 at 4,400."
abbrev offer1 : Fields
offer1 = record {
  key = record { execution = false; default = false; unit = 7; contract = 0 };
  map = 0b0011000000000000000000000;
  energies = 0 ∷ 0 ∷ 120 ∷ 95 ∷ replicate 21 0;
  prices = 0 ∷ 0 ∷ 4500 ∷ 4400 ∷ replicate 21 0;
}

abbrev bytes1 : List ℕ
bytes1 =
    0x10 ∷ 0x00 ∷ 0x0E ∷ 0x00 ∷ 0x00 ∷ 0x60 ∷ 0x00 ∷ 0x00 ∷ 0x00 ∷ 0x3C ∷ 0x11 ∷ 0x94 ∷ 0x00 ∷ 0x2F ∷ 0x91 ∷ 0x30 ∷ []

abbrev clock : ℕ → Bool → Clock
clock name second = record { name = name; second = second }

-- A day's calls handed to the book, here alone: the answers to opening and to each call, and the book at their end.
pub record Played : Type 0 where
  pub answers : List Answer
  pub book : Book

abbrev pub played : Date → List Call → Played
played d calls = record { answers = (opening d).answer ∷ answers (opening d).book calls; book = after (opening d).book calls }

-- A whole day: those answers, then what the queries show at its end.
pub record Day : Type 0 where
  pub answers : List Answer
  pub shown : List (Outcome Shown)

abbrev pub day_of : Played → List Query → Day
day_of p queries = record { answers = p.answers; shown = map (query p.book) queries }

-- 11 and 12 stand in hour 1 of 2006-06-01.
abbrev unit : ℕ → ℕ → Bool → Call
unit n border purchase = register (record { number = n; agent = n; border = border; purchase = purchase; maximum = 99999; legacy = false; rights = false })

abbrev first_hour : Bool → ℕ → ℕ → ℕ → ℕ → Call
first_hour execution u contract e p =
    lodge (encode form1 (record { key = record { execution = execution; default = false; unit = u; contract = contract }; map = 0b1000000000000000000000000; energies = e ∷ replicate 24 0; prices = p ∷ replicate 24 0 }))

-- "Domestic sale 300 at 3,000, French purchase 150 at 5,000, domestic purchase 100 at 4,000, E 100, import absent"
abbrev calls11 : List Call
calls11 =
    unit 1 0 false ∷ unit 2 1 true ∷ unit 3 0 true ∷ unit 4 1 true
    ∷ capacity (some (replicate 24 100) ∷ replicate 7 none)
    ∷ first_hour false 1 0 300 3000 ∷ first_hour false 2 0 150 5000 ∷ first_hour false 3 0 100 4000 ∷ []

abbrev day11 : Played
day11 = played (date 2006 6 1) (calls11 ++ (close ∷ clear ∷ []))

-- "another agent's French export execution of 60"
abbrev day12 : Played
day12 = played (date 2006 6 1) (calls11 ++ (first_hour true 4 9 60 0 ∷ close ∷ clear ∷ []))

-- the two final balances of a border together
abbrev balances_sum : Book → ℕ → ℕ → ℤ
balances_sum b border h = market_balance border (figures_at b h).offers +ℤ execution_balance border (figures_at b h).executions

abbrev energy : ℕ → Outcome Shown
energy n = given (number (pos n))

abbrev pub twelve : List Figure
twelve =
    figure {A = Outcome (List ℕ) × Outcome Fields} (write 16 offer1, read bytes1) (given bytes1, given offer1)
    ∷ figure (map hours_at (date 2006 10 29 ∷ date 2006 3 26 ∷ date 2006 6 1 ∷ [])) (given 25 ∷ given 23 ∷ given 24 ∷ [])
    ∷ figure (clock_of 25 3 ∷ clock_of 25 4 ∷ clock_of 23 3 ∷ []) (clock 2 false ∷ clock 2 true ∷ clock 3 false ∷ [])
    ∷ figure (market_maximum 100 (pos 60) (pos 80) 0) 57
    ∷ figure (market_maximum 100 (pos 60) (pos 80) 40) 64
    ∷ figure (market_maximum 100 (neg_ℤ (pos 30)) (pos 200) 0) 130
    ∷ figure (market_maximum 100 (pos 0) (pos 0) 0) 100
    ∷ figure (market_maximum 100 (pos 20) (pos 30) 0) 80
    ∷ figure (market_maximum 100 (pos 60) (pos 150) 120) 100
    ∷ figure (share 10 (7 ∷ 7 ∷ 7 ∷ [])) (4 ∷ 3 ∷ 3 ∷ [])
    ∷ figure (day_of day11 (matched 2 1 ∷ market 1 1 ∷ []))
    (record {
      answers = replicate 6 done ++ (numbered 1 ∷ numbered 2 ∷ numbered 3 ∷ done ∷ steps 1 ∷ []);
      shown = energy 100 ∷ energy 100 ∷ [];
    })
    ∷ figure {A = Day × ℤ} (
      day_of day12 (market_max 1 true 1 ∷ executed 4 1 ∷ market 1 1 ∷ bilateral 1 1 ∷ []),
      balances_sum day12.book 1 1,
    ) (
      record {
        answers = replicate 6 done ++ (numbered 1 ∷ numbered 2 ∷ numbered 3 ∷ numbered 4 ∷ done ∷ steps 1 ∷ []);
        shown = energy 71 ∷ energy 29 ∷ energy 71 ∷ energy 29 ∷ [];
      },
      pos 100,
    )
    ∷ []

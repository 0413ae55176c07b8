-- What `run`, `replay_on` and `replay` promise: of the calls of a log, every answer and the session at their end are the day book's. What
-- demand 3 says of that book is specs/Demand3.antt.
use Rattle.std.specs.Prelude.{ℕ, ◌+◌, ◌-◌, ◌≤◌, ◌≡◌, true, false, List, ◌++◌, map, length, drop, get_or, Option, MatchOption}
use Rattle.rules.specs.Hours.{Date}
use Rattle.rules.specs.Book.{Book}
use Rattle.rules.specs.DayBook as D
use Rattle.session.specs.Image.{image, Sound}
use Rattle.answer.specs.Told.{told}
use Rattle.session.specs.Steps.{Met}
use Rattle.session.specs.Parts.{refused_with}
use Rattle.session.specs.declared.Effect.{Effect}
use Rattle.session.specs.declared.Session.{Session}
use Rattle.rules.specs.declared.row.Row.TheVariants.{Form}
use Rattle.answer.specs.Refused.{of_row}
use Rattle.book_log.specs.Calls.{is_call, call_of, starts, size_of, calls_in, bytes_in, answer_word}
use Rattle.book_log.specs.Kinds.{number_of}
use Rattle.book.specs.declared.Head.{Head}
use Rattle.book.specs.declared.Reached.{Reached}
use Rattle.book.specs.declared.Replayed.{Replayed}

-- an answer of the book as it is written down
unfoldable pub word_of : D.Answer → ℕ
word_of a = answer_word (told a)

-- what a log starts with: the head of a call's whole record, or no such record
abbrev pub StartsWith : List ℕ → Option Head → Type 0
StartsWith log head =
    MatchOption head (starts log ≡ false) (λ h. (starts log ≡ true) × (number_of h.kind ≡ get_or log 0 0) × (h.size ≡ size_of log))

-- of one record: the call's own promise, or a refusal
pub record RunsRecord (s : Session) (kind : ℕ) (p : List ℕ) (r : Effect) : Type 0 where
  pub call : is_call kind (length p) ≡ true → Met s (call_of kind p) r
  pub none : is_call kind (length p) ≡ false → r ≡ refused_with s (of_row Form)

-- of a book, a log, room for N answers, what stood there and what stands there now
pub record Reruns (b : Book) (log : List ℕ) (N : ℕ) (old words : List ℕ) (r : Reached) : Type 0 where
  -- how many calls were run, as many as there is room for, and the bytes of their records
  pub calls : r.calls ≡ length (calls_in N log)
  pub read : r.read ≡ bytes_in N log
  -- the session stands for the day book, and every answer is the book's
  pub session : r.session ≡ image (D.after b (calls_in N log))
  pub answers : words ≡ map word_of (D.answers b (calls_in N log)) ++ drop r.calls old

-- from a session: of every book that it stands for
pub record ReplaysOn (s : Session) (log : List ℕ) (N : ℕ) (old words : List ℕ) (r : Reached) : Type 0 where
  pub book : (b : Book) → Sound b → s ≡ image b → Reruns b log N old words r

-- from the fresh session of a date
pub record Replays (d : Date) (log : List ℕ) (N : ℕ) (old words : List ℕ) (r : Replayed) : Type 0 where
  -- the date's answer
  pub opened : r.opened ≡ told (D.opening d).answer
  pub run : Reruns (D.opening d).book log N old words r.run

-- some of the calls were run, from a session that stands for a book: n of them, their records ending at `at`
pub record Running (b : Book) (log : List ℕ) (N : ℕ) (old : List ℕ) (s : Session) (at n : ℕ) (words : List ℕ) : Type 0 where
  pub done : List D.Call
  pub many : length done ≡ n
  pub room : n ≤ N
  pub far : at ≤ length log
  pub ahead : calls_in N log ≡ done ++ calls_in (N - n) (drop at log)
  pub bytes : bytes_in N log ≡ at + bytes_in (N - n) (drop at log)
  pub sound : Sound (D.after b done)
  pub session : s ≡ image (D.after b done)
  pub answers : words ≡ map word_of (D.answers b done) ++ drop n old

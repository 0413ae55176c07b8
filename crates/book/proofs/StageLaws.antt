-- What a list's answers tell of its stage, as the rules say it of the book's own answers.
use Prim.Native.Nat.{ℕ}
use mathlib.Core.Path.{◌≡◌, refl, ap, sym}
use mathlib.Core.List.{List, [], ◌∷◌, map}
use native.Mathlib.Omega.{arith}
use lib.ListN.{length}
use Rattle.rules.specs.Book.{Book}
use Rattle.rules.specs.DayBook as D
use Rattle.rules.specs.Demands.{Got, now, next}
use Rattle.rules.specs.Demands as M
use Rattle.answer.specs.Told.{told, accepted, steps}
use Rattle.answer.specs.declared.Response.{Response}
use Rattle.book.specs.Demand3.{ClosingAccepted, Staged}

-- an answer that is told is one of the told answers
told-got : {c : D.Call} {a : D.Answer} {cs : List D.Call} {rs : List D.Answer} → Got c a cs rs → Got c (told a) cs (map told rs)
told-got now = now
told-got (next g) = next (told-got g)

abbrev first : List Response → Response
first [] = accepted
first (w ∷ ws) = w

abbrev rest : List Response → List Response
rest [] = []
rest (w ∷ ws) = ws

-- and where no other answer is told so, it is that answer
got-told : {c : D.Call} (a : D.Answer) {cs : List D.Call} (rs : List D.Answer) {ws : List Response} {w : Response}
    → ((x : D.Answer) → told x ≡ w → x ≡ a) → ws ≡ map told rs → Got c w cs ws → Got c a cs rs
got-told a [] only f now = absurd (omega (arith, ap (λ (l : List Response). length l) f))
got-told a (x ∷ rs) only f now = let k : x ≡ a = only x (sym (ap first f)) in rw k now
got-told a [] only f (next g) = absurd (omega (arith, ap (λ (l : List Response). length l) f))
got-told a (x ∷ rs) only f (next g) = next (got-told a rs only (ap rest f) g)

only-done : (x : D.Answer) → told x ≡ accepted → x ≡ D.done
unfolding told
only-done (D.refusal n h) e = let z : ◌≡◌ {A = ℕ} 1 0 = ap (λ (r : Response). r.kind) e in absurd (omega arith)
only-done D.done e = refl
only-done (D.numbered n) e = let z : ◌≡◌ {A = ℕ} 2 0 = ap (λ (r : Response). r.kind) e in absurd (omega arith)
only-done (D.steps n) e = let z : ◌≡◌ {A = ℕ} 3 0 = ap (λ (r : Response). r.kind) e in absurd (omega arith)

only-steps : (n : ℕ) (x : D.Answer) → told x ≡ steps n → x ≡ D.steps n
unfolding told
only-steps n (D.refusal m h) e = let z : ◌≡◌ {A = ℕ} 1 3 = ap (λ (r : Response). r.kind) e in absurd (omega arith)
only-steps n D.done e = let z : ◌≡◌ {A = ℕ} 0 3 = ap (λ (r : Response). r.kind) e in absurd (omega arith)
only-steps n (D.numbered m) e = let z : ◌≡◌ {A = ℕ} 2 3 = ap (λ (r : Response). r.kind) e in absurd (omega arith)
only-steps n (D.steps m) e = ap D.steps (ap (λ (r : Response). r.count) e)

pub closing-told : (cs : List D.Call) (rs : List D.Answer) → ClosingAccepted cs (map told rs) → M.ClosingAccepted cs rs
closing-told cs rs g = got-told D.done rs only-done refl g

pub staged-told : (b : Book) (cs : List D.Call) (rs : List D.Answer) → M.Staged b cs rs → Staged b cs (map told rs)
unfolding told
staged-told b cs rs s =
    record {
      closed = (λ g. s.closed.0 (closing-told cs rs g), λ e. told-got (s.closed.1 e));
      cleared = (λ g. s.cleared.0 (g.0, got-told (D.steps g.0) rs (only-steps g.0) refl g.1), λ e. let g = s.cleared.1 e in (g.0, told-got g.1));
      counted = λ n g. s.counted n (got-told (D.steps n) rs (only-steps n) refl g);
    }

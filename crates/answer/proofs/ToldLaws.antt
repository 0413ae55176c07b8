-- A response loses nothing of what it tells.
use Prim.Native.Nat.{ℕ}
use mathlib.Core.Path.{◌≡◌, refl, sym, ◌∙◌, ap}
use mathlib.Core.Bool.{cond}
use lib.Dec.{eqb}
use lib.IntN.{ℤ, pos, negsuc}
use Rattle.rules.specs.Refusals as R
use Rattle.rules.specs.Closing as C
use Rattle.rules.specs.Queries as Q
use Rattle.rules.specs.DayBook as D
use Rattle.answer.specs.Told.{told, shown, value_told, verdict_told}
use Rattle.answer.specs.declared.Response.{Response}

natural : ℤ → ℕ
natural (pos n) = n
natural (negsuc n) = n

unfoldable answer_of : Response → D.Answer
answer_of r = cond (eqb r.kind 0) D.done (cond (eqb r.kind 1) (D.refusal r.row r.hour) (cond (eqb r.kind 2) (D.numbered (natural r.value)) (D.steps r.count)))

answer_back : (a : D.Answer) → answer_of (told a) ≡ a
unfolding answer_of told natural
answer_back (D.refusal n h) = refl
answer_back D.done = refl
answer_back (D.numbered n) = refl
answer_back (D.steps n) = refl

pub told-once : (a b : D.Answer) → told a ≡ told b → a ≡ b
told-once a b e = sym (answer_back a) ∙ ap answer_of e ∙ answer_back b

unfoldable outcome_of : Response → R.Outcome Q.Shown
outcome_of r =
    cond (eqb r.kind 0)
    (R.given (Q.judged C.accepted))
    (cond (eqb r.kind 1)
    (R.refused r.row r.hour)
    (cond (eqb r.kind 4)
    (R.given (Q.judged C.hidden))
    (cond (eqb r.kind 5)
    (R.given (Q.judged (C.limit r.row r.hour)))
    (cond (eqb r.kind 6)
    (R.given (Q.number r.value))
    (R.given Q.absent)))))

outcome-back : (a : R.Outcome Q.Shown) → outcome_of (shown a) ≡ a
unfolding outcome_of shown value_told verdict_told
outcome-back (R.refused n h) = refl
outcome-back (R.given (Q.judged C.accepted)) = refl
outcome-back (R.given (Q.judged C.hidden)) = refl
outcome-back (R.given (Q.judged (C.limit n h))) = refl
outcome-back (R.given (Q.number z)) = refl
outcome-back (R.given Q.absent) = refl

pub shown-once : (a b : R.Outcome Q.Shown) → shown a ≡ shown b → a ≡ b
shown-once a b e = sym (outcome-back a) ∙ ap outcome_of e ∙ outcome-back b

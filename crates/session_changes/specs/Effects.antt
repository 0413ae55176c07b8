-- A step of a call as the call's effect.
use Rattle.std.specs.declared.result.Result.{Result}
use Rattle.std.specs.declared.result.Result.TheVariants.{Ok, Err}
use Rattle.answer.specs.declared.Refusal.{Refusal}
use Rattle.session.specs.declared.Session.{Session}
use Rattle.session.specs.declared.Effect.{Effect}
use Rattle.session.specs.Parts.{refused_with}
use Rattle.session_changes.specs.declared.Step.{Step}

-- what a step changes and answers
abbrev pub done : {C : Type 0} → (Session → C → Session) → Session → Step C → Effect
done applied s t = record { session = applied s t.change; answer = t.answer }

-- the same, or the refusal, which hands the session back
abbrev pub effect_of : {C : Type 0} → (Session → C → Session) → Session → Result (Step C) Refusal → Effect
effect_of applied s = elim [
  | Ok t ↦ done applied s t
  | Err r ↦ refused_with s r
]

-- The ways out of a call, by its step.
use Prim.Native.Nat.{ℕ}
use mathlib.Core.Path.{◌≡◌, refl}
use mathlib.Core.Bool.{false}
use Rattle.std.specs.declared.result.Result.{Result}
use Rattle.std.specs.declared.result.Result.TheVariants.{Ok, Err}
use Rattle.rules.specs.DayBook as D
use Rattle.answer.specs.declared.Refusal.{Refusal}
use Rattle.session.specs.declared.Session.{Session}
use Rattle.session.specs.Steps.{Met}
use Rattle.session.specs.Parts.{within, JudgesBy, by_refusal, Entered}
use Rattle.session.proofs.StepLaws.{out-unsound, out-refused, out-entered}
use Rattle.session_changes.specs.Effects.{effect_of, done}
use Rattle.session_changes.specs.declared.Step.{Step}

module _ {C : Type 0} (applied : Session → C → Session) (s : Session) (c : D.Call) where
  -- not a session that calls leave
  pub step-unsound : (x : Refusal) → within s ≡ false → Met s c (effect_of applied s (Err x))
  step-unsound x h = out-unsound s c x _ refl h

  -- the row that a judgement refuses by
  pub step-refused : {A E : Type 0} (of : E → ℕ × ℕ) (j : Result A E) (e : E) (x : Refusal) → JudgesBy of s c j → j ≡ Err e → by_refusal x ≡ of e → Met s c (effect_of applied s (Err x))
  step-refused of j e x h q p = out-refused s c x _ refl (λ b i. rw p (rw q at (h b i)))

  -- what is entered, where no row refuses
  pub step-entered : {A E : Type 0} (of : E → ℕ × ℕ) (j : Result A E) (a : A) (t : Step C) → JudgesBy of s c j → j ≡ Ok a → Entered s c (done applied s t) → Met s c (effect_of applied s (Ok t))
  step-entered of j a t h q n = out-entered s c _ (λ b i. rw q at (h b i)) n

pub ruleset step_laws = (step-unsound, step-refused, step-entered)

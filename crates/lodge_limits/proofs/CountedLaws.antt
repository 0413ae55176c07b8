-- Sums of the lodgements that are counted make the load by marks.
use Prim.Native.Nat.{ℕ, ◌+◌, ◌-◌, ◌≤◌}
use mathlib.Core.Path.{◌≡◌, sym, ap, ◌∙◌}
use mathlib.Core.Bool.{Bool}
use mathlib.Core.List.{List}
use native.Mathlib.Omega.{arith}
use lib.ListN.{length, get_or}
use Rattle.rules.specs.Lists.{hourly}
use Rattle.session.specs.declared.Energies.{Energies}
use Rattle.judge_loads.specs.Loads.{load_by}
use mathlib.Core.Option.{Option}
use Rattle.session.specs.Bare.{bare_notice}
use Rattle.session.specs.declared.Session.{Session}
use Rattle.judge_loads.specs.Loads.{IndicesIn}
use Rattle.judge_loads.proofs.LoadLaws.{indices-in}
use Rattle.listed.specs.View.{listed}
use Rattle.lodge_pending.specs.Awaiting.{Awaits}
use Rattle.lodge_pending.specs.declared.Pending.{Pending}
use Rattle.lodge_limits.specs.Judging.{load_for, passed_for, judged_for}
use Rattle.judge_limits.specs.Limits.{first_passed, judged_in}
use Rattle.judge_limits.specs.declared.Limit.{Limit}
use Rattle.judge_limits.proofs.IndexLaws.{load-indices, passed-same}
use Rattle.lodge_keys.specs.Sums.{SumsAt, load_on}

-- the load by sums is that by indices
load-sums : (es : List Energies) (ps own sums : List ℕ) (h : ℕ) → 1 ≤ h → h ≤ 25 → SumsAt es ps sums → load_on own sums h ≡ load_by own es ps h
unfolding load_on load_by SumsAt hourly
load-sums es ps own sums h a b s = ap (λ k. get_or own (h - 1) 0 + k) (s (h - 1) (omega arith))

-- What a message's judgement looks at: those that are counted are indices of energies, and the loads that they make are the rules'

module _ (s : Session) (p : Pending) (a : Awaits s p) (long : length s.energies ≡ 128) (ps : List ℕ) (same : ps ≡ listed p.beside) where
  pub counted-in : IndicesIn s.energies ps
  counted-in = indices-in _ s.standing s.energies ps (same ∙ a.beside) a.within.standing (omega (arith, a.within.standing))

  abbrev by_load : List Limit → (ℕ → ℕ) → Option (ℕ × ℕ)
  by_load limits load = first_passed limits s.hours p.fields.energies load

  load-is : (h : ℕ) → load_by p.fields.energies s.energies ps h ≡ load_for s p h
  load-is h = rw (same ∙ a.beside) (load-indices p.fields.energies _ s.standing s.energies h (omega (arith, a.within.standing)))

  pub for-indices : (limits : List Limit) → by_load limits (load_by p.fields.energies s.energies ps) ≡ passed_for s p limits
  for-indices limits = passed-same s.hours p.fields.energies _ (load_for s p) (λ h i k. load-is h) limits

  pub for-sums : (limits : List Limit) (sums : List ℕ) → SumsAt s.energies ps sums → by_load limits (load_on p.fields.energies sums) ≡ passed_for s p limits
  for-sums limits sums t =
      passed-same s.hours p.fields.energies _ (load_for s p)
      (λ h i k. load-sums s.energies ps p.fields.energies sums h i (omega (arith, a.within.hours)) t ∙ load-is h) limits

-- by whether it is a default one
pub by-default : (s : Session) (p : Pending) (default : Bool) → p.fields.default ≡ default
    → judged_in p.holder.unit (get_or s.notices p.holder.at bare_notice) (get_or s.rights p.holder.at bare_notice) s.capacities s.losses default s.hours p.fields.energies (load_for s p) ≡ judged_for s p
by-default s p default e =
    ap (λ (d : Bool). judged_in p.holder.unit (get_or s.notices p.holder.at bare_notice) (get_or s.rights p.holder.at bare_notice) s.capacities s.losses d s.hours p.fields.energies (load_for s p)) (sym e)

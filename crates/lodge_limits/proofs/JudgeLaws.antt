-- The judgement by the session's arrays is that of the rules.
use mathlib.Core.Path.{◌≡◌, sym, ap, ◌∙◌}
use lib.ListN.{take}
use Rattle.rules.specs.Refusals.{first_row}
use Rattle.rules.specs.Units as U
use Rattle.rules.specs.Lodging as L
use Rattle.rules.specs.Book.{lines_of}
use Rattle.message.specs.View.{fields_in}
use Rattle.session.specs.Bare.{bare_notice}
use Rattle.session.specs.Parts.{said, given_by}
use Rattle.session.specs.declared.Session.{Session}
use Rattle.answer.specs.declared.Refusal.{Refusal}
use Rattle.std.specs.declared.result.Result.{Result}
use Rattle.session.proofs.ImageLaws.{hours-as, capacities-as, losses-as, notice-as, rights-at}
use Rattle.judge_loads.specs.Loads.{load_in}
use Rattle.judge_limits.proofs.NoticeLaws.{judged-by}
use Rattle.lodge_keys.specs.Beside.{marks_for}
use Rattle.lodge_keys.proofs.BesideLaws.{load-as}
use Rattle.lodge_keys.proofs.KeyLaws.{found-as}
use Rattle.lodge_judge.specs.Judging.{last_rows, JudgesLimits}
use Rattle.lodge_pending.specs.Awaiting.{Awaits}
use Rattle.lodge_pending.specs.declared.Pending.{Pending}
use Rattle.lodge_limits.specs.Judging.{judged_for}

-- by the unit and the notices at its index, with those that are counted
pub judged-for : (s : Session) (p : Pending) (j : Result (Unit {0}) Refusal) → Awaits s p → said j ≡ judged_for s p → JudgesLimits s (fields_in p.fields) j
unfolding last_rows
judged-for s p j a t b e =
    let m = p.fields in
    let registered = U.unit_of b.units m.unit in
    let i = p.holder.at in
    t
    ∙ (judged-by registered (lines_of b) s.hours m.energies (load_in m.energies (marks_for s m) (take s.standing s.energies)) _ _ _ _ _ m.default (L.judged_at b.standing (fields_in m))
    (found-as s b e m.unit p.holder a.holder) (notice-as s b e m.unit i a.holder.index a.holder.inside bare_notice) (rights-at s b e m.unit i a.holder.index a.holder.inside bare_notice) (capacities-as s b e) (sym (losses-as s b e)) (λ h low high. load-as s b e m h)
    ∙ ap (λ H. given_by (first_row (L.limit_rows H m.energies (L.judged_at b.standing (fields_in m)) (L.judged_by (lines_of b) registered m.default)))) (sym (hours-as s b e)))

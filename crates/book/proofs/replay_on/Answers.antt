use Rattle.std.proofs.Common.{rules, ◌≡◌, length}
use mathlib.Core.Path.{refl, sym, ◌∙◌}
use native.Mathlib.Omega.{arith}
use lib.ListN.{length-set, length-drop, drop}
use Rattle.std.proofs.lemmas.List.{set-get_or, take_rest}
use Rattle.book.proofs.ReplayLaws.{running-start, running-on, record-fits, record-inside, ended-full, ended-stopped}
use Rattle.book.proofs.replay_on.Goals as goal

pub loop-calls-init : goal.loop-calls-init
loop-calls-init c = (refl, omega arith, λ b g e. running-start b _ _ _ _ g e)

pub returns-in_default : goal.returns-in_default
returns-in_default c =
    let w = c.loop-calls in
    let none = rw (take_rest c.args.log.now w.read) at c.in_default.ensures in
    rw (set-get_or w.answers w.calls 0) (record { book = λ b g e. ended-stopped b _ _ _ _ _ _ _ (w.invariant.2 b g e) (sym none) })

pub overflow_add-to : goal.overflow_add-to
overflow_add-to c = let h = record-inside _ _ _ c.loop-calls.invariant.1 (rw (take_rest c.args.log.now c.loop-calls.read) at c.in-Some.ensures) in search rules

pub slice_bounds-run_call-end : goal.slice_bounds-run_call-end
slice_bounds-run_call-end c = record-inside _ _ _ c.loop-calls.invariant.1 (rw (take_rest c.args.log.now c.loop-calls.read) at c.in-Some.ensures)

pub loop-calls-preserved : goal.loop-calls-preserved
loop-calls-preserved c =
    let w = c.loop-calls in
    let h = rw (take_rest c.args.log.now w.read) at c.in-Some.ensures in
    let k = record-fits (drop w.read c.args.log.now) h.0 in (
      (simp length-set) ∙ w.invariant.0,
      omega (arith, k, length-drop w.read c.args.log.now, h.2, w.invariant.1),
      λ b g e. running-on b _ _ _ w.read w.calls _ _ _ _ _ _ (w.invariant.2 b g e) (omega (arith, c.loop-calls-test.true)) h refl c.run_call-effect.ensures c.answer_word.ensures,
    )

pub returns : goal.returns
returns c =
    let w = c.loop-calls in
    let n : length w.answers ≡ w.calls = omega (arith, w.invariant.0, w.auto.calls-end) in
    rw n (record { book = λ b g e. ended-full b _ _ _ _ _ _ _ (w.invariant.2 b g e) (omega (arith, w.invariant.0)) })

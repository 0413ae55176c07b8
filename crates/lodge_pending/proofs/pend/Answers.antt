use mathlib.Core.Path.{sym, ◌∙◌}
use Rattle.std.proofs.lemmas.Result.{err_from_is_err_and}
use Rattle.lodge_keys.proofs.KeyLaws.{some-found, none-missed}
use Rattle.lodge_pending.proofs.FormLaws.{pends-unsound, pends-2, pends-3, ranges-as, pends-read}
use Rattle.lodge_pending.proofs.pend.Goals as goal

pub returns-then-not-sound : goal.returns-then-not-sound
returns-then-not-sound c = pends-unsound _ _ (sym c.sound.ensures ∙ c.if-not-sound.true)

pub returns-then-s : goal.returns-then-s
returns-then-s c = pends-2 _ _ c.if-s.true

pub returns-in_err-m : goal.returns-in_err-m
returns-in_err-m c =
    let p = err_from_is_err_and c.from_residual.result c.from_residual.ensures.1 in
    let m = none-missed _ _ _ (sym c.ok_or.ensures.value ∙ c.in_err-m.was) in
    rw (p.1, p.2, m.1) (pends-3 _ _ c.if-s.false (rw m.0 at c.in_form.ensures))

pub returns : goal.returns
returns c =
    let here = rw (some-found _ _ _ (sym c.ok_or.ensures.value ∙ c.in_ok-m.was)) at c.in_form.ensures in
    pends-read _ _ c.in_ok-m.m.fields c.if-s.false here.0 here.1 c.found.result (c.found.ensures.rows _ (ranges-as _ c.in_ok-m.m.fields here.1 here.2)) c.found.ensures.found

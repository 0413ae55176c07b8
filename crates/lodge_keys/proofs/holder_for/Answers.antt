use mathlib.Core.Path.{refl, sym, ◌∙◌}
use Rattle.std.proofs.lemmas.Result.{err_from_is_err_and}
use Rattle.lodge_keys.proofs.KeyLaws.{some-found, none-missed, found-by, none-bad, domestic-bad, offer-good, foreign-good}
use Rattle.lodge_keys.proofs.holder_for.Goals as goal
use Rattle.lodge_keys.proofs.holder_for.Goals.{else-key-via-then-key+else-holder-eq0, else-key-via-else-key}

pub returns-in_err-holder : goal.returns-in_err-holder
returns-in_err-holder c =
    let p = err_from_is_err_and c.from_residual.result c.from_residual.ensures.1 in
    let m = none-missed _ _ _ (sym c.ok_or.ensures.value ∙ c.in_err-holder.was) in
    rw (p.1, p.2) (record { row = m.1; bad = λ b e. none-bad c.args.s.now b e c.args.key (sym c.holder_of.ensures ∙ m.0) })

pub returns-then-holder-eq0 : goal.returns-then-holder-eq0
returns-then-holder-eq0 c =
    let here = sym c.holder_of.ensures ∙ some-found _ _ _ (sym c.ok_or.ensures.value ∙ c.in_ok-holder.was) in
    record { row = refl; bad = λ b e. domestic-bad c.args.s.now b e c.args.key c.in_ok-holder.holder here c.if-key.true c.if-holder-eq0.true }

pub returns : goal.returns
returns c =
    let s = c.args.s.now in
    let x = c.in_ok-holder.holder in
    let here = sym c.holder_of.ensures ∙ some-found _ _ _ (sym c.ok_or.ensures.value ∙ c.in_ok-holder.was) in
    record {
      found = found-by s c.args.key.unit x here;
      good = λ b e.
          elim c.else-key.branch [
            | else-key-via-then-key+else-holder-eq0 w ↦ foreign-good s b e c.args.key x here w.if-holder-eq0.false
            | else-key-via-else-key w ↦ offer-good s b e c.args.key x here w.if-key.false
          ];
    }

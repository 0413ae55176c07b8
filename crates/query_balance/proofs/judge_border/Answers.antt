use mathlib.Core.Path.{sym, ◌∙◌}
use Rattle.std.proofs.lemmas.Result.{err_from_is_err_and}
use Rattle.query_balance.proofs.RowLaws.{border-front, border-5, border-0}
use Rattle.query_balance.proofs.judge_border.Goals as goal

pub returns-in_err-at-clause-judges : goal.returns-in_err-at-clause-judges
returns-in_err-at-clause-judges c =
    let p = err_from_is_err_and c.from_residual.result c.from_residual.ensures.1 in
    rw (p.1, p.2) (border-front _ _ _ _ c.judge_hour.ensures.judges _ c.in_err-at.was)

pub returns-then-bad_border-clause-judges : goal.returns-then-bad_border-clause-judges
returns-then-bad_border-clause-judges c =
    border-5 _ _ _ _ c.judge_hour.ensures.judges _ c.in_ok-at.was (sym c.bad_border.ensures ∙ c.if-bad_border.true)

pub returns-clause-judges : goal.returns-clause-judges
returns-clause-judges c =
    border-0 _ _ _ _ c.judge_hour.ensures.judges _ c.in_ok-at.was c.in_ok-at.at (sym c.bad_border.ensures ∙ c.if-bad_border.false)

use mathlib.Core.Path.{sym, ◌∙◌}
use Rattle.std.proofs.lemmas.Result.{err_from_is_err_and}
use Rattle.annul.proofs.AnnulLaws.{annul-2, annul-5, annul-6, annul-last}
use Rattle.annul.proofs.AnnulmentCall.judge.Goals as goal

pub returns-then-s-clause-judges : goal.returns-then-s-clause-judges
returns-then-s-clause-judges c = annul-2 _ c.args.self.now.key c.if-s.true

pub returns-then-bad_key-clause-judges : goal.returns-then-bad_key-clause-judges
returns-then-bad_key-clause-judges c = annul-5 _ c.args.self.now.key c.if-s.false (sym c.bad_key.ensures ∙ c.if-bad_key.true)

pub returns-in_err-holder_for-clause-judges : goal.returns-in_err-holder_for-clause-judges
returns-in_err-holder_for-clause-judges c =
    let p = err_from_is_err_and c.from_residual.result c.from_residual.ensures.1 in
    rw (p.1, p.2) (annul-6 _ c.args.self.now.key c.if-s.false (sym c.bad_key.ensures ∙ c.if-bad_key.false) _ c.in_err-holder_for.ensures)

pub returns-clause-judges : goal.returns-clause-judges
returns-clause-judges c =
    rw c.ok_or.ensures.value (annul-last _ c.args.self.now.key c.if-s.false (sym c.bad_key.ensures ∙ c.if-bad_key.false) c.in_ok-holder_for.ensures _ (sym c.key_index.ensures))

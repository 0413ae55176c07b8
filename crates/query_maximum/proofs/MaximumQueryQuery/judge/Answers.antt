use Prim.Native.Nat.{ℕ}
use mathlib.Core.Path.{ap, ◌∙◌}
use lib.ListN.{get_or}
use Rattle.std.specs.Bool.{then_some}
use Rattle.std.specs.declared.result.Result.TheVariants.{Ok, Err}
use Rattle.std.proofs.lemmas.Result.{err_from_is_err_and}
use Rattle.session.specs.Bare.{bare_notice}
use Rattle.query.proofs.ReplyLaws.{judged-alike}
use Rattle.query_maximum.proofs.ShownLaws.{maximum-rows}
use Rattle.query_maximum.proofs.MaximumQueryQuery.judge.Goals as goal

pub returns-clause-found : goal.returns-clause-found
returns-clause-found c =
    let f = c.in_ok-at.ensures.found in
    record {
      borders = f;
      direction = c.direction-along.ensures.index;
      other = c.direction-other.ensures.index;
      capacity =
          c.then_some-capacity.ensures
          ∙ ap (λ i. let n = get_or c.args.s.now.capacities i bare_notice in then_some n.given (get_or n.energies c.in_ok-at.at 0)) c.direction-along.ensures.index;
    }

pub returns-in_err-at-clause-judges : goal.returns-in_err-at-clause-judges
returns-in_err-at-clause-judges c =
    let p = err_from_is_err_and c.from_residual.result c.from_residual.ensures.1 in
    rw (p.1, p.2) (judged-alike {A = ℕ} _ _ _ (Err _) (maximum-rows c.args.self.maximum _ _ _) (rw c.in_err-at.was at c.judge_border.ensures.judges))

pub returns-clause-judges : goal.returns-clause-judges
returns-clause-judges c = judged-alike _ _ _ (Ok c.in_ok-at.at) (maximum-rows c.args.self.maximum _ _ _) (rw c.in_ok-at.was at c.judge_border.ensures.judges)

use Rattle.session.specs.Parts.{said}
use Rattle.close_judge.proofs.StandingLaws.{holder-index}
use Rattle.close_judge.proofs.JudgeLaws.{judge-held}
use Rattle.close_judge.proofs.Standing.judge.Goals as goal

pub returns : goal.returns
returns c = λ vs e.
    let x = c.args.self.now in
    judge-held x.session.now vs c.args.at c.requires.standing c.args.p (holder-index x.session.now x.holders.items x.units c.args.at c.args.p c.requires.holder) x.holders.items _ x.energies.now (said c.judge_limits-judged.result) c.verdict_by.result x.within x.units
    e x.loads c.judge_limits-judged.ensures c.verdict_by.ensures

use Rattle.query.proofs.ReplyLaws.{judged-alike}
use Rattle.query_unit.proofs.RowLaws.{energy-rows}
use Rattle.query_unit.proofs.UnitQueryQuery.judge.Goals as goal

pub returns-clause-judges : goal.returns-clause-judges
returns-clause-judges c = judged-alike _ _ _ _ (energy-rows c.args.self.energy _ _) c.judge_unit.ensures.judges

use Rattle.book.proofs.ReplayLaws.{replays-opened}
use Rattle.book.proofs.replay.Goals as goal

pub returns : goal.returns
returns c = replays-opened _ _ _ _ _ _ _ c.open-opened.ensures c.replay_on-run.ensures

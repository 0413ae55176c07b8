use mathlib.Core.Path.{sym, ◌∙◌}
use Rattle.query_verdict.proofs.VerdictLaws.{verdict-unsound, verdict-2, verdict-found}
use Rattle.query_verdict.proofs.VerdictQueryQuery.judge.Goals as goal
use Rattle.query_verdict.proofs.VerdictQueryQuery.judge.Goals.{then-not-sound-via-then-not-sound, then-not-sound-via-else-not-sound+then-not-s}

pub returns-then-not-sound-clause-judges : goal.returns-then-not-sound-clause-judges
returns-then-not-sound-clause-judges c =
    elim c.then-not-sound.branch [
      | then-not-sound-via-then-not-sound w ↦ verdict-unsound _ _ (sym c.sound.ensures ∙ w.if-not-sound.true)
      | then-not-sound-via-else-not-sound+then-not-s w ↦ verdict-2 _ _ w.if-not-s.true
    ]

pub returns-clause-judges : goal.returns-clause-judges
returns-clause-judges c = rw c.ok_or.ensures.value (verdict-found _ _ c.if-not-s.false _ c.lodged_at.ensures.found)

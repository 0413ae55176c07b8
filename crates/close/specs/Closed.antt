-- What closing leaves.
use Rattle.std.specs.Prelude.{true, List}
use Rattle.answer.specs.Told.{accepted}
use Rattle.session.specs.declared.Verdict.{Verdict}
use Rattle.session.specs.declared.Session.{Session}
use Rattle.session.specs.declared.Effect.{Effect}
use Rattle.session_changes.specs.Changes.{with_verdicts}

-- the session once closed
abbrev pub closed_effect : Session → List Verdict → Effect
closed_effect s vs = record { session = with_verdicts s true vs; answer = accepted }

use Prim.Native.Nat.{◌-◌}
use mathlib.Core.Path.{refl, sym, ◌∙◌}
use Rattle.session.proofs.ImageLaws.{guarded}
use Rattle.query.proofs.RowLaws.{an-hour, hour-unsound, hour-2, hour-4, hour-0}
use Rattle.query.proofs.judge_hour.Goals as goal
use Rattle.query.proofs.judge_hour.Goals.{then-not-sound-via-then-not-sound, then-not-sound-via-else-not-sound+then-not-s}

pub returns-then-not-sound-clause-judges : goal.returns-then-not-sound-clause-judges
returns-then-not-sound-clause-judges c =
    elim c.then-not-sound.branch [
      | then-not-sound-via-then-not-sound w ↦ hour-unsound _ _ (sym c.sound.ensures ∙ w.if-not-sound.true)
      | then-not-sound-via-else-not-sound+then-not-s w ↦ hour-2 _ _ w.if-not-s.true
    ]

pub returns-then-not_an_hour-clause-judges : goal.returns-then-not_an_hour-clause-judges
returns-then-not_an_hour-clause-judges c = hour-4 _ _ c.if-not-s.false (sym c.not_an_hour.ensures ∙ c.if-not_an_hour.true)

pub overflow_sub-result : goal.overflow_sub-result
overflow_sub-result c = (an-hour _ _ (sym c.not_an_hour.ensures ∙ c.if-not_an_hour.false)).0

pub returns-clause-judges : goal.returns-clause-judges
returns-clause-judges c = hour-0 _ _ (c.args.hour - 1) c.if-not-s.false (sym c.not_an_hour.ensures ∙ c.if-not_an_hour.false)

pub returns-clause-found : goal.returns-clause-found
returns-clause-found c =
    let p = an-hour _ _ (sym c.not_an_hour.ensures ∙ c.if-not_an_hour.false) in
    record { within = guarded _ (sym c.sound.ensures ∙ c.if-not-sound.false); cleared = c.if-not-s.false; low = p.0; high = p.1; index = refl }

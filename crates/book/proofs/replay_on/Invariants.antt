use mathlib.Core.Path.{◌≡◌}
use Prim.Native.Nat.{◌≤◌}
use lib.ListN.{length}
use Rattle.rules.specs.Book.{Book}
use Rattle.session.specs.Image.{image, Sound}
use Rattle.book.specs.Replays.{Running}
use Rattle.book.proofs.replay_on.Given as goal

abbrev pub invariant-loop-calls : goal.invariant-loop-calls
invariant-loop-calls l =
    (length l.answers ≡ length l.initial.answers) × (l.read ≤ length l.log)
    × ((b : Book) → Sound b → l.fn.start ≡ image b → Running b l.log (length l.initial.answers) l.initial.answers l.session l.read l.calls l.answers)

use Rattle.std.proofs.Common.{◌≡◌, ◌≤◌}
use Rattle.rules.specs.Book.{Book}
use Rattle.session.specs.Image.{image, Sound}
use Rattle.close_order.specs.Passes.{number_of, ClosingAt}
use Rattle.close_order.proofs.Closing.pass.Given as goal

abbrev pub invariant-loop-at : goal.invariant-loop-at
invariant-loop-at l =
    let s = l.fn.self.standing.session.now in
    record {
      inside : l.at ≤ s.standing;
      same : l.self.standing ≡ l.fn.self.standing;
      closing_at : (b : Book) → Sound b → s ≡ image b → ClosingAt s b (number_of l.fn.class) s.standing l.fn.self.verdicts l.fn.self.room.items → ClosingAt s b (number_of l.fn.class) l.at l.self.verdicts l.self.room.items;
    }

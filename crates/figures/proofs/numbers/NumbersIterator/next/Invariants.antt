use Rattle.std.proofs.Common.{◌≡◌, ◌<◌, ◌≤◌, length, IsSome, None}
use Rattle.figures.specs.Numbers.{reads}
use Rattle.figures.proofs.numbers.NumbersIterator.next.Given as goal

-- the number that is being read goes on in the rest of the text, and has taken a byte of it
abbrev pub invariant-loop-byte : goal.invariant-loop-byte
invariant-loop-byte l = record {
  onward : length l.self.text.now ≤ length l.initial.self.text.now;
  begun : IsSome l.number → length l.self.text.now < length l.initial.self.text.now;
  base : l.self.base ≡ l.initial.self.base;
  same : reads l.self.base l.number l.self.text.now ≡ reads l.self.base None l.initial.self.text.now;
}

abbrev pub decreases-loop-byte : goal.decreases-loop-byte
decreases-loop-byte l = length l.self.text.now

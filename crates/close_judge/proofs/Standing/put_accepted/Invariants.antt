use Rattle.std.proofs.Common.{◌≡◌, ◌≤◌, map, length}
use Rattle.rules.specs.Lists.{from}
use Rattle.judge_loads.specs.Loads.{marked}
use Rattle.close_judge.specs.Classes.{held_at}
use Rattle.close_judge.proofs.Standing.put_accepted.Given as goal

abbrev pub invariant-loop-i : goal.invariant-loop-i
invariant-loop-i l = record {
  few : length l.others.items ≤ length l.yielded;
  indices : l.others.items ≡ marked (map (held_at l.p l.verdicts l.self.holders.items) (from 0 128)) (from 0 (length l.yielded));
}

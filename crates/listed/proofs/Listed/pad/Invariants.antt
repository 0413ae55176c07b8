use Rattle.std.proofs.Common.{◌≡◌, ◌++◌, ◌-◌, ◌≤◌, length, take, replicate}
use Rattle.listed.proofs.Listed.pad.Given as goal

abbrev pub invariant-loop-i : goal.invariant-loop-i
invariant-loop-i g l =
    (length l.self.items ≡ g.row.N) × (l.self.count ≤ l.i) × (l.self.count ≡ l.initial.self.count)
    × (take l.i l.self.items ≡ take l.self.count l.initial.self.items ++ replicate (l.i - l.self.count) l.blank)

use Rattle.std.proofs.Common.{◌≡◌, ℕ, ◌-◌, ◌≤◌, ◌<◌, length, get_or}
use Rattle.close_order.proofs.room.admits.Given as goal

abbrev pub invariant-loop-h : goal.invariant-loop-h
invariant-loop-h l = record {
  long : length l.row ≡ 25;
  passed : (k : ℕ) → k < l.h → get_or l.row k 0 ≡ get_or l.initial.row k 0 - get_or l.own k 0;
  left : (k : ℕ) → l.h ≤ k → get_or l.row k 0 ≡ get_or l.initial.row k 0;
}

use Rattle.std.proofs.Common.{◌≡◌, ◌≤◌}
use Rattle.session_changes.specs.Changes.{moved}
use Rattle.session_changes.proofs.move_forward.Given as goal

abbrev pub invariant-loop-i : goal.invariant-loop-i
invariant-loop-i l = record {
  above : l.from ≤ l.i;
  within : l.i ≤ l.to;
  lodgements : l.lodgements ≡ moved l.from l.i l.fn.lodgements;
  energies : l.energies ≡ moved l.from l.i l.fn.energies;
}

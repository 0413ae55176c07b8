use Rattle.std.proofs.Common.{arith, sym}
use Rattle.session_changes.proofs.ChangeLaws.{moved_none, moved_more}
use Rattle.session_changes.proofs.move_forward.Goals as goal

pub loop-i-init : goal.loop-i-init
loop-i-init c = record {
  above = omega arith;
  within = omega arith;
  lodgements = sym (moved_none _ _);
  energies = sym (moved_none _ _);
}

pub loop-i-preserved : goal.loop-i-preserved
loop-i-preserved c =
    let w = c.loop-i.invariant in
    record {
      above = omega arith;
      within = omega arith;
      lodgements = moved_more _ c.args.from _ c.args.lodgements.now c.loop-i.lodgements w.above (omega (arith, c.loop-i-test.true, c.requires.lodgements)) w.lodgements;
      energies = moved_more _ c.args.from _ c.args.energies.now c.loop-i.energies w.above (omega (arith, c.loop-i-test.true, c.requires.energies)) w.energies;
    }

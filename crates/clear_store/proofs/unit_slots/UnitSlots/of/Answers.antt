use Rattle.std.proofs.Common.{ℕ, ◌≡◌, ◌<◌, arith, get_or, sym}
use mathlib.Core.Path.{◌∙◌}
use lib.Dec.{ltb}
use borrow.Author.Tests.{ltb-true, ltb-false}
use Rattle.rules.proofs.BoolLaws.{by_bool}
use Rattle.session.specs.Image.{no_unit}
use Rattle.clear_store.proofs.unit_slots.UnitSlots.of.Goals as goal

pub loop-i-init : goal.loop-i-init
loop-i-init c = record {
  rows = c.new-table.ensures;
  found = λ j h. absurd (omega arith);
  slots = λ j h d. absurd (omega arith);
}

pub loop-i-preserved : goal.loop-i-preserved
loop-i-preserved c =
    let i = c.loop-i.i in
    let before = c.loop-i.invariant in
    let more = c.add.ensures in
    let number : ℕ → ℕ = λ j. (get_or c.args.units.now j no_unit).number in
    record {
      rows = more.rows i before.rows (omega arith);
      found = λ j h. by_bool (ltb j i)
          (λ t. let k = before.found j (ltb-true j i t) in omega (arith, k, more.kept (number j) k))
          (λ t. let e : j ≡ i = omega (arith, ltb-false j i t) in rw e (more.found (omega arith)));
      slots = λ j h d. by_bool (ltb j i)
          (λ t. let k : j < i = ltb-true j i t in
          more.others i before.rows (omega arith) (number j) (before.found j k) (λ e. d i k (omega arith) (sym e))
          ∙ before.slots j k (λ m a b. d m a (omega arith)))
          (λ t. let e : j ≡ i = omega (arith, ltb-false j i t) in rw e more.its);
    }

pub returns : goal.returns
returns c i h last = c.loop-i.invariant.slots i (omega arith) (λ m a b. last m a (omega arith))

use Rattle.std.proofs.Common.{rules, sym, ◌∙◌, length, arith, ◌∷◌, [], length-append, ◌≡◌, false, true, None, get_or}
use borrow.Author.Tests.{not-true, not-false}
use Rattle.session.specs.Image.{no_verdict}
use Rattle.judge_loads.proofs.LoadLaws.{index-start, index-pushed, index-left, indices-in}
use Rattle.close_judge.proofs.CountLaws.{not-accepted, not-holder, held_on}
use Rattle.close_judge.proofs.PairLaws.{numbered_turn, numbered_end}
use Rattle.close_judge.proofs.Standing.put_accepted.Goals as goal

pub loop-i-init : goal.loop-i-init
loop-i-init c = record { few = rw c.clear.ensures (omega arith); indices = c.clear.ensures ∙ index-start _ }

pub loop-i-preserved-then-not-verdict : goal.loop-i-preserved-then-not-verdict
loop-i-preserved-then-not-verdict c =
    let l = c.loop-i in
    let z = numbered_turn c.args.self.now.holders.items c.args.verdicts.now l.yielded c.into_iter-i-iterator.result l.i-iterator c.next.new.self c.next.result (search rules) (search rules) (search rules) l.yielded_by (c.in-Some.i, (c.in-Some.holder, c.in-Some.verdict)) c.in-Some.is c.next.ensures.steps in
    let m = length-append l.yielded ((c.in-Some.i, (c.in-Some.holder, c.in-Some.verdict)) ∷ []) in
    let a : (get_or c.args.verdicts.now (length l.yielded) no_verdict).accepted ≡ false = rw (z.4 no_verdict) at c.if-not-verdict.true in
    record {
      few = omega (arith, l.invariant.few, m);
      indices = rw m (index-left _ l.others.items (length l.yielded) (not-accepted c.args.p c.args.verdicts.now _ (length l.yielded) (omega (arith, z.2)) a) l.invariant.indices);
    }

pub loop-i-preserved-then-ne : goal.loop-i-preserved-then-ne
loop-i-preserved-then-ne c =
    let l = c.loop-i in
    let z = numbered_turn c.args.self.now.holders.items c.args.verdicts.now l.yielded c.into_iter-i-iterator.result l.i-iterator c.next.new.self c.next.result (search rules) (search rules) (search rules) l.yielded_by (c.in-Some.i, (c.in-Some.holder, c.in-Some.verdict)) c.in-Some.is c.next.ensures.steps in
    let m = length-append l.yielded ((c.in-Some.i, (c.in-Some.holder, c.in-Some.verdict)) ∷ []) in
    record {
      few = omega (arith, l.invariant.few, m);
      indices = rw m (index-left _ l.others.items (length l.yielded) (not-holder c.args.p c.args.verdicts.now _ (length l.yielded) (omega (arith, z.2)) (rw (z.3 None) at (not-true _ (sym c.ne.ensures ∙ c.if-ne.true)))) l.invariant.indices);
    }

pub loop-i-preserved : goal.loop-i-preserved
loop-i-preserved c =
    let l = c.loop-i in
    let z = numbered_turn c.args.self.now.holders.items c.args.verdicts.now l.yielded c.into_iter-i-iterator.result l.i-iterator c.next.new.self c.next.result (search rules) (search rules) (search rules) l.yielded_by (c.in-Some.i, (c.in-Some.holder, c.in-Some.verdict)) c.in-Some.is c.next.ensures.steps in
    let m = length-append l.yielded ((c.in-Some.i, (c.in-Some.holder, c.in-Some.verdict)) ∷ []) in
    let a : (get_or c.args.verdicts.now (length l.yielded) no_verdict).accepted ≡ true = rw (z.4 no_verdict) at c.if-not-verdict.false in
    record {
      few = omega (arith, l.invariant.few, c.push.ensures.len, m);
      indices = rw m (c.push.ensures.items ∙ rw z.0 (index-pushed _ l.others.items (length l.yielded) (held_on c.args.p c.args.verdicts.now _ (length l.yielded) (omega (arith, z.2)) a (rw (z.3 None) at (not-false _ (sym c.ne.ensures ∙ c.if-ne.false)))) l.invariant.indices));
    }

pub returns-clause-indices : goal.returns-clause-indices
returns-clause-indices c =
    let x = c.args.self.now in
    let l = c.loop-i in
    let n = numbered_end x.holders.items c.args.verdicts.now l.yielded c.into_iter-i-iterator.result l.i-iterator c.next.new.self c.next.result (search rules) (search rules) (search rules) l.yielded_by c.in-None.is c.next.ensures.steps in
    indices-in _ (length l.yielded) x.energies.now l.others.items l.invariant.indices (omega (arith, n, x.within.standing)) (omega (arith, n, x.long))

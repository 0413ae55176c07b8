use Rattle.std.proofs.Common.{arith, ap, sym, ◌∙◌, None}
use Rattle.figures.specs.Numbers.{reads}
use Rattle.figures.proofs.ReadLaws.{reads-digit, reads-end, reads-on, reads-none}
use Rattle.figures.proofs.numbers.NumbersIterator.next.Goals as goal

pub loop-byte-preserved-in-Some-digit : goal.loop-byte-preserved-in-Some-digit
loop-byte-preserved-in-Some-digit c =
    let base = c.loop-byte.self.base in
    let on = reads-digit base c.loop-byte.number c.in-Some.byte.now c.in-Some-digit.digit c.in-Some.rest.now (sym c.in-Some-digit.is ∙ c.digit.ensures.value) in
    record {
      onward = omega (arith, c.in-Some.ensures.cases.1, c.loop-byte.invariant.onward);
      begun = λ _. omega (arith, c.in-Some.ensures.cases.1, c.loop-byte.invariant.onward);
      base = c.loop-byte.invariant.base;
      same = rw (c.longer.ensures, c.unwrap_or.ensures) (sym on ∙ ap (reads base c.loop-byte.number) (sym c.in-Some.ensures.cases.0) ∙ c.loop-byte.invariant.same);
    }

pub returns-then-is_some-clause-steps : goal.returns-then-is_some-clause-steps
returns-then-is_some-clause-steps c =
    let base = c.loop-byte.self.base in
    let end = reads-end base c.loop-byte.number c.in-Some.byte.now c.in-Some.rest.now (sym c.in_default-digit.is ∙ c.digit.ensures.value) (sym c.is_some.ensures ∙ c.if-is_some.true) in (
      c.loop-byte.invariant.base,
      ap (λ b. reads b None c.args.self.now.text.now) (sym c.loop-byte.invariant.base) ∙ sym c.loop-byte.invariant.same ∙ ap (reads base c.loop-byte.number) c.in-Some.ensures.cases.0 ∙ end,
    )

pub loop-byte-preserved : goal.loop-byte-preserved
loop-byte-preserved c =
    let base = c.loop-byte.self.base in
    let on = reads-on base c.loop-byte.number c.in-Some.byte.now c.in-Some.rest.now (sym c.in_default-digit.is ∙ c.digit.ensures.value) (sym c.is_some.ensures ∙ c.if-is_some.false) in
    record {
      onward = omega (arith, c.in-Some.ensures.cases.1, c.loop-byte.invariant.onward);
      begun = λ h. omega (arith, c.in-Some.ensures.cases.1, c.loop-byte.invariant.onward);
      base = c.loop-byte.invariant.base;
      same = sym on ∙ ap (reads base c.loop-byte.number) (sym c.in-Some.ensures.cases.0) ∙ c.loop-byte.invariant.same;
    }

pub returns-clause-steps : goal.returns-clause-steps
returns-clause-steps c =
    let base = c.loop-byte.self.base in
    let end = reads-none base c.loop-byte.number c.loop-byte.self.text.now c.in_default.ensures.cases in
    (c.loop-byte.invariant.base, ap (λ b. reads b None c.args.self.now.text.now) (sym c.loop-byte.invariant.base) ∙ sym c.loop-byte.invariant.same ∙ end)

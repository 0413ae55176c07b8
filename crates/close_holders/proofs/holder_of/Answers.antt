use Rattle.std.proofs.Common.{rules, sym, ◌∙◌, ◌%◌, arith}
use borrow.Author.Tests.{eq-eqb}
use Rattle.session.specs.Image.{no_unit}
use Rattle.session.specs.Parts.{number_is}
use Rattle.close_holders.specs.Holders.{ends_in, holder_of}
use Rattle.close_holders.proofs.HolderLaws.{ends-narrow, position-none, position-narrow}
use Rattle.close_holders.proofs.holder_of.Goals as goal

pub returns-in_err-at : goal.returns-in_err-at
unfolding holder_of
returns-in_err-at c =
    let n = c.args.lodgement.now.key.unit in
    let e = position-none (number_is n) (ends_in (n % 256)) no_unit (ends-narrow n) c.args.units.now (sym (c.requires.at (n % 256) (omega arith)) ∙ c.in_err-at.was) in
    search (rules, e)

pub returns-then-units-at : goal.returns-then-units-at
unfolding holder_of
returns-then-units-at c =
    let n = c.args.lodgement.now.key.unit in
    sym (position-narrow (number_is n) (ends_in (n % 256)) no_unit (ends-narrow n) c.args.units.now c.in_ok-at.at (sym (c.requires.at (n % 256) (omega arith)) ∙ c.in_ok-at.was) (eq-eqb _ n c.if-units-at.true))

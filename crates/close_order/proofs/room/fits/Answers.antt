use Rattle.std.proofs.Common.{rules, ◌≤◌, ◌<◌, arith, ℕ}
use Rattle.std.proofs.lemmas.Iterator.{cases_from_all, YieldsList-from_zip, YieldsList-from_slice}
use borrow.Author.Tests.{tests}
use Rattle.close_order.proofs.FitLaws.{fits-of}
use Rattle.close_order.proofs.room.fits.Goals as goal

pub returns : goal.returns
returns c =
    fits-of c.args.row.now c.args.own.now c.all.result (omega arith)
    (cases_from_all c.all.new.self _ c.all.result (λ (p : ℕ × ℕ). p.0 ≤ p.1) (λ (p : ℕ × ℕ). p.1 < p.0) c.all.ensures.ran
    (YieldsList-from_zip (YieldsList-from_slice c.args.own.now cc) (YieldsList-from_slice c.args.row.now cc)) (λ x q k. search (rules, tests)) (λ x q k. search (rules, tests)))

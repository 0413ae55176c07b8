use Rattle.std.proofs.Common.{inr, refl}
use Rattle.rehearse_words.proofs.WordLaws.{none-of-blanks, first-none}
use Rattle.rehearse_words.proofs.words.Words.bytes.Goals as goal

pub returns-in_err-next-clause-none : goal.returns-in_err-next-clause-none
returns-in_err-next-clause-none g c _ = let blank = c.in_err-next.ensures.steps.0.0 refl in inr (inr (first-none c.args.self.now.rest.now (none-of-blanks c.args.self.now.rest.now blank)))

use Rattle.std.proofs.Common.{refl}
use Rattle.rehearse_words.proofs.WordLaws.{none-of-blanks, first-none}
use Rattle.rehearse_words.proofs.words.Words.number.Goals as goal

pub returns-in_err-next-clause-number : goal.returns-in_err-next-clause-number
returns-in_err-next-clause-number c =
    let blank = c.in_err-next.ensures.steps.0.0 refl in
    rw (c.from_residual.ensures, first-none _ (none-of-blanks _ blank)) refl

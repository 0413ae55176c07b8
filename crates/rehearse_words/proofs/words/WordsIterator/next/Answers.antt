use Rattle.std.proofs.Common.{refl, sym, ◌∙◌}
use mathlib.Core.Bool.{true≢false}
use Rattle.rehearse_words.proofs.WordLaws.{blanks-none, word-some, start-some}
use Rattle.rehearse_words.proofs.words.WordsIterator.next.Goals as goal

pub returns-in_err-from-clause-steps : goal.returns-in_err-from-clause-steps
returns-in_err-from-clause-steps c = rw c.from_residual.ensures ((λ _. blanks-none _ (sym c.word_start.ensures ∙ c.in_err-from.was), λ _. refl), tt)

pub returns-clause-steps : goal.returns-clause-steps
returns-clause-steps c =
    let e = sym c.word_start.ensures ∙ c.in_ok-from.was in
    ((λ z. absurd (true≢false z), λ a. absurd (word-some _ _ e a)), (rw (start-some _ _ e, c.split_at-2.ensures.front, c.word_end.ensures.end, c.split_at.ensures.back) refl, rw (start-some _ _ e, c.past_first-self.ensures, c.split_at-2.ensures.back, c.word_end.ensures.end, c.split_at.ensures.back) refl))

use Rattle.std.proofs.Common.{sym, ◌∙◌, refl}
use Rattle.rehearse_words.proofs.WordLaws.{blank-starts, word-starts, behind-taken, behind-left}
use Rattle.rehearse_words.proofs.words.Words.take_if.Goals as goal

pub returns-in_default-clause-word : goal.returns-in_default-clause-word
returns-in_default-clause-word c = blank-starts _ _ (c.in_default.ensures.steps.0.0 refl)

pub returns-in_default-clause-rest : goal.returns-in_default-clause-rest
returns-in_default-clause-rest c = behind-left _ _ (blank-starts _ _ (c.in_default.ensures.steps.0.0 refl))

pub returns-then-is_next-clause-word : goal.returns-then-is_next-clause-word
returns-then-is_next-clause-word c = c.eq-is_next.ensures ∙ word-starts _ _ _ c.in-Some.ensures.steps.0.1 c.in-Some.ensures.steps.1.0

pub returns-then-is_next-clause-rest : goal.returns-then-is_next-clause-rest
returns-then-is_next-clause-rest c =
    c.in-Some.ensures.steps.1.1
    ∙ behind-taken _ _ (sym c.if-is_next.true ∙ c.eq-is_next.ensures ∙ word-starts _ _ _ c.in-Some.ensures.steps.0.1 c.in-Some.ensures.steps.1.0)

pub returns-else-is_next-clause-word : goal.returns-else-is_next-clause-word
returns-else-is_next-clause-word c = c.eq-is_next.ensures ∙ word-starts _ _ _ c.in-Some.ensures.steps.0.1 c.in-Some.ensures.steps.1.0

pub returns-else-is_next-clause-rest : goal.returns-else-is_next-clause-rest
returns-else-is_next-clause-rest c =
    behind-left _ _ (sym c.if-is_next.false ∙ c.eq-is_next.ensures ∙ word-starts _ _ _ c.in-Some.ensures.steps.0.1 c.in-Some.ensures.steps.1.0)

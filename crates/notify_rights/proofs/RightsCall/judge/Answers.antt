use mathlib.Core.Path.{sym, ◌∙◌}
use Prim.Native.Nat.{ℕ}
use borrow.Author.Tests.{eq-eqb, ne_eqb}
use Rattle.notify_unavailability.proofs.NoticeLaws.{notice-2, notice-4, notice-5, notice-found}
use Rattle.notify_rights.proofs.RightsLaws.{rights-notice, no-french-as}
use Rattle.notify_rights.proofs.RightsCall.judge.Goals as goal
use Rattle.notify_rights.proofs.RightsCall.judge.Goals.{then-bad_number-via-then-bad_number, then-bad_number-via-else-bad_number+then-bad_energies}

pub returns-then-s-clause-judges : goal.returns-then-s-clause-judges
returns-then-s-clause-judges c = notice-2 ℕ _ (rights-notice c.args.self.now) c.if-s.true

pub returns-then-self-s-clause-judges : goal.returns-then-self-s-clause-judges
returns-then-self-s-clause-judges c = notice-4 ℕ _ (rights-notice c.args.self.now) c.if-s.false (ne_eqb _ _ c.if-self-s.true)

pub returns-then-bad_number-clause-judges : goal.returns-then-bad_number-clause-judges
returns-then-bad_number-clause-judges c =
    notice-5 ℕ _ (rights-notice c.args.self.now) c.if-s.false (eq-eqb _ _ c.if-self-s.false)
    (elim c.then-bad_number.branch [
      | then-bad_number-via-then-bad_number w ↦ rw (sym c.bad_number.ensures ∙ w.if-bad_number.true)
      | then-bad_number-via-else-bad_number+then-bad_energies w ↦ rw (sym c.bad_number.ensures ∙ w.if-bad_number.false, sym (rw w.front.ensures at w.bad_energies.ensures) ∙ w.if-bad_energies.true)
    ])

pub returns-clause-judges : goal.returns-clause-judges
returns-clause-judges c =
    rw c.ok_or.ensures.value (notice-found _ _ (rights-notice c.args.self.now) c.if-s.false (eq-eqb _ _ c.if-self-s.false)
    (rw (sym c.bad_number.ensures ∙ c.if-bad_number.false, sym (rw c.front.ensures at c.bad_energies.ensures) ∙ c.if-bad_energies.false)) _ (no-french-as _ _ _ _ c.first_index.ensures))

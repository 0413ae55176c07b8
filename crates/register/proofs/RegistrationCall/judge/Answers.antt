use mathlib.Core.Path.{sym, ◌∙◌}
use Rattle.register.proofs.RegisterLaws.{register-0, register-2, register-5, register-7, register-8, register-9, register-15}
use Rattle.register.proofs.RegistrationCall.judge.Goals as goal

pub returns-then-s-clause-judges : goal.returns-then-s-clause-judges
returns-then-s-clause-judges c = register-2 _ _ c.if-s.true

pub returns-then-bad_unit-clause-judges : goal.returns-then-bad_unit-clause-judges
returns-then-bad_unit-clause-judges c = register-5 _ _ c.if-s.false (sym c.bad_unit.ensures ∙ c.if-bad_unit.true)

pub returns-then-is_taken-clause-judges : goal.returns-then-is_taken-clause-judges
returns-then-is_taken-clause-judges c = register-7 _ _ c.if-s.false (sym c.bad_unit.ensures ∙ c.if-bad_unit.false) (sym c.is_taken.ensures ∙ c.if-is_taken.true)

pub returns-then-has_second-clause-judges : goal.returns-then-has_second-clause-judges
returns-then-has_second-clause-judges c =
    register-8 _ _ c.if-s.false (sym c.bad_unit.ensures ∙ c.if-bad_unit.false) (sym c.is_taken.ensures ∙ c.if-is_taken.false) (sym c.has_second.ensures ∙ c.if-has_second.true)

pub returns-then-s-ge-MAX_UNITS-clause-judges : goal.returns-then-s-ge-MAX_UNITS-clause-judges
returns-then-s-ge-MAX_UNITS-clause-judges c =
    register-9 _ _ c.if-s.false (sym c.bad_unit.ensures ∙ c.if-bad_unit.false) (sym c.is_taken.ensures ∙ c.if-is_taken.false) (sym c.has_second.ensures ∙ c.if-has_second.false) c.if-s-ge-MAX_UNITS.true

pub returns-then-no_partner-clause-judges : goal.returns-then-no_partner-clause-judges
returns-then-no_partner-clause-judges c =
    register-15 _ _ c.if-s.false (sym c.bad_unit.ensures ∙ c.if-bad_unit.false) (sym c.is_taken.ensures ∙ c.if-is_taken.false) (sym c.has_second.ensures ∙ c.if-has_second.false) c.if-s-ge-MAX_UNITS.false
    (sym (rw c.partner_index-from.ensures at c.no_partner.ensures) ∙ c.if-no_partner.true)

pub returns-clause-judges : goal.returns-clause-judges
returns-clause-judges c =
    register-0 _ _ c.if-s.false (sym c.bad_unit.ensures ∙ c.if-bad_unit.false) (sym c.is_taken.ensures ∙ c.if-is_taken.false) (sym c.has_second.ensures ∙ c.if-has_second.false) c.if-s-ge-MAX_UNITS.false
    (sym (rw c.partner_index-from.ensures at c.no_partner.ensures) ∙ c.if-no_partner.false)

-- The unit with a number, as the session finds it: the first that has it.
use Rattle.std.proofs.Common.{ℕ, ◌≡◌, refl, sym, List, length, ltb, unwrap_or, option_map, Option, arith}
use lib.ListN.{get_or-eq_default}
use borrow.Author.Tests.{ltb-false}
use Rattle.rules.specs.Lists.{first}
use Rattle.rules.proofs.BoolLaws.{by_bool}
use Rattle.session.specs.declared.Holder.{Holder}
use Rattle.session.specs.declared.Unit.{Unit}
use Rattle.session.specs.Image.{no_unit}
use Rattle.session.specs.Parts.{number_is, held, index_of}
use Rattle.session.proofs.IndexLaws.{index-first, position-as}

-- the unit that is found, and one with nothing where none is
abbrev pub unit_or : Option Holder → Unit
unit_or h = unwrap_or (option_map (λ (h : Holder). h.unit) h) no_unit

pub found-first : (n : ℕ) (us : List Unit) → unit_or (held us n) ≡ first (number_is n) no_unit us
found-first n us =
    let i : ℕ = index_of (number_is n) us in
    rw (position-as (number_is n) us, index-first (number_is n) no_unit us)
    (by_bool (ltb i (length us)) (λ t. rw t refl) (λ t. rw t (sym (get_or-eq_default us no_unit {n = i} (omega (arith, ltb-false i (length us) t))))))

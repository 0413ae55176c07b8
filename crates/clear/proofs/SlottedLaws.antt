-- In a sound book each unit has a slot of its own.
use Prim.Native.Nat.{ℕ, ◌+◌, ◌<◌}
use mathlib.Core.Path.{◌≡◌, refl, sym, ap, ◌∙◌}
use mathlib.Core.List.{List}
use native.Mathlib.Omega.{arith}
use lib.ListN.{get_or, length, take, length-map}
use lib.Seq.{get_or-take}
use borrow.Author.Tests.{eqb-true, eq-eqb}
use Rattle.session.specs.declared.Session.{Session}
use Rattle.session.specs.declared.Unit.{Unit}
use Rattle.session.specs.Image.{no_lodgement, no_unit, unit_of}
use Rattle.session.specs.Parts.{number_is, index_of}
use Rattle.session.proofs.ImageLaws.{units-as, enrolled-as}
use Rattle.clear_gather.specs.Built.{no_holder}
use Rattle.clear_gather.proofs.UnitLaws.{unit-indexed, unit-inside, units-apart}
use Rattle.clear_store.specs.UnitSlots.{slot_of, Last}
use Rattle.clear.specs.Slotted.{Slotted}

pub slotted : (s : Session) (rows slots : List ℕ)
    → ((p : ℕ) → p < length (take s.enrolled s.units) → Last p (take s.enrolled s.units) → slot_of rows slots (get_or (take s.enrolled s.units) p no_unit).number ≡ p + 1)
    → Slotted s rows slots
slotted s rows slots own b sound e hs h i l =
    let us = take s.enrolled s.units in
    let long : length us ≡ s.enrolled = omega (arith, ap length (units-as s b e), length-map b.units unit_of, enrolled-as s b e) in
    let p = index_of (number_is (get_or s.lodgements i no_lodgement).key.unit) us in
    let inside : p < s.enrolled = unit-inside s b e sound i l in
    let there : (q : ℕ) → q < s.enrolled → get_or us q no_unit ≡ get_or s.units q no_unit = λ q k. get_or-take s.enrolled s.units q no_unit k in
    let same : (get_or hs i no_holder).unit ≡ (get_or us p no_unit).number =
    eqb-true _ _ (sym (unit-indexed s b e sound hs h i p l inside) ∙ eq-eqb p p refl) ∙ ap (λ (u : Unit). u.number) (sym (there p inside)) in
    rw same
    (own p (omega (arith, long))
    (λ j a k q.
    let within : j < s.enrolled = omega (arith, long) in
    units-apart s b e sound j p within inside (λ z. absurd (omega (arith, z)))
    (rw (← there j within, ← there p inside) q)))

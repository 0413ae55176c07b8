use mathlib.Core.Path.{refl}
use native.Mathlib.Omega.{arith}
use Rattle.lodge_keys.proofs.SumLaws.{adding-low, adding-next, adding-end, adding-below}
use Rattle.lodge_keys.proofs.beside.add.Goals as goal

pub overflow_add-sum : goal.overflow_add-sum
overflow_add-sum c =
    let s = c.loop-h in
    let low = adding-low _ _ _ s.h s.invariant 128 (omega arith) c.requires in
    record { fits = omega (arith, c.from.ensures, c.fits-row s.h) }

pub loop-h-preserved : goal.loop-h-preserved
loop-h-preserved c =
    let s = c.loop-h in
    adding-next _ _ _ s.h s.invariant _ _ (omega arith) c.from.ensures (omega (arith, c.from.ensures, c.fits-row s.h)) refl

pub returns-clause-added : goal.returns-clause-added
returns-clause-added c = adding-end _ _ _ c.loop-h.h c.loop-h.invariant (omega arith)

pub returns-clause-below : goal.returns-clause-below
returns-clause-below c = adding-below _ _ _ c.loop-h.h c.loop-h.invariant (omega arith)

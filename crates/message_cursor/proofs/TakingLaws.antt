-- What a reader takes one after the other is what the rules read.
use Prim.Native.Nat.{ℕ, suc, ◌+◌, ◌*◌, ◌^◌, ◌≤◌, ◌<◌, min}
use mathlib.Core.Path.{◌≡◌, refl, ap, sym, ◌∙◌}
use mathlib.Core.Bool.{Bool, true, false}
use mathlib.Core.List.{List, ◌∷◌}
use native.Mathlib.Omega.{arith}
use native.Mathlib.Nat.{add-zero, zero-mul, suc-mul}
use lib.Dec.{eqb}
use lib.ListN.{length, drop}
use lib.Seq.{drop-drop}
use Rattle.rules.specs.Lists.{sum, more as cons}
use Rattle.rules.specs.Message.{field, price_width, slot_width, hour_bits, set_bits, read_slots, is_execution, map_of, fields_of}
use Rattle.rules.proofs.ListLaws.{Under}
use Rattle.rules.proofs.BitLaws.{length-bits, bits-under, field-drop}
use Rattle.message_cursor.specs.Taking.{Takes, unset, set, SlotsTaken, none, more, taken, FieldsTaken}

-- at most 32 bits, to a position that a machine word holds
takes : (bs : List ℕ) (at w : ℕ) {v next : ℕ} → Takes bs at w v next → w ≤ 32 → at + w < 2 ^ 64 → (v ≡ field at w bs) × (next ≡ at + w)
takes bs at w t h l =
    let m : min w 32 ≡ w = omega arith in
    (rw m at t.0, omega (arith, t.1))

price-le : (x : Bool) → price_width x ≤ 15
unfolding price_width
price-le true = omega arith
price-le false = omega arith

-- the slots, energies of w bits
module _ (bs : List ℕ) (w : ℕ) (x : Bool) (h : w ≤ 32) where
  -- what g finds in the slots of a map's hours, the first of them at bit `at`
  abbrev found : (List ℕ → ℕ) → List ℕ → ℕ → List ℕ
  found g map at = read_slots g (slot_width w x) map (drop at bs)

  abbrev Read : List ℕ → ℕ → List ℕ → List ℕ → ℕ → Type 0
  Read map at es ps end = (es ≡ found (field 0 w) map at) × (ps ≡ found (field w (price_width x)) map at) × (end ≡ at + sum map * slot_width w x)

  -- the two numbers of an hour that is set, and the position after them
  module _ (at : ℕ) {e p middle next : ℕ} (l : at + w + 15 < 2 ^ 64) (s : Takes bs at w e middle) (t : Takes bs middle (price_width x) p next) where
    energy : (e ≡ field at w bs) × (middle ≡ at + w)
    energy = takes bs at w s h (omega arith)

    price : (p ≡ field (at + w) (price_width x) bs) × (next ≡ at + (w + price_width x))
    price =
        let r = takes bs middle (price_width x) t (omega (arith, price-le x)) (omega (arith, price-le x, energy.1)) in
        (rw energy.1 at r.0, omega (arith, energy.1, r.1))

    first : (map es ps : List ℕ) (end : ℕ) → Read map next es ps end → Read (1 ∷ map) at (e ∷ es) (p ∷ ps) end
    unfolding read_slots slot_width sum
    first map es ps end r =
        let d : drop (w + price_width x) (drop at bs) ≡ drop next bs = drop-drop (w + price_width x) at bs ∙ ap (λ k. drop k bs) (sym price.1) in (
          rw (d, field-drop at 0 w bs, add-zero at, energy.0, r.0),
          rw (d, field-drop at w (price_width x) bs, price.0, r.1),
          r.2 ∙ omega (arith, price.1, suc-mul (sum map) (w + price_width x)),
        )

  slots-taken : {map es ps : List ℕ} {at end : ℕ} → SlotsTaken bs w x map at es ps end → Under 2 map → at + length map * (w + 15) < 2 ^ 64 → Read map at es ps end
  unfolding read_slots sum
  slots-taken none u l = (refl, refl, omega (arith, zero-mul (slot_width w x)))
  slots-taken {map = b ∷ map} {at} (more unset d) (cons p u) l =
      let r = slots-taken d u (omega (arith, suc-mul (length map) (w + 15))) in
      (ap (λ es. 0 ∷ es) r.0, ap (λ ps. 0 ∷ ps) r.1, r.2 ∙ ap (λ k. at + k * slot_width w x) (omega arith))
  slots-taken {map = suc b ∷ map} {es = e ∷ es} {ps = p ∷ ps} {at} {end} (more (set s t) d) (cons i u) l =
      let one : suc b ≡ 1 = omega arith in
      let k : at + w + 15 < 2 ^ 64 = omega (arith, suc-mul (length map) (w + 15)) in
      let r = slots-taken d u (omega (arith, (price at k s t).1, price-le x, suc-mul (length map) (w + 15))) in
      rw one (first at k s t map es ps end r)

pub fields-taken : FieldsTaken
unfolding fields_of is_execution map_of hour_bits set_bits
fields-taken f bs m end w v (taken {kind = k} {map = n} {a} {b} {c} {d} {e} {g} {start} form kind mark unit contract map partner slots) =
    let a₁ : a ≡ 4 = form.1 in
    let b₁ : b ≡ 6 = rw a₁ at kind.1 in
    let c₁ : c ≡ 7 = rw b₁ at mark.1 in
    let d₁ : d ≡ 23 = rw c₁ at unit.1 in
    let e₁ : e ≡ 39 = rw d₁ at contract.1 in
    let g₁ : g ≡ 64 = rw e₁ at map.1 in
    let s₁ : start ≡ 64 + f.partner = (takes bs g f.partner partner v (omega arith)).1 ∙ ap (λ k. k + f.partner) g₁ in
    let r = slots-taken bs f.width (eqb k 1) w slots (bits-under 25 n) (rw (length-bits 25 n) (omega arith)) in
    (rw (r.0, r.1, kind.0, mark.0, unit.0, contract.0, map.0, s₁, a₁, b₁, c₁, d₁, e₁), r.2 ∙ omega (arith, s₁))

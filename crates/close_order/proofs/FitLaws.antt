-- Whether the room holds.
use Prim.Native.Nat.{ℕ, ◌≤◌, ◌<◌}
use mathlib.Core.Path.{◌≡◌, subst}
use mathlib.Core.Bool.{Bool, true, false, false≢true, true≢false}
use mathlib.Core.List.{List}
use native.Mathlib.Omega.{arith}
use lib.ListN.{length, get_or}
use Rattle.std.specs.Bool.{MatchBool}
use Rattle.std.specs.List.{zip, AllWithin, HoldsAt}
use Rattle.std.proofs.lemmas.Slice.Zip.{length-zip, get_or-zip}
use Rattle.close_order.specs.Room.{Fits, holds, lacks, Left, Admitted, taken, left}

module _ (row own : List ℕ) where
  pub held : {r : Bool} → Fits row own r → r ≡ true → (h : ℕ) → h < length own → get_or own h 0 ≤ get_or row h 0
  held (holds f) e = f
  held (lacks h i l) e = absurd (false≢true e)

  pub fits-as : {r t : Bool} → Fits row own r → r ≡ t → Fits row own t
  fits-as f e = subst (Fits row own) e f

-- the room and the energies side by side
pub fits-of : (row own : List ℕ) (r : Bool) → length own ≤ length row
    → MatchBool r (AllWithin (λ (p : ℕ × ℕ). p.0 ≤ p.1) (zip own row) 0 (length (zip own row))) ((k : ℕ) × (k < length (zip own row)) × HoldsAt (λ (p : ℕ × ℕ). p.1 < p.0) (zip own row) k) → Fits row own r
fits-of row own true l m = holds (λ h i. rw (get_or-zip own row h (0, 0) i (omega arith)) at (m h (0, 0) (omega arith) (omega (arith, length-zip own row))))
fits-of row own false l m =
    let i : m.0 < length own = omega (arith, m.1, length-zip own row) in
    lacks m.0 i (rw (get_or-zip own row m.0 (0, 0) i (omega arith)) at (m.2 (0, 0)))

-- what is admitted takes of the room, another leaves it
module _ (own before after : List ℕ) where
  pub admitted-taken : {r : Bool} → Admitted own before after r → r ≡ true → Fits before own true × Left own before after
  admitted-taken (taken f row) e = (f, row)
  admitted-taken (left f same) e = absurd (false≢true e)

  pub admitted-left : {r : Bool} → Admitted own before after r → r ≡ false → Fits before own false × (after ≡ before)
  admitted-left (taken f row) e = absurd (true≢false e)
  admitted-left (left f same) e = (f, same)

-- Laws of directions: a border's direction and its index, which of the directions in an array an energy runs in, and that each
-- direction stands there once.
use Prim.Native.Nat.{ℕ, zero, suc, ◌+◌, ◌-◌, ◌*◌, ◌/◌, ◌%◌, ◌≤◌, ◌<◌}
use mathlib.Core.Path.{◌≡◌, refl, ap, ap₂, sym, ◌∙◌}
use mathlib.Core.Bool.{Bool, true, false, ◌&&◌, ◌||◌, beq, false≢true}
use mathlib.Core.List.{List, [], ◌∷◌, map}
use mathlib.Core.Logic.{⊎_elim}
use native.Mathlib.Nat.{eq-or-lt_of_le}
use native.Mathlib.Omega.{arith}
use lib.Dec.{eqb, ltb}
use lib.ListN.{get_or}
use borrow.Author.Tests.{eq-eqb, ne_eqb, eqb-true, eqb-false, lt-ltb, ltb-true}
use Rattle.std.specs.Prelude.{Option, None, Some, is_some}
use Rattle.std.specs.Option.{option_eq}
use Rattle.std.proofs.lemmas.Option.{cond_some}
use Rattle.rules.specs.Lists.{All, none, more, keep, any, from}
use Rattle.rules.specs.Units.{direction}
use Rattle.rules.specs.Match.{Holder}
use Rattle.rules.specs.Borders.{runs}
use Rattle.rules.proofs.BoolLaws.{by_bool, both}
use Rattle.rules.proofs.ListLaws.{all_keep}
use Rattle.rules.proofs.ElementLaws.{Pairwise, empty, ahead, pairwise-keep, pairwise_map}
use Rattle.rules.proofs.DirectionLaws.{same_direction, Once}
use Rattle.rules.proofs.IndexLaws.{from_all}
use Rattle.hour_borders.specs.Directions.{own_direction, directed, energies_of, published_in}

-- A direction and its index

-- the directions of the four borders are eight indices
pub direction-small : (b : ℕ) (e : Bool) → b < 5 → direction b e < 8
unfolding direction
direction-small b true h = omega arith
direction-small b false h = omega arith

-- the border at a direction's index
pub direction-border : (b : ℕ) (e : Bool) → 0 < b → direction b e / 2 + 1 ≡ b
unfolding direction
direction-border b true h = omega arith
direction-border b false h = omega arith

-- and whether it is the export
pub direction-export : (b : ℕ) (e : Bool) → eqb (direction b e % 2) 0 ≡ e
unfolding direction
direction-export b true = eq-eqb (((b - 1) * 2 + 0) % 2) 0 (omega arith)
direction-export b false = ne_eqb (((b - 1) * 2 + 1) % 2) 0 (λ z. absurd (omega arith))

-- the index of the direction at an index
pub direction-back : (d : ℕ) → direction (d / 2 + 1) (eqb (d % 2) 0) ≡ d
unfolding direction
direction-back d =
    by_bool (eqb (d % 2) 0) (λ e. let q = eqb-true (d % 2) 0 e in rw e (omega arith))
    (λ e. let q = odd d (eqb-false (d % 2) 0 e) in rw e (omega arith))
  where
    odd : (d : ℕ) → (d % 2 ≡ 0 → ⊥) → d % 2 ≡ 1
    odd d f = ⊎_elim (λ z. absurd (f (sym z))) (λ (z : 0 < d % 2). omega arith) (eq-or-lt_of_le (let m : 0 ≤ d % 2 = omega arith in m))

-- different directions have different indices
pub directions-same : (b c : ℕ) (e f : Bool) → 0 < b → 0 < c → (eqb b c && beq e f) ≡ eqb (direction b e) (direction c f)
unfolding direction
directions-same b c true true h k =
    by_bool (eqb b c) (λ t. let q = eqb-true b c t in rw t (sym (eq-eqb ((b - 1) * 2 + 0) ((c - 1) * 2 + 0) (omega arith))))
    (λ t. rw t (sym (ne_eqb ((b - 1) * 2 + 0) ((c - 1) * 2 + 0) (λ z. eqb-false b c t (omega arith)))))
directions-same b c false false h k =
    by_bool (eqb b c) (λ t. let q = eqb-true b c t in rw t (sym (eq-eqb ((b - 1) * 2 + 1) ((c - 1) * 2 + 1) (omega arith))))
    (λ t. rw t (sym (ne_eqb ((b - 1) * 2 + 1) ((c - 1) * 2 + 1) (λ z. eqb-false b c t (omega arith)))))
directions-same b c true false h k =
    by_bool (eqb b c) (λ t. rw t (sym (ne_eqb ((b - 1) * 2 + 0) ((c - 1) * 2 + 1) (λ z. absurd (omega arith)))))
    (λ t. rw t (sym (ne_eqb ((b - 1) * 2 + 0) ((c - 1) * 2 + 1) (λ z. absurd (omega arith)))))
directions-same b c false true h k =
    by_bool (eqb b c) (λ t. rw t (sym (ne_eqb ((b - 1) * 2 + 1) ((c - 1) * 2 + 0) (λ z. absurd (omega arith)))))
    (λ t. rw t (sym (ne_eqb ((b - 1) * 2 + 1) ((c - 1) * 2 + 0) (λ z. absurd (omega arith)))))

-- A holder's own

-- at one of the four borders it is that of its border and side
pub own-abroad : (b : ℕ) (p : Bool) → 0 < b → b < 5 → own_direction b p ≡ Some (direction b p)
unfolding own_direction
own-abroad b p h k = rw (lt-ltb 0 b h, lt-ltb b 5 k)

-- elsewhere there is none
pub own-none : (b : ℕ) (p : Bool) → (0 < b → b < 5 → ⊥) → own_direction b p ≡ None
unfolding own_direction
own-none b p f =
    by_bool (ltb 0 b)
    (λ t. by_bool (ltb b 5) (λ u. absurd (f (ltb-true 0 b t) (ltb-true b 5 u))) (λ u. rw (t, u)))
    (λ t. rw t)

-- at border 0
pub own-home : (b : ℕ) (p : Bool) → b ≡ 0 → own_direction b p ≡ None
own-home b p z = own-none b p (λ h k. absurd (omega arith))

-- and it is one of the eight
pub own-small : (b : ℕ) (p : Bool) (d : ℕ) → own_direction b p ≡ Some d → d < 8
unfolding own_direction
own-small b p d e =
    let c = cond_some (ltb 0 b && ltb b 5) (direction b p) d e in
    omega (arith, direction-small b p (ltb-true b 5 (both (ltb 0 b) (ltb b 5) c.0).1), c.1)

-- an energy runs at a border in a direction exactly if that is its holder's own
pub runs-direction : (b : ℕ) (e : Bool) → 0 < b → b < 5 → (x : Holder) → runs b e x ≡ option_eq eqb (own_direction x.border x.purchase) (Some (direction b e))
unfolding runs
runs-direction b e h k x =
    by_bool (ltb 0 x.border)
    (λ t. let l = ltb-true 0 x.border t in
    by_bool (ltb x.border 5)
    (λ u. rw (own-abroad x.border x.purchase l (ltb-true x.border 5 u)) (directions-same x.border b x.purchase e l h))
    (λ u. outside (λ i j. false≢true (sym u ∙ lt-ltb x.border 5 j))))
    (λ t. outside (λ i j. false≢true (sym t ∙ lt-ltb 0 x.border i)))
  where
    outside : (0 < x.border → x.border < 5 → ⊥) → (eqb x.border b && beq x.purchase e) ≡ option_eq eqb (own_direction x.border x.purchase) (Some (direction b e))
    outside f = rw (own-none x.border x.purchase f, ne_eqb x.border b (λ z. f (omega arith) (omega arith)))

-- so it runs in the direction at an index exactly if that is its own
pub runs-directed : (a : List ℕ) (d : ℕ) → d < 8 → (x : Holder) → runs (directed a d).border (directed a d).export x ≡ option_eq eqb (own_direction x.border x.purchase) (Some d)
unfolding directed
runs-directed a d h x =
    runs-direction (d / 2 + 1) (eqb (d % 2) 0) (omega arith) (omega arith) x ∙ ap (λ k. option_eq eqb (own_direction x.border x.purchase) (Some k)) (direction-back d)

-- Which of an array's directions an energy runs in

-- none of the indices that are not its own
any-other : (p : ℕ → Bool) (k : ℕ) {ds : List ℕ} → All (λ d. eqb k d ≡ false) ds → any (λ d. eqb k d) (keep p ds) ≡ false
unfolding any keep
any-other p k none = refl
any-other p k (more {x = d} h t) = by_bool (p d) (λ e. rw (e, h) (any-other p k t)) (λ e. rw e (any-other p k t))

-- its own, if that is among them
any-own : (p : ℕ → Bool) (k i n : ℕ) → i ≤ k → k < i + n → any (λ d. eqb k d) (keep p (from i n)) ≡ p k
unfolding any keep from
any-own p k i zero h l = absurd (omega arith)
any-own p k i (suc n) h l =
    by_bool (eqb k i)
    (λ e. let q = eqb-true k i e in
    by_bool (p i) (λ t. rw (t, e) (sym t ∙ ap p (sym q)))
    (λ t. rw t (any-other p k (from_all _ (suc i) n (λ j a b. ne_eqb k j (λ z. absurd (omega arith)))) ∙ sym t ∙ ap p (sym q))))
    (λ e. let r = any-own p k (suc i) n (apart (eqb-false k i e)) (omega arith) in
    by_bool (p i) (λ t. rw (t, e) r) (λ t. rw t r))
  where
    apart : (k ≡ i → ⊥) → suc i ≤ k
    apart d = ⊎_elim (λ z. absurd (d (sym z))) (λ z. z) (eq-or-lt_of_le h)

-- an energy that runs in one of some directions
among-indices : (a : List ℕ) (x : Holder) {ds : List ℕ} → All (λ d. d < 8) ds
    → any (λ d. runs d.border d.export x) (map (directed a) ds) ≡ any (λ d. option_eq eqb (own_direction x.border x.purchase) (Some d)) ds
unfolding any
among-indices a x none = refl
among-indices a x (more {x = d} h t) = ap₂ (λ b c. b || c) (runs-directed a d h x) (among-indices a x t)

in-none : (ds : List ℕ) → any (λ d. option_eq eqb None (Some d)) ds ≡ false
unfolding any
in-none [] = refl
in-none (d ∷ ds) = in-none ds

module _ (a : List ℕ) (p : ℕ → Bool) (x : Holder) where
  among-kept : any (λ d. runs d.border d.export x) (map (directed a) (keep p (from 0 8))) ≡ any (λ d. option_eq eqb (own_direction x.border x.purchase) (Some d)) (keep p (from 0 8))
  among-kept = among-indices a x (all_keep p (from_all _ 0 8 (λ d h k. omega arith)))

  -- one with a direction of its own: if that passes the test
  pub among-directions : (d : ℕ) → own_direction x.border x.purchase ≡ Some d → d < 8 → any (λ d. runs d.border d.export x) (map (directed a) (keep p (from 0 8))) ≡ p d
  among-directions d e h = among-kept ∙ rw e (any-own p d 0 8 (omega arith) (omega arith))

  -- one with none: in none
  pub among-none : own_direction x.border x.purchase ≡ None → any (λ d. runs d.border d.export x) (map (directed a) (keep p (from 0 8))) ≡ false
  among-none e = among-kept ∙ rw e (in-none (keep p (from 0 8)))

-- Each direction stands once

from-apart : (i n : ℕ) → Pairwise (λ c d. eqb c d ≡ false) (from i n)
unfolding from
from-apart i zero = empty
from-apart i (suc n) = ahead (from_all _ (suc i) n (λ j h k. ne_eqb i j (λ z. absurd (omega arith)))) (from-apart (suc i) n)

directed-apart : (a : List ℕ) (c d : ℕ) → eqb c d ≡ false → same_direction (directed a c) (directed a d) ≡ false
unfolding same_direction directed
directed-apart a c d h =
    directions-same (c / 2 + 1) (d / 2 + 1) (eqb (c % 2) 0) (eqb (d % 2) 0) (omega arith) (omega arith) ∙ ap₂ eqb (direction-back c) (direction-back d) ∙ h

directions-once : (a : List ℕ) (p : ℕ → Bool) → Once (map (directed a) (keep p (from 0 8)))
directions-once a p = pairwise_map (directed a) (directed-apart a) (pairwise-keep p (from-apart 0 8))

pub published-once : (a : List (Option ℕ)) → Once (published_in a)
unfolding published_in
published-once a = directions-once (energies_of a) (λ d. is_some (get_or a d None))

-- What is counted beside a lodgement: marks by index, and the indices of units.
use Prim.Native.Nat.{ℕ, zero, suc, ◌+◌, ◌<◌}
use mathlib.Core.Path.{◌≡◌, refl, sym, ap, ◌∙◌}
use mathlib.Core.Bool.{Bool, true, false, cond, ◌&&◌}
use mathlib.Core.List.{List, [], ◌∷◌, map}
use native.Mathlib.Omega.{arith}
use lib.Dec.{eqb, ltb}
use lib.ListN.{length, get_or, replicate, length-map, length-replicate, get_or-replicate, get_or-eq_default}
use lib.Seq.{ext_get_or}
use borrow.Author.Tests.{eqb-true, eqb-false, eq-eqb, ne_eqb, ltb-true, ltb-false}
use Rattle.rules.specs.Lists.{from}
use Rattle.rules.specs.Closing as C
use Rattle.rules.proofs.BoolLaws.{by_bool, not-both}
use Rattle.session.specs.Image.{verdict_as, no_verdict, no_unit}
use Rattle.session.specs.Parts.{index_of, number_is}
use Rattle.session.specs.declared.Unit.{Unit}
use Rattle.session.specs.declared.Verdict.{Verdict}
use Rattle.judge_loads.specs.Loads.{marked}
use Rattle.judge_loads.proofs.MarkLaws.{marked-nothing}
use Rattle.judge_loads.proofs.LoadLaws.{and-false}
use Rattle.close_judge.specs.Classes.{held_at, accepted_for, Used}
use Rattle.std.specs.Prelude.{Some, None}
use Rattle.std.specs.Option.{option_eq}
use Rattle.std.specs.declared.option.Option as O
use Rattle.session.proofs.IndexLaws.{get_or-map}

-- Numbers in a row

pub length_from : (i n : ℕ) → length (from i n) ≡ n
unfolding from
length_from i zero = refl
length_from i (suc n) = ap suc (length_from (suc i) n)

from_at : (i n j : ℕ) → j < n → get_or (from i n) j 0 ≡ i + j
unfolding from
from_at i zero j h = absurd (omega arith)
from_at i (suc n) zero h = omega arith
from_at i (suc n) (suc j) h = omega (arith, from_at (suc i) n j (omega arith))

-- A list by index

module _ {A : Type 0} (f : ℕ → A) (n : ℕ) where
  here : (j : ℕ) → j < n → get_or (from 0 n) j 0 ≡ j
  here j h = omega (arith, from_at 0 n j h)

  -- what stands at an index of it
  pub indices-at : (d : A) (j : ℕ) → j < n → get_or (map f (from 0 n)) j d ≡ f j
  indices-at d j h = let m = length_from 0 n in get_or-map f 0 d (from 0 n) j (omega arith) ∙ ap f (here j h)

-- an index counts if it is passed, accepted and of the unit
pub counted-as : (passed : Bool) (v : C.Verdict) (unit : Bool) → ((cond passed (verdict_as v) no_verdict).accepted && unit) ≡ (C.is_accepted v && (unit && passed))
unfolding verdict_as C.is_accepted
counted-as true C.accepted true = refl
counted-as true C.accepted false = refl
counted-as true C.hidden unit = refl
counted-as true (C.limit n h) unit = refl
counted-as false C.accepted true = refl
counted-as false C.accepted false = refl
counted-as false C.hidden unit = refl
counted-as false (C.limit n h) unit = refl

-- Indices of units

index-passes : {A : Type 0} (q : A → Bool) (d : A) (xs : List A) → index_of q xs < length xs → q (get_or xs (index_of q xs) d) ≡ true
unfolding index_of
index-passes q d [] h = absurd (omega arith)
index-passes q d (x ∷ xs) h = by_bool (q x) (λ e. rw e e) (λ e. rw e (index-passes q d xs (omega (arith, rw e at h))))

-- units of different numbers stand at different indices
pub indices-differ : (us : List Unit) (a b : ℕ) → index_of (number_is a) us < length us → index_of (number_is b) us ≡ index_of (number_is a) us → b ≡ a
indices-differ us a b h e =
    let x = eqb-true (get_or us (index_of (number_is a) us) no_unit).number a (index-passes (number_is a) no_unit us h) in
    let y = eqb-true (get_or us (index_of (number_is b) us) no_unit).number b (index-passes (number_is b) no_unit us (omega arith)) in
    sym y ∙ ap (λ p. (get_or us p no_unit).number) e ∙ x

pub indices-tell : (us : List Unit) (a b : ℕ) → index_of (number_is a) us < length us → eqb (index_of (number_is b) us) (index_of (number_is a) us) ≡ eqb b a
indices-tell us a b h =
    by_bool (eqb b a) (λ t. let q = eqb-true b a t in rw (t, q) (eq-eqb (index_of (number_is a) us) (index_of (number_is a) us) refl))
    (λ t. rw t (ne_eqb (index_of (number_is b) us) (index_of (number_is a) us) (λ e. eqb-false b a t (indices-differ us a b h e))))

-- marks that are the same as far as the list goes mark the same
pub marked-same : {A : Type 0} (cs bs : List Bool) (xs : List A) → length cs ≡ length bs → ((j : ℕ) → j < length xs → get_or cs j false ≡ get_or bs j false) → marked cs xs ≡ marked bs xs
unfolding marked
marked-same [] [] xs l f = refl
marked-same [] (b ∷ bs) xs l f = absurd (omega arith)
marked-same (c ∷ cs) [] xs l f = absurd (omega arith)
marked-same (c ∷ cs) (b ∷ bs) [] l f = refl
marked-same (c ∷ cs) (b ∷ bs) (x ∷ xs) l f =
    let q : c ≡ b = f 0 (omega arith) in
    rw (q, marked-same cs bs xs (omega arith) (λ j k. f (suc j) (omega arith)))

-- whether an index is held
module _ (p : ℕ) (vs : List Verdict) (holders : List (O.Option ℕ)) (l : ℕ) (h : l < 128) where
  held-is : get_or (map (held_at p vs holders) (from 0 128)) l false ≡ held_at p vs holders l
  held-is = indices-at (held_at p vs holders) 128 false l h

  pub not-accepted : (get_or vs l no_verdict).accepted ≡ false → get_or (map (held_at p vs holders) (from 0 128)) l false ≡ false
  unfolding held_at
  not-accepted e = held-is ∙ rw e

  pub not-holder : option_eq eqb (get_or holders l None) (Some p) ≡ false → get_or (map (held_at p vs holders) (from 0 128)) l false ≡ false
  unfolding held_at
  not-holder e = held-is ∙ rw e (and-false (get_or vs l no_verdict).accepted false refl)

  pub held_on : (get_or vs l no_verdict).accepted ≡ true → option_eq eqb (get_or holders l None) (Some p) ≡ true → get_or (map (held_at p vs holders) (from 0 128)) l false ≡ true
  unfolding held_at
  held_on e q = held-is ∙ rw (e, q)

-- Units of which a lodgement is accepted

pub used_start : (v : Verdict) (holders : List (O.Option ℕ)) (used : List Bool) → v ≡ no_verdict → Used (replicate 128 v) holders used
used_start v holders used e j q t h = not-both t (by_bool (ltb j 128)
    (λ l. ap (λ (x : Verdict). x.accepted) (get_or-replicate 128 j v no_verdict (ltb-true j 128 l) ∙ e))
    (λ l. ap (λ (x : Verdict). x.accepted) (get_or-eq_default (replicate 128 v) no_verdict {n = j} (omega (arith, ltb-false j 128 l, length-replicate 128 v)))))

-- of another none counts
pub none-accepted : (p : ℕ) (vs : List Verdict) (holders : List (O.Option ℕ)) (used : List Bool) → Used vs holders used → get_or used p false ≡ false → [] ≡ accepted_for p vs holders
unfolding held_at
none-accepted p vs holders used f u = sym (ap (λ bs. marked bs (from 0 (length holders))) blank ∙ marked-nothing 128 (from 0 (length holders)))
  where
    counts_not : (r : O.Option ℕ) → ((q : ℕ) → r ≡ Some q → get_or used q false ≡ true) → option_eq eqb r (Some p) ≡ false
    counts_not None g = refl
    counts_not (Some q) g = ne_eqb q p (λ n. not-both (rw n at (g q refl)) u)

    none : (j : ℕ) → held_at p vs holders j ≡ false
    none j = by_bool (get_or vs j no_verdict).accepted (λ a. rw (a, counts_not (get_or holders j None) (λ q b. f j q a b))) (λ a. rw a)

    blank : map (held_at p vs holders) (from 0 128) ≡ replicate 128 false
    blank = ext_get_or false (map (held_at p vs holders) (from 0 128)) (replicate 128 false) (length-map (from 0 128) (held_at p vs holders) ∙ length_from 0 128 ∙ sym (length-replicate 128 false))
        (λ j m. let in_list : j < 128 = omega (arith, length-map (from 0 128) (held_at p vs holders), length_from 0 128) in
        indices-at (held_at p vs holders) 128 false j in_list ∙ (none j ∙ sym (get_or-replicate 128 j false false in_list)))

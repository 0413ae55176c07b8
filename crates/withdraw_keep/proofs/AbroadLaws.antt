-- A step changes nothing domestic: what it does to the offers at a border, put back at their indices, is what it does to all.
use Rattle.std.proofs.Common.{ℕ, suc, ◌+◌, ◌≡◌, refl, sym, ◌∙◌, ap, ◌<◌, ◌≤◌, Bool, true, false, not, ◌&&◌, List, [], ◌∷◌, ◌++◌, map, length, get_or, eqb, ltb, min, max, arith}
use Rattle.std.specs.Bool.{beq}
use Rattle.std.proofs.Math.Option.{Option, some, none as no_price}
use Rattle.std.proofs.Math.Seq.{set-append_seam, get_or-append_seam, append_snoc}
use Rattle.std.proofs.lemmas.List.{length-append}
use mathlib.Core.Bool.{false≢true}
use borrow.Author.Tests.{eqb-true, not-false}
use Rattle.rules.specs.Lists.{All, none, more, Each, each0, each, keep, any, sum, sum_of}
use Rattle.rules.specs.Match.{Offer, with_energies}
use Rattle.rules.specs.Borders.{runs, at_border, flow}
use Rattle.rules.specs.Withdrawal.{runs_in, runs_among, keep_matched, prices_over, extreme, purchases_below, sales_above, choose, group_of}
use Rattle.rules.proofs.BoolLaws.{by_bool, both}
use Rattle.rules.proofs.ListLaws.{keep-map, keep-keep, keep_same}
use Rattle.rules.proofs.ElementLaws.{all-every, each_map}
use Rattle.hour_borders.specs.Directions.{over_in}
use Rattle.hour_borders.proofs.DirectionLaws.{own-home}
use Rattle.withdraw_keep.specs.Abroad.{crosses, abroad_of, places_from, put_at}
use Rattle.withdraw_keep.proofs.KeptLaws.{among-outside}

-- Domestic offers

-- of a test that only offers at a border pass, those are all that pass
pub keep-abroad : (q : Offer → Bool) → ((o : Offer) → q o ≡ true → crosses o ≡ true) → (os : List Offer) → keep q (abroad_of os) ≡ keep q os
unfolding abroad_of
keep-abroad q f os = keep-keep crosses q os ∙ keep_same (λ o. crosses o && q o) q (all-every (λ o. by_bool (q o) (λ t. rw (t, f o t)) (λ t. rw t (last (crosses o)))) os)
  where
    last : (b : Bool) → (b && false) ≡ false
    last true = refl
    last false = refl

home-border : (o : Offer) → crosses o ≡ false → o.holder.border ≡ 0
unfolding crosses
home-border o e = eqb-true o.holder.border 0 (not-false (eqb o.holder.border 0) e)

-- a domestic offer runs in no direction passed
pub home-runs : (over : List ℕ) (o : Offer) → crosses o ≡ false → runs_among (over_in over) o ≡ false
home-runs over o e = among-outside over o (own-home o.holder.border o.holder.purchase (home-border o e))

pub runs-crosses : (over : List ℕ) (o : Offer) → runs_among (over_in over) o ≡ true → crosses o ≡ true
runs-crosses over o t = by_bool (crosses o) (λ c. c) (λ c. absurd (false≢true (sym (home-runs over o c) ∙ t)))

runs-there : (b : ℕ) (e : Bool) → 0 < b → (o : Offer) → runs b e o.holder ≡ true → crosses o ≡ true
unfolding runs
runs-there b e h o t =
    by_bool (crosses o) (λ c. c)
    (λ c. let z = eqb-true o.holder.border b (both (eqb o.holder.border b) (beq o.holder.purchase e) t).0 in absurd (omega (arith, home-border o c)))

-- the flow at a border is that of the offers there
pub flow-abroad : (b : ℕ) (e : Bool) → 0 < b → (os : List Offer) → flow (λ (o : Offer). o.holder) (λ o. o.matched) b e (abroad_of os) ≡ flow (λ (o : Offer). o.holder) (λ o. o.matched) b e os
unfolding flow
flow-abroad b e h os = ap (sum_of (λ (o : Offer). at_border o.holder o.matched)) (keep-abroad (λ o. runs b e o.holder) (runs-there b e h) os)

-- An offer and what a step leaves of it: the same where it is domestic.
pub record Homed (before after : Offer) : Type 0 where
  pub same : crosses after ≡ crosses before
  pub home : crosses before ≡ false → after ≡ before

pub homed-trans : (a b c : Offer) → Homed a b → Homed b c → Homed a c
homed-trans a b c h k = record { same = k.same ∙ h.same; home = λ e. k.home (h.same ∙ e) ∙ h.home e }

-- Indices

put-on : (pre : List Offer) {os ps : List Offer} → Each Homed os ps → put_at (places_from (length pre) os) (abroad_of ps) (pre ++ os) ≡ pre ++ ps
unfolding put_at places_from abroad_of keep
put-on pre each0 = refl
put-on pre (each {x = o} {y = p} {xs} {ys} h t) =
    let n : length (pre ++ (p ∷ [])) ≡ suc (length pre) = length-append pre (p ∷ []) ∙ omega arith in
    let next : put_at (places_from (suc (length pre)) xs) (keep crosses ys) (pre ++ p ∷ xs) ≡ pre ++ p ∷ ys =
    (rw (n, append_snoc pre p xs, append_snoc pre p ys) at (put-on (pre ++ (p ∷ [])) t)) in
    by_bool (crosses o)
    (λ c. rw (c, h.same ∙ c, set-append_seam pre o xs p) next)
    (λ c. rw (c, h.same ∙ c, h.home c) (rw (h.home c) at next))

-- the offers at a border, put back at their indices
pub put-back : {os ps : List Offer} → Each Homed os ps → put_at (places_from 0 os) (abroad_of ps) os ≡ ps
put-back t = put-on [] t

read-on : (pre : List Offer) (d : Offer) (os : List Offer) → map (λ i. get_or (pre ++ os) i d) (places_from (length pre) os) ≡ abroad_of os
unfolding places_from abroad_of keep
read-on pre d [] = refl
read-on pre d (o ∷ os) =
    let n : length (pre ++ (o ∷ [])) ≡ suc (length pre) = length-append pre (o ∷ []) ∙ omega arith in
    let next : map (λ i. get_or (pre ++ o ∷ os) i d) (places_from (suc (length pre)) os) ≡ keep crosses os = (rw (n, append_snoc pre o os) at (read-on (pre ++ (o ∷ [])) d os)) in
    by_bool (crosses o)
    (λ c. rw c (rw (get_or-append_seam pre o os d) (ap (λ (l : List Offer). o ∷ l) next)))
    (λ c. rw c next)

-- the offers at their indices
pub read-abroad : (d : Offer) (os : List Offer) → map (λ i. get_or os i d) (places_from 0 os) ≡ abroad_of os
read-abroad d os = read-on [] d os

-- indices are those of offers with the same holders
pub places-same : {R : Offer → Offer → Type 0} → ((o p : Offer) → R o p → p.holder ≡ o.holder) → (i : ℕ) {os ps : List Offer} → Each R os ps → places_from i ps ≡ places_from i os
unfolding places_from crosses
places-same f i each0 = refl
places-same f i (each {x = o} {y = p} {xs} {ys} h t) = rw (f o p h, places-same f (suc i) t)

-- one index for each
pub places-length : (i : ℕ) (os : List Offer) → length (places_from i os) ≡ length (abroad_of os)
unfolding places_from abroad_of keep
places-length i [] = refl
places-length i (o ∷ os) =
    by_bool (crosses o) (λ c. rw c (ap suc (places-length (suc i) os))) (λ c. rw c (places-length (suc i) os))

-- and each is one of an offer
pub places-inside : (i n : ℕ) (os : List Offer) → i + length os ≤ n → All (λ j. j < n) (places_from i os)
unfolding places_from
places-inside i n [] h = none
places-inside i n (o ∷ os) h =
    by_bool (crosses o) (λ c. rw c (more {x = i} (omega arith) (places-inside (suc i) n os (omega arith)))) (λ c. rw c (places-inside (suc i) n os (omega arith)))

-- 1. and 2.

mapped-kept : (f : Offer → Offer) (q : Offer → Bool) (h : Offer → ℕ) → ((o : Offer) → q (f o) ≡ q o) → ((o : Offer) → h (f o) ≡ h o) → (os : List Offer)
    → map h (keep q (map f os)) ≡ map h (keep q os)
unfolding keep
mapped-kept f q h e k [] = refl
mapped-kept f q h e k (o ∷ os) =
    by_bool (q o) (λ t. rw (e o, t, k o) (ap (λ l. h o ∷ l) (mapped-kept f q h e k os))) (λ t. rw (e o, t) (mapped-kept f q h e k os))

module _ (over : List ℕ) where
  pub kept-abroad : (os : List Offer) → abroad_of (map (keep_matched (over_in over)) os) ≡ map (keep_matched (over_in over)) (abroad_of os)
  unfolding abroad_of crosses keep_matched with_energies
  kept-abroad os = keep-map (keep_matched (over_in over)) crosses os

  pub kept-homed : (os : List Offer) → Each Homed os (map (keep_matched (over_in over)) os)
  unfolding crosses keep_matched with_energies
  kept-homed os = each_map (keep_matched (over_in over)) (all-every (λ o. record { same = refl; home = λ e. rw (home-runs over o e) refl }) os)

  pub prices-abroad : (side : Bool) (os : List Offer) → prices_over side (over_in over) (abroad_of os) ≡ prices_over side (over_in over) os
  unfolding prices_over
  prices-abroad side os =
      ap (map (λ (o : Offer). o.price)) (keep-abroad (λ o. beq o.holder.purchase side && ltb 0 o.matched && not o.holder.legacy && runs_among (over_in over) o)
      (λ o t. runs-crosses over o (both (beq o.holder.purchase side && ltb 0 o.matched && not o.holder.legacy) (runs_among (over_in over) o) t).1) os)

  -- the choice looks at nothing that is offered
  pub kept-group : (os : List Offer) → group_of (over_in over) (map (keep_matched (over_in over)) os) ≡ group_of (over_in over) os
  unfolding group_of prices_over purchases_below sales_above choose sum_of keep_matched with_energies runs_among runs_in any
  kept-group os =
      let f = keep_matched (over_in over) in
      let ps : prices_over true (over_in over) (map f os) ≡ prices_over true (over_in over) os = mapped-kept f _ _ (λ o. refl) (λ o. refl) os in
      let qs : prices_over false (over_in over) (map f os) ≡ prices_over false (over_in over) os = mapped-kept f _ _ (λ o. refl) (λ o. refl) os in
      rw (ps, qs) (chosen (extreme min (prices_over true (over_in over) os)) (extreme max (prices_over false (over_in over) os)))
    where
      chosen : (p q : Option ℕ) → choose (map (keep_matched (over_in over)) os) p q ≡ choose os p q
      chosen no_price no_price = refl
      chosen (some p) no_price = refl
      chosen no_price (some q) = refl
      chosen (some p) (some q) =
          let f = keep_matched (over_in over) in
          let a : purchases_below p (map f os) ≡ purchases_below p os = ap sum (mapped-kept f _ _ (λ o. refl) (λ o. refl) os) in
          let b : sales_above q (map f os) ≡ sales_above q os = ap sum (mapped-kept f _ _ (λ o. refl) (λ o. refl) os) in
          rw (a, b)

-- Who gives way, and what is taken, direction by direction.
use Rattle.std.proofs.Common.{ap₂, add-one, ℕ, zero, suc, ◌+◌, ◌≡◌, refl, sym, ◌∙◌, ap, ◌<◌, ◌≤◌, max, Bool, true, false, cond, ◌&&◌, ◌||◌, List, [], ◌∷◌, map, take, length, get_or, set, ltb, eqb, arith}
use Rattle.rules.specs.Lists.{All, none, more, any, keep}
use Rattle.std.specs.Prelude.{Some}
use Rattle.std.specs.Option.{option_eq}
use Rattle.rules.proofs.IndexLaws.{from_all}
use Rattle.rules.specs.Match.{Offer, with_energies}
use Rattle.rules.specs.Borders.{Directed, kept_energy, at_border, keeps}
use Rattle.rules.specs.Withdrawal.{Group, runs_in, runs_among, in_group, gives_way, amounts, deductions, all_deductions, remain, take_from}
use Rattle.rules.specs.Lists.{Each, each0, each}
use Rattle.rules.proofs.BoolLaws.{by_bool}
use Rattle.rules.proofs.ElementLaws.{each-refl}
use lib.Seq.{take_all}
use Rattle.hour_offers.specs.declared.Offer.{Offer as Held}
use Rattle.hour_offers.specs.View.{offer_in, offers_in}
use Rattle.withdraw_keep.specs.Change.{Changed}
use Rattle.std.proofs.lemmas.List.{length-map, map-set}
use Rattle.std.proofs.Math.ListN.{get_or-map}
use Rattle.rules.specs.Units.{max_energy}
use Rattle.rules.proofs.SumLaws.{cond-le}
use Rattle.rules.proofs.CrossingLaws.{at-le, at_none, kept-le}
use Rattle.hour_share.specs.Deductions.{AmountInRange}
use Rattle.hour_share.specs.Deductions.{energy_in, deductions_in, deductions_over, deductions_from}
use Rattle.hour_borders.specs.Directions.{own_direction, directed, over_in}
use Rattle.hour_borders.proofs.DirectionLaws.{runs-directed}
use Rattle.withdraw_take.specs.Given.{gives_in, given_of}

-- an offer gives way in one of the directions passed if it runs in one and is of the group
pub gives-among : (g : Group) (ds : List Directed) (o : Offer) → gives_in g ds o ≡ (runs_among ds o && in_group g o)
unfolding any gives_way runs_among
gives-among g [] o = refl
gives-among g (d ∷ ds) o = rw (gives-among g ds o) (either-both (runs_in d o) (any (λ d. runs_in d o) ds) (in_group g o))
  where
    either-both : (a b c : Bool) → ((a && c) || (b && c)) ≡ ((a || b) && c)
    either-both true true true = refl
    either-both true true false = refl
    either-both true false true = refl
    either-both true false false = refl
    either-both false b c = refl

module _ (g : Group) (over : List ℕ) where
  -- what an offer that gives way in a direction counts for
  energy : (d : ℕ) → d < 8 → (o : Offer) → energy_in d (given_of g o) ≡ cond (gives_way g (directed over d) o) (at_border o.holder o.matched) 0
  unfolding energy_in gives_way runs_in
  energy d h o =
      rw (runs-directed over d h o.holder)
      (by_bool (option_eq eqb (own_direction o.holder.border o.holder.purchase) (Some d)) (λ t. rw t (of-group (in_group g o))) (λ t. rw t refl))
    where
      of-group : (b : Bool) → at_border o.holder (cond b o.matched 0) ≡ cond b (at_border o.holder o.matched) 0
      of-group true = refl
      of-group false = at_none o.holder

  energies : (d : ℕ) → d < 8 → (os : List Offer) → map (energy_in d) (map (given_of g) os) ≡ amounts g (directed over d) os
  unfolding amounts
  energies d h [] = refl
  energies d h (o ∷ os) = rw (energy d h o) (ap (λ l. cond (gives_way g (directed over d) o) (at_border o.holder o.matched) 0 ∷ l) (energies d h os))

  -- "is taken by Share"
  lost : (d : ℕ) → d < 8 → (os : List Offer) → deductions_in (map (given_of g) os) (get_or over d 0) d ≡ deductions g os (directed over d)
  unfolding deductions_in deductions directed
  lost d h os = rw (energies d h os)

  nothing : (os : List Offer) → map {B = ℕ} (λ a. 0) (map (given_of g) os) ≡ map (λ o. 0) os
  nothing [] = refl
  nothing (o ∷ os) = ap (λ l. 0 ∷ l) (nothing os)

  lost-over : {ds : List ℕ} → All (λ d. d < 8) ds → (os : List Offer) → deductions_over over (map (given_of g) os) ds ≡ all_deductions g os (map (directed over) (keep (λ d. ltb 0 (get_or over d 0)) ds))
  unfolding deductions_over all_deductions keep
  lost-over none os = nothing os
  lost-over (more {x = d} h t) os =
      by_bool (ltb 0 (get_or over d 0))
      (λ u. rw (u, lost d h os, lost-over t os))
      (λ u. rw (u, lost-over t os))

  -- in all directions passed
  pub all-lost : (os : List Offer) → deductions_from over (map (given_of g) os) 0 ≡ all_deductions g os (over_in over)
  unfolding deductions_from over_in
  all-lost os = lost-over (from_all _ 0 8 (λ d h k. omega arith)) os

-- One offer more that is written

module _ (p : Offer → Bool) where
  pub left-none : (os : List Offer) → remain p [] os ≡ os
  unfolding remain
  left-none [] = refl
  left-none (o ∷ os) = refl

  left : ℕ → Offer → Offer
  left k o = with_energies (cond (p o) (keeps o.holder o.matched k) o.offered) o.matched o

  -- the next is as it was
  remain-read : (ks : List ℕ) (os : List Offer) (i : ℕ) (d : Offer) → i < length os → get_or (remain p (take i ks) os) i d ≡ get_or os i d
  unfolding remain
  remain-read ks [] i d h = absurd (omega arith)
  remain-read ks (o ∷ os) zero d h = refl
  remain-read [] (o ∷ os) (suc i) d h = refl
  remain-read (k ∷ ks) (o ∷ os) (suc i) d h = remain-read ks os i d (omega arith)

  remain-more : (ks : List ℕ) (os : List Offer) (i : ℕ) (d : Offer) → i < length os → length ks ≡ length os
      → set (remain p (take i ks) os) i (left (get_or ks i 0) (get_or os i d)) ≡ remain p (take (suc i) ks) os
  unfolding remain left
  remain-more ks [] i d h e = absurd (omega arith)
  remain-more [] (o ∷ os) i d h e = absurd (omega arith)
  remain-more (k ∷ ks) (o ∷ os) zero d h e = ap (λ l. left k o ∷ l) (sym (left-none os))
  remain-more (k ∷ ks) (o ∷ os) (suc i) d h e = ap (λ l. left k o ∷ l) (remain-more ks os i d (omega arith) (omega arith))

module _ (p : Offer → Bool) (ks : List ℕ) (os ps : List Held) (i k r : ℕ) (y : Held) where
  -- one more offer with what remains offered of it
  pub left-more : i < length os → length ks ≡ length os → k ≡ get_or ks i 0 → offers_in ps ≡ remain p (take i ks) (offers_in os) → y ≡ get_or ps i y
      → r ≡ cond (p (offer_in y)) (kept_energy y.holder.loss y.matched k) y.offered
      → offers_in (set ps i (record { holder = y.holder; price = y.price; offered = r; matched = y.matched })) ≡ remain p (take (i + 1) ks) (offers_in os)
  unfolding keeps with_energies left
  left-more h e ek ep ey er =
      let n : i < length (offers_in os) = rw (length-map os offer_in) h in
      let o : offer_in y ≡ get_or (offers_in os) i (offer_in y) =
      ap offer_in ey ∙ sym (get_or-map offer_in ps i y) ∙ ap (λ l. get_or l i (offer_in y)) ep ∙ remain-read p ks (offers_in os) i (offer_in y) n in
      let z : left p k (offer_in y) ≡ left p (get_or ks i 0) (get_or (offers_in os) i (offer_in y)) = ap₂ (left p) ek o in
      rw (er, map-set offer_in ps i (record { holder = y.holder; price = y.price; offered = cond (p (offer_in y)) (kept_energy y.holder.loss y.matched k) y.offered; matched = y.matched }), ep, add-one i)
      (ap (set (remain p (take i ks) (offers_in os)) i) z ∙ remain-more p ks (offers_in os) i (offer_in y) n (e ∙ sym (length-map os offer_in)))

-- at the end each is written
pub all-left : (p : Offer → Bool) (ks : List ℕ) (os : List Offer) (i : ℕ) → length ks ≤ i → remain p (take i ks) os ≡ remain p ks os
all-left p ks os i h = ap (λ l. remain p l os) (take_all i ks h)

-- "is taken by Share", of each offer
pub taken : (g : Group) (over : List ℕ) (os : List Offer) → remain (gives_in g (over_in over)) (all_deductions g os (over_in over)) os ≡ take_from g (over_in over) os
unfolding take_from
taken g over os = refl

map-read : {A B C : Type 0} (r : A → B) (f : B → C) (xs : List A) → map f (map r xs) ≡ map (λ x. f (r x)) xs
map-read r f [] = refl
map-read r f (x ∷ xs) = ap (λ l. f (r x) ∷ l) (map-read r f xs)

-- what each loses is the rules'
pub lost-said : (g : Group) (over : List ℕ) (os : List Held) → deductions_from over (map (λ o. given_of g (offer_in o)) os) 0 ≡ all_deductions g (offers_in os) (over_in over)
lost-said g over os = ap (λ l. deductions_from over l 0) (sym (map-read offer_in (given_of g) os)) ∙ all-lost g over (offers_in os)

unchanged : (o : Offer) → Changed o o
unchanged o = record { holder = refl; price = refl; matched = refl; offered = omega arith }

left-le : (b : Bool) (o : Offer) (k : ℕ) → cond b (keeps o.holder o.matched k) o.offered ≤ max o.offered o.matched
left-le true o k = omega (arith, kept-le o.holder o.matched k)
left-le false o k = omega arith

remain-changed : (p : Offer → Bool) (ks : List ℕ) (os : List Offer) → Each Changed os (remain p ks os)
unfolding remain with_energies
remain-changed p [] [] = each0
remain-changed p [] (o ∷ os) = each-refl unchanged (o ∷ os)
remain-changed p (k ∷ ks) [] = each0
remain-changed p (k ∷ ks) (o ∷ os) = each (record { holder = refl; price = refl; matched = refl; offered = left-le (p o) o k }) (remain-changed p ks os)

-- no offer offers more than before, or than is matched
pub taken-changed : (g : Group) (ds : List Directed) (os : List Offer) → Each Changed os (take_from g ds os)
unfolding take_from
taken-changed g ds os = remain-changed (gives_in g ds) (all_deductions g os ds) os

-- what gives way is no more than is matched
pub given-small : (g : Group) (o : Offer) → o.matched ≤ max_energy → AmountInRange (given_of g o)
given-small g o h = omega (arith, at-le o.holder (cond (in_group g o) o.matched 0), cond-le (in_group g o) o.matched, h)

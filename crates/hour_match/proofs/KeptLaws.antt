-- What stays of an hour's offers while energies change: their orders, and their ranges.
use Prim.Native.Nat.{ℕ, zero, suc, ◌+◌, ◌*◌, ◌≤◌}
use mathlib.Core.Path.{◌≡◌, refl, ap, sym, ◌∙◌}
use mathlib.Core.Bool.{Bool, beq}
use mathlib.Core.List.{List, [], ◌∷◌}
use native.Mathlib.Omega.{arith}
use lib.ListN.{length}
use Rattle.rules.specs.Lists.{All, none, more, Each, each0, each, from}
use Rattle.rules.specs.Units.{max_energy}
use Rattle.rules.specs.Match.{Offer, match_all}
use Rattle.rules.proofs.ListLaws.{all_map, keep_same}
use Rattle.rules.proofs.ElementLaws.{all-every, all_both}
use Rattle.rules.proofs.MatchLaws.{match-within}
use Rattle.rules.proofs.WithdrawalLaws.{Lowered, lowered-refl, lowered-rising, match-lowered}
use Rattle.hour_offers.specs.Sound.{InRangeUnmatched, Sound, SoundUnmatched}
use Rattle.hour_offers.proofs.SoundLaws.{unmatched-of}
use Rattle.hour_match.specs.Orders.{no_offer, nth, rank_of, key_at, insert_on, sort_on, in_order, Along}

-- what `order` gives of a sound hour, as `match_offers` and `price_of` ask for it
pub along-of : {side : Bool} {os : List Offer} {is : List ℕ} → Sound os → is ≡ in_order side os → Along side os is
along-of s e = record { few = s.few; rising = s.rising; priced = all_map (λ o h. h.price) s.in_range; order = e }

-- the same before the match
pub along-unmatched : {side : Bool} {os : List Offer} {is : List ℕ} → SoundUnmatched os → is ≡ in_order side os → Along side os is
along-unmatched s e = record { few = s.few; rising = s.rising; priced = all_map (λ o h. h.price) s.in_range; order = e }

-- Two lists place by place

each-length : {R : Offer → Offer → Type 0} {os ps : List Offer} → Each R os ps → length ps ≡ length os
each-length each0 = refl
each-length (each h t) = ap suc (each-length t)

each-nth : {R : Offer → Offer → Type 0} {os ps : List Offer} → R no_offer no_offer → Each R os ps → (i : ℕ) → R (nth os i) (nth ps i)
each-nth d each0 i = d
each-nth d (each h t) zero = h
each-nth d (each h t) (suc i) = each-nth d t i

each-all : {R : Offer → Offer → Type 0} {P Q : Offer → Type 0} {os ps : List Offer} → ((o p : Offer) → R o p → P o → Q p) → Each R os ps → All P os → All Q ps
each-all f each0 none = none
each-all f (each {x} {y} h t) (more p k) = more (f x y h p) (each-all f t k)

-- The order stays where holders and prices do

insert-same : (f g : ℕ → ℕ) → ((i : ℕ) → f i ≡ g i) → (x : ℕ) (xs : List ℕ) → insert_on f x xs ≡ insert_on g x xs
unfolding insert_on
insert-same f g h x [] = refl
insert-same f g h x (y ∷ xs) = rw (h x, h y, insert-same f g h x xs) refl

sort-same : (f g : ℕ → ℕ) → ((i : ℕ) → f i ≡ g i) → (xs : List ℕ) → sort_on f xs ≡ sort_on g xs
unfolding sort_on
sort-same f g h [] = refl
sort-same f g h (x ∷ xs) = rw (sort-same f g h xs) (insert-same f g h x (sort_on g xs))

module _ {os ps : List Offer} (l : Each Lowered os ps) where
  lowered-nth : (i : ℕ) → Lowered (nth os i) (nth ps i)
  lowered-nth i = each-nth (lowered-refl no_offer) l i

  order-kept : (side : Bool) → in_order side os ≡ in_order side ps
  unfolding in_order key_at
  order-kept side =
      rw (each-length l)
      (ap (sort_on (key_at side os)) (keep_same _ _ (all-every (λ i. ap (λ h. beq h.purchase side) (sym (lowered-nth i).holder)) (from 0 (length os))))
      ∙ sort-same (key_at side os) (key_at side ps) (λ i. ap (λ p. rank_of side p * 128 + i) (sym (lowered-nth i).price)) _)

  -- so an order stays one through a withdrawal step
  pub along-kept : {side : Bool} {is : List ℕ} → Along side os is → Along side ps is
  along-kept {side} a = record {
    few = rw (each-length l) a.few;
    rising = lowered-rising l a.rising;
    priced = each-all (λ o p h k. rw h.price k) l a.priced;
    order = a.order ∙ order-kept side;
  }

  -- ranges are kept, whatever was matched, where what is matched is in its own
  unmatched-kept : All (λ o. o.matched ≤ max_energy) ps → SoundUnmatched os → Sound ps
  unmatched-kept m s = record {
    few = rw (each-length l) s.few;
    rising = lowered-rising l s.rising;
    in_range = all_both (λ p k n. record { border = k.border; price = k.price; offered = k.offered; matched = n })
        (each-all {P = InRangeUnmatched} {Q = InRangeUnmatched} (λ o p h k. let q = k.offered in let z = h.offered in record {
          border = rw (ap (λ x. x.border) h.holder) k.border;
          price = rw h.price k.price;
          offered = omega arith;
        }) l s.in_range) m;
  }

  pub sound-kept : All (λ o. o.matched ≤ max_energy) ps → Sound os → Sound ps
  sound-kept m s = unmatched-kept m (unmatched-of s)

-- after a match
pub match-unmatched : (os : List Offer) → SoundUnmatched os → Sound (match_all os)
match-unmatched os s =
    let l = match-lowered os in
    unmatched-kept l (all_both (λ o h k. omega arith) (match-within os s.rising) (each-all (λ o p h k. let a = h.offered in let b = k.offered in let r : p.offered ≤ max_energy = omega arith in r) l s.in_range)) s

pub match-sound : (os : List Offer) → Sound os → Sound (match_all os)
match-sound os s = match-unmatched os (unmatched-of s)

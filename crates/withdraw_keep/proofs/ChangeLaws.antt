-- Offers of which only what is offered changes are those of an hour still.
use Rattle.std.proofs.Common.{ℕ, zero, suc, ◌≡◌, refl, ap, ◌≤◌, List, [], ◌∷◌, ◌++◌, map, take, drop, length, arith}
use Rattle.rules.specs.Lists.{All, none, more, Each, each0, each}
use Rattle.rules.specs.Match.{Offer}
use Rattle.rules.proofs.ElementLaws.{each-pairwise}
use Rattle.rules.proofs.MatchLaws.{Within}
use Rattle.rules.proofs.WithdrawalLaws.{Lowered}
use Rattle.hour_offers.specs.Sound.{InRange, Sound}
use Rattle.withdraw_keep.specs.Change.{Changed}

each-long : {R : Offer → Offer → Type 0} {os ps : List Offer} → Each R os ps → length ps ≡ length os
each-long each0 = refl
each-long (each r t) = ap suc (each-long t)

changed-ranges : {os ps : List Offer} → Each Changed os ps → All InRange os → All InRange ps
changed-ranges each0 none = none
changed-ranges (each r t) (more h k) =
    more (record { border = rw r.holder h.border; price = rw r.price h.price; offered = omega (arith, r.offered, h.offered, h.matched); matched = rw r.matched h.matched }) (changed-ranges t k)

pub changed-sound : {os ps : List Offer} → Each Changed os ps → Sound os → Sound ps
changed-sound e s = record {
  few = rw (each-long e) s.few;
  rising = each-pairwise (λ a b x y r q h. rw (r.holder, q.holder) h) e s.rising;
  in_range = changed-ranges e s.in_range;
}

-- where no more is matched than offered, no offer offers more
pub changed-lowered : {os ps : List Offer} → Each Changed os ps → Within os → Each Lowered os ps
changed-lowered each0 none = each0
changed-lowered (each r t) (more h k) = each (record { holder = r.holder; price = r.price; offered = let x = r.offered in omega arith }) (changed-lowered t k)

-- Of a loop that writes each element

-- at the end each is written
pub all-written : {A : Type 0} (f : A → A) (xs : List A) (i : ℕ) → length xs ≤ i → map f (take i xs) ++ drop i xs ≡ map f xs
all-written f [] zero h = refl
all-written f [] (suc i) h = refl
all-written f (x ∷ xs) zero h = absurd (omega arith)
all-written f (x ∷ xs) (suc i) h = ap (λ l. f x ∷ l) (all-written f xs i (omega arith))

-- read through another record
pub read-mapped : {A B : Type 0} (r : A → B) (f : A → A) (g : B → B) → ((x : A) → r (f x) ≡ g (r x)) → (xs : List A) → map r (map f xs) ≡ map g (map r xs)
read-mapped r f g e [] = refl
read-mapped r f g e (x ∷ xs) = rw (e x) (ap (λ l. g (r x) ∷ l) (read-mapped r f g e xs))

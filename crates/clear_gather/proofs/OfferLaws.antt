-- How many lodgements an hour of a sound book has: 128 at most, and 64 offers, one of each unit.
use Prim.Native.Nat.{ℕ, suc, ◌+◌, ◌≤◌}
use mathlib.Core.Path.{◌≡◌, refl, sym, ap, ◌∙◌}
use mathlib.Core.Bool.{Bool, true, false, not, ◌&&◌, beq, true≢false, false≢true}
use mathlib.Core.List.{List, [], ◌∷◌}
use native.Mathlib.Omega.{arith}
use lib.Dec.{eqb}
use lib.ListN.{length}
use borrow.Author.Tests.{eqb-true, eq-eqb, ne_eqb, not-false, not-true}
use Rattle.rules.specs.Lists.{All, none, more, Pairwise, empty, ahead, keep, any}
use Rattle.rules.specs.Units as U
use Rattle.rules.specs.Message.{Key, bad_key, bad_contract}
use Rattle.rules.specs.Lodging as L
use Rattle.rules.specs.Book as B
use Rattle.rules.specs.Closing as C
use Rattle.rules.specs.Demands.{Judgement, verdict_of}
use Rattle.rules.specs.Sound as S
use Rattle.rules.proofs.BoolLaws.{by_bool, of-not, of-both, neither, of-beq, eqb-sym}
use Rattle.rules.proofs.ListLaws.{all_map, all_head, all_tail, all_keep, any_false, keep-passes, length-keep}
use Rattle.rules.proofs.ElementLaws.{all_both, pairwise-keep, pairwise-with}
use Rattle.rules.proofs.ClosingLaws.{closing-exactly}

-- Numbers that differ

-- one that is registered and not the first's is a later one's
other-unit : (n : ℕ) (r : U.Registered) (us : List U.Registered) → not (eqb n r.unit.number) ≡ true → U.is_registered (r ∷ us) n ≡ true → U.is_registered us n ≡ true
unfolding U.is_registered U.has_number any
other-unit n r us p q = let d : eqb n r.unit.number ≡ false = not-true (eqb n r.unit.number) p in rw (eqb-sym r.unit.number n, d) at q

module _ {A : Type 0} (key : A → ℕ) where
  keep-whole : (p : A → Bool) {xs : List A} → All (λ x. p x ≡ true) xs → length (keep p xs) ≡ length xs
  unfolding keep
  keep-whole p none = refl
  keep-whole p (more h t) = rw h (ap suc (keep-whole p t))

  -- one of them at most is n
  one_fewer : (n : ℕ) {xs : List A} → Pairwise (λ x y. key x ≡ key y → ⊥) xs → length xs ≤ suc (length (keep (λ x. not (eqb (key x) n)) xs))
  unfolding keep
  one_fewer n empty = omega arith
  one_fewer n (ahead {x = x} {xs = xs} a d) =
      by_bool (eqb (key x) n)
      (λ t. rw t (omega (arith, keep-whole (λ y. not (eqb (key y) n)) (all_map (λ y f. rw (ne_eqb (key y) n (λ z. f (eqb-true _ _ t ∙ sym z)))) a))))
      (λ t. rw t (omega (arith, one_fewer n d)))

  -- so there are no more than units, if each is a unit's
  pub as_many : (us : List U.Registered) {xs : List A} → Pairwise (λ x y. key x ≡ key y → ⊥) xs → All (λ x. U.is_registered us (key x) ≡ true) xs → length xs ≤ length us
  unfolding U.is_registered any
  as_many [] d none = omega arith
  as_many [] d (more h t) = absurd (false≢true h)
  as_many (r ∷ us) {xs} d a =
      omega (
        arith,
        one_fewer r.unit.number d,
        as_many us (pairwise-keep (λ x. not (eqb (key x) r.unit.number)) d)
            (all_both {P = λ x. not (eqb (key x) r.unit.number) ≡ true} {Q = λ x. U.is_registered (r ∷ us) (key x) ≡ true} (λ x p q. other-unit (key x) r us p q) (keep-passes (λ x. not (eqb (key x) r.unit.number)) xs) (all_keep (λ x. not (eqb (key x) r.unit.number)) a)),
      )

-- what holds of each with all holds of each with the later ones, both ways round
both_ways : {A : Type 0} {Q : A → A → Type 0} (xs : List A) → All (λ y. All (λ x. Q x y) xs) xs → Pairwise (λ x y. Q x y × Q y x) xs
both_ways [] none = empty
both_ways (x ∷ xs) (more h t) = ahead (all_both (λ y p q. (all_head p, q)) t (all_tail h)) (both_ways xs (all_map (λ y p. all_tail p) t))

pairwise-both : {A : Type 0} {Q R : A → A → Type 0} {xs : List A} → Pairwise Q xs → Pairwise R xs → Pairwise (λ x y. Q x y × R x y) xs
pairwise-both empty empty = empty
pairwise-both (ahead a d) (ahead b e) = ahead (all_both (λ y p q. (p, q)) a b) (pairwise-both d e)

-- Offers of one unit

-- of two that differ in the default mark alone one is normal and hides the other
marks : (d e : Bool) → beq d e ≡ false → (not d && e) ≡ false → (not e && d) ≡ false → ⊥
marks true true f g h = absurd (true≢false f)
marks true false f g h = absurd (true≢false h)
marks false true f g h = absurd (true≢false g)
marks false false f g h = absurd (true≢false f)

same-offers : (k l : Key) → k.execution ≡ false → l.execution ≡ false → k.contract ≡ 0 → l.contract ≡ 0 → k.unit ≡ l.unit → L.same_but_default k l ≡ true
unfolding L.same_but_default
same-offers k l a b c d e = of-both (of-both (of-beq _ _ (a ∙ sym b)) (eq-eqb _ _ e)) (eq-eqb _ _ (c ∙ sym d))

module _ (k l : Key) (same : L.same_but_default k l ≡ true) (back : L.same_but_default l k ≡ true) where
  one-hides : L.same_key k l ≡ false → L.hides k l ≡ false → L.hides l k ≡ false → ⊥
  unfolding L.same_key L.hides
  one-hides a b c = marks k.default l.default (rw same at a) (rw same at b) (rw back at c)

module _ (b : B.Book) (sound : S.Sound b) where
  -- an accepted offer: which is hidden by none, and has no contract
  record Offered (l : L.Lodgement) : Type 0 where
    offer : l.key.execution ≡ false
    contract : l.key.contract ≡ 0

  abbrev is_accepted : L.Lodgement → Bool
  is_accepted l = C.is_accepted (C.verdict_among (C.judgements b) l.number)

  offer-contract : All (λ l. l.key.execution ≡ false → l.key.contract ≡ 0) b.standing
  unfolding bad_key bad_contract
  offer-contract =
      all_map (λ l m e. eqb-true _ _ (not-false _ (ap (λ x. bad_contract x l.key.contract) (sym e) ∙ (neither (U.bad_number l.key.unit) (bad_contract l.key.execution l.key.contract) m.key).1))) sound.standing.messages

  shown : (l : L.Lodgement) → Judgement b l → is_accepted l ≡ true → L.is_hidden b.standing l ≡ false
  unfolding verdict_of C.is_accepted
  shown l j a = of-not (L.is_hidden b.standing l) (λ h. false≢true (ap C.is_accepted (sym (j.hiding.1 h)) ∙ a))

  unhidden : All (λ l. All (λ k. is_accepted l ≡ true → L.hides k.key l.key ≡ false) b.standing) b.standing
  unfolding L.is_hidden
  unhidden = all_map (λ l j. by_bool (is_accepted l)
      (λ t. all_map (λ k n e. n) (any_false (λ k. L.hides k.key l.key) b.standing (shown l j t)))
      (λ t. all_map (λ k n e. absurd (true≢false (sym e ∙ t))) sound.standing.from_one))
      (closing-exactly b sound.standing.rising)

  apart : (k l : L.Lodgement) → is_accepted k ≡ true × Offered k → is_accepted l ≡ true × Offered l
      → (L.same_key k.key l.key ≡ false) × ((is_accepted l ≡ true → L.hides k.key l.key ≡ false) × (is_accepted k ≡ true → L.hides l.key k.key ≡ false))
      → k.key.unit ≡ l.key.unit → ⊥
  apart k l p q r e =
      one-hides k.key l.key (same-offers k.key l.key p.1.offer q.1.offer p.1.contract q.1.contract e) (same-offers l.key k.key q.1.offer p.1.offer q.1.contract p.1.contract (sym e))
      r.0 (r.1.0 q.0) (r.1.1 p.0)

  -- the accepted lodgements that pass a test, and of them the offers
  module _ (named : L.Lodgement → Bool) where
    abbrev pub chosen : List L.Lodgement
    chosen = keep (λ l. not l.key.execution) (keep named (C.accepted_at b))

    pub offers-apart : Pairwise (λ k l. k.key.unit ≡ l.key.unit → ⊥) chosen
    unfolding C.accepted_at
    offers-apart =
        pairwise-with apart
        (all_both {Q = λ l. (is_accepted l ≡ true) × (l.key.execution ≡ false → l.key.contract ≡ 0)} (λ l n g. (g.0, record { offer = not-true _ n; contract = g.1 (not-true _ n) })) (keep-passes (λ l. not l.key.execution) (keep named (C.accepted_at b)))
        (all_keep (λ l. not l.key.execution) (all_keep named (all_both (λ l p q. (p, q)) (keep-passes is_accepted b.standing) (all_keep is_accepted offer-contract)))))
        (pairwise-keep (λ l. not l.key.execution) (pairwise-keep named (pairwise-keep is_accepted (pairwise-both sound.standing.keys (both_ways b.standing unhidden)))))

    pub few-offers : length chosen ≤ 64
    unfolding C.accepted_at
    few-offers =
        omega (
          arith,
          as_many (λ l. l.key.unit) b.units offers-apart (all_keep (λ l. not l.key.execution) (all_keep named (all_keep is_accepted (all_map (λ l g. g.registered) sound.standing.holders)))),
          sound.units.room,
        )

    -- offers and executions together
    parted : (xs : List L.Lodgement) → length (keep (λ l. not l.key.execution) xs) + length (keep (λ l. l.key.execution) xs) ≡ length xs
    unfolding keep
    parted [] = refl
    parted (x ∷ xs) = by_bool x.key.execution (λ t. rw t (omega (arith, parted xs))) (λ t. rw t (omega (arith, parted xs)))

    pub all_room : length chosen + length (keep (λ l. l.key.execution) (keep named (C.accepted_at b))) ≤ 128
    unfolding C.accepted_at
    all_room = omega (arith, parted (keep named (C.accepted_at b)), length-keep named (C.accepted_at b), length-keep is_accepted b.standing, sound.standing.room)

-- In the session that stands for a sound book each unit has an index of its own.
use Prim.Native.Nat.{ℕ, zero, suc, ◌%◌, ◌<◌, ◌≤◌}
use mathlib.Core.Path.{◌≡◌, sym, ap, ◌∙◌}
use mathlib.Core.Logic.{⊎_elim}
use mathlib.Core.Bool.{Bool, true, false≢true}
use mathlib.Core.List.{List, [], ◌∷◌}
use native.Mathlib.Omega.{arith}
use native.Mathlib.Nat.{eq-or-lt_of_le}
use lib.Dec.{eqb, ltb}
use lib.ListN.{get_or, length, take, length-map, length-take}
use lib.Seq.{get_or-take}
use borrow.Author.Tests.{eqb-true, eqb-false, eq-eqb, ne_eqb, ltb-true, ltb-false}
use Rattle.rules.specs.Lists.{Pairwise, empty, ahead, any}
use Rattle.rules.specs.Units as U
use Rattle.rules.specs.Book as B
use Rattle.rules.specs.Match as M
use Rattle.rules.specs.Clearing as R
use Rattle.rules.proofs.BoolLaws.{by_bool}
use Rattle.rules.proofs.ListLaws as RL
use Rattle.session.specs.declared.Session.{Session}
use Rattle.session.specs.declared.Unit.{Unit}
use Rattle.session.specs.declared.Lodgement.{Lodgement}
use Rattle.session.specs.Image as I
use Rattle.session.specs.Parts.{number_is, index_of}
use Rattle.session.proofs.IndexLaws.{indexed, index-first, index-map, get_or-map}
use Rattle.session.proofs.ImageLaws.{units-as, standing-as, enrolled-as}
use Rattle.hour_offers.specs.declared.Holder.{Holder}
use Rattle.clear_gather.specs.Built.{no_holder, Holders}
use Rattle.clear_gather.proofs.DayLaws.{blank, standing, lodgement-at, holder-at}
use Rattle.clear_gather.proofs.RangeLaws.{good-unit}

-- what stands at the index of the first that passes a test passes it
index-passes : {A : Type 0} (p : A → Bool) (d : A) (xs : List A) → any p xs ≡ true → p (get_or xs (index_of p xs) d) ≡ true
unfolding index_of any
index-passes p d [] h = absurd (false≢true h)
index-passes p d (x ∷ xs) h = by_bool (p x) (λ e. rw e e) (λ e. rw e (index-passes p d xs (rw e at h)))

-- what holds of each element and every later one, at two indices
pairwise-at : {A : Type 0} {R : A → A → Type 0} (d : A) {xs : List A} → Pairwise R xs → (i j : ℕ) → i < j → j < length xs → R (get_or xs i d) (get_or xs j d)
pairwise-at d empty i j h k = absurd (omega arith)
pairwise-at d (ahead h t) zero zero l k = absurd (omega arith)
pairwise-at d (ahead h t) zero (suc j) l k = RL.all-at j d h (omega arith)
pairwise-at d (ahead h t) (suc i) zero l k = absurd (omega arith)
pairwise-at d (ahead h t) (suc i) (suc j) l k = pairwise-at d t i j (omega arith) (omega arith)

-- no two units have one number
distinct-at : (us : List U.Registered) → Pairwise (λ r s. r.unit.number ≡ s.unit.number → ⊥) us → (i j : ℕ) → i < length us → j < length us
    → (get_or us i U.nobody).unit.number ≡ (get_or us j U.nobody).unit.number → (i ≡ j → ⊥) → ⊥
distinct-at us d i j h k e n =
    by_bool (ltb i j) (λ t. pairwise-at U.nobody d i j (ltb-true i j t) k e)
    (λ t. ⊎_elim (λ q. n (sym q)) (λ q. pairwise-at U.nobody d j i q h (sym e)) (eq-or-lt_of_le (ltb-false i j t)))

-- the index of a number that is registered is a unit's exactly where the unit has it
module _ (us : List U.Registered) (n : ℕ) (d : Pairwise (λ r s. r.unit.number ≡ s.unit.number → ⊥) us) (r : U.is_registered us n ≡ true) where
  abbrev index : ℕ
  index = index_of (U.has_number n) us

  has-number : (get_or us index U.nobody).unit.number ≡ n
  unfolding U.is_registered U.has_number
  has-number = eqb-true _ _ (index-passes (U.has_number n) U.nobody us r)

  own-index : (p : ℕ) → p < length us → eqb index p ≡ eqb n (get_or us p U.nobody).unit.number
  unfolding U.is_registered
  own-index p h =
      by_bool (eqb index p)
      (λ t. rw t (sym (eq-eqb _ _ (sym (ap (λ q. (get_or us q U.nobody).unit.number) (sym (eqb-true _ _ t)) ∙ has-number)))))
      (λ t. rw t (sym (ne_eqb _ _ (λ z. distinct-at us d index p (indexed (U.has_number n) us r) h (has-number ∙ z) (eqb-false _ _ t)))))

module _ (s : Session) (b : B.Book) (e : s ≡ I.image b) (sound : I.Sound b) where
  -- a unit of the session by index
  unit-at : (p : ℕ) → p < length b.units → (get_or s.units p I.no_unit).number ≡ (get_or b.units p U.nobody).unit.number
  unit-at p h =
      let l : length (take s.enrolled s.units) ≡ length b.units = ap length (units-as s b e) ∙ length-map b.units I.unit_of in
      ap (λ (u : Unit). u.number) (sym (get_or-take s.enrolled s.units p I.no_unit (omega (arith, l, length-take s.enrolled s.units))) ∙ (ap (λ (us : List Unit). get_or us p I.no_unit) (units-as s b e) ∙ get_or-map I.unit_of U.nobody I.no_unit b.units p h))

  registered-at : (i : ℕ) → i < length b.standing → U.is_registered b.units (standing b i).key.unit ≡ true
  registered-at i h = (RL.all-at i blank sound.ranges.standing.holders h).registered

  index-as : (i : ℕ) → i < length b.standing
      → index_of (number_is (get_or s.lodgements i I.no_lodgement).key.unit) (take s.enrolled s.units) ≡ index_of (U.has_number (standing b i).key.unit) b.units
  unfolding U.has_number
  index-as i h =
      ap (λ (x : Lodgement). index_of (number_is x.key.unit) (take s.enrolled s.units)) (lodgement-at s b e i h)
      ∙ (ap (index_of (number_is (standing b i).key.unit)) (units-as s b e) ∙ index-map I.unit_of (number_is (standing b i).key.unit) b.units)

  number-small : (p : ℕ) → p < length b.units → (get_or b.units p U.nobody).unit.number ≤ 65535
  number-small p h = (good-unit (get_or b.units p U.nobody).unit (RL.all-at p U.nobody sound.ranges.units.ranges h)).number.1

  -- two units are told apart by the two last bytes of their numbers
  pub units-apart : (i j : ℕ) → i < s.enrolled → j < s.enrolled → (i ≡ j → ⊥) → (get_or s.units i I.no_unit).number % 65536 ≡ (get_or s.units j I.no_unit).number % 65536 → ⊥
  units-apart i j h k n q =
      let x : i < length b.units = omega (arith, enrolled-as s b e) in
      let y : j < length b.units = omega (arith, enrolled-as s b e) in
      distinct-at b.units sound.ranges.units.distinct i j x y (omega (arith, q, unit-at i x, unit-at j y, number-small i x, number-small j y)) n

  -- a standing lodgement's unit is registered
  pub unit-inside : (i : ℕ) → i < s.standing → index_of (number_is (get_or s.lodgements i I.no_lodgement).key.unit) (take s.enrolled s.units) < s.enrolled
  unfolding U.is_registered
  unit-inside i l =
      let inside : i < length b.standing = omega (arith, standing-as s b e) in
      omega (arith, index-as i inside, indexed (U.has_number (standing b i).key.unit) b.units (registered-at i inside), enrolled-as s b e)

  -- The index of a standing lodgement's unit is p exactly where its holder is the unit at p: "a unit has one index".
  pub unit-indexed : (hs : List Holder) → Holders s hs → (i p : ℕ) → i < s.standing → p < s.enrolled
      → eqb (index_of (number_is (get_or s.lodgements i I.no_lodgement).key.unit) (take s.enrolled s.units)) p ≡ eqb (get_or hs i no_holder).unit (get_or s.units p I.no_unit).number
  unfolding R.holder_of U.unit_of U.has_number
  unit-indexed hs h i p l k =
      let key = (standing b i).key.unit in
      let inside : i < length b.standing = omega (arith, standing-as s b e) in
      let known : p < length b.units = omega (arith, enrolled-as s b e) in
      let registered = registered-at i inside in
      let number : (get_or hs i no_holder).unit ≡ key =
      ap (λ (x : M.Holder). x.unit) (holder-at s b e hs h i inside) ∙ (ap (λ (r : U.Registered). r.unit.number) (index-first (U.has_number key) U.nobody b.units) ∙ has-number b.units key sound.ranges.units.distinct registered) in
      rw (index-as i inside, number, unit-at p known) (own-index b.units key sound.ranges.units.distinct registered p known)

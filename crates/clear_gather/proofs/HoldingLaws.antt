-- Every ready hour is an hour of a sound book.
use Prim.Native.Nat.{ℕ, zero, suc, ◌+◌, ◌/◌, ◌%◌, ◌≤◌, ◌<◌}
use mathlib.Core.Path.{◌≡◌, refl, sym, ap, ap₂, ◌∙◌}
use mathlib.Core.Bool.{Bool, true, false, cond, not, ◌&&◌, beq, false≢true}
use mathlib.Core.List.{List, [], ◌∷◌, map, map-id}
use mathlib.Core.Option.{Option as Maybe, some, none as nothing}
use native.Mathlib.Omega.{arith}
use lib.Dec.{ltb, eqb}
use lib.ListN.{get_or, length, replicate, length-map, length-replicate}
use Rattle.std.specs.Prelude.{is_some, unwrap_or, Option, None, Some as Given}
use borrow.Author.Tests.{eqb-true, eqb-false, eq-eqb, ne_eqb, lt-ltb, le-ltb, ltb-false}
use Rattle.rules.specs.Lists.{All, none, more, Some, here, there, Pairwise, any, keep, sum_of, from, hourly}
use Rattle.rules.specs.Hours.{unfold_hours}
use Rattle.rules.specs.Units as U
use Rattle.rules.specs.Message as M
use Rattle.rules.specs.Lodging as L
use Rattle.rules.specs.Book as B
use Rattle.rules.specs.Judging.{is_accepted}
use Rattle.rules.specs.Closing as C
use Rattle.rules.specs.Match.{Holder, Offer}
use Rattle.rules.specs.Borders.{Directed, Execution, runs}
use Rattle.rules.specs.Clearing as R
use Rattle.rules.specs.DayBook.{entry}
use Rattle.rules.specs.Sound as S
use Rattle.rules.specs.Demands.{Judgement, Passes, verdict_of, taken_before, accepted_before, energy_with}
use Rattle.rules.proofs.BoolLaws.{by_bool, not-both, of-not, both, of-neither, beq-true}
use Rattle.rules.proofs.ListLaws.{all_map, all_append, all-mapped, all-parts, all_replicate, first_passes, of-any-false, hourly-suc, get_or-pad}
use Rattle.rules.proofs.ElementLaws.{all_both, all-every, all-unmapped, any-true, pairwise_map, pairwise-weaken, some-map}
use Rattle.rules.proofs.SumLaws.{sum-append, sum-some, sum-two}
use Rattle.rules.proofs.OrderLaws.{before-asym}
use Rattle.rules.proofs.MessageLaws.{good, write_read, of-writes}
use Rattle.rules.proofs.CeilingLaws.{over-ceiling}
use Rattle.rules.proofs.ClosingLaws.{energy_on, closing-exactly}
use Rattle.rules.proofs.IndexLaws.{from_all, from-at, length_from}
use Rattle.hour_borders.specs.Directions.{directed, energies_of, published_in}
use Rattle.hour_borders.proofs.DirectionLaws.{direction-small}
use Rattle.hour_offers.specs.View.{execution_in}
use Rattle.listed.specs.View.{listed}
use Rattle.listed.proofs.ViewLaws.{listed-few}
use Rattle.hour.specs.declared.Hour.{Hour}
use Rattle.hour.specs.View.{fresh_in, energy_among, hour_in}
use Rattle.hour.specs.Units.{lodgement_of, lodgements_of, unit_energy, both_of, line_in, last_ones, same_unit}
use Rattle.hour.specs.Ready.{Between, HolderWithin, SameUnit, Ready}
use Rattle.hour.proofs.RangeLaws.{energy-of, capacity-small}
use Rattle.hour.proofs.PairLaws.{all-last-ones, last_apart}
use Rattle.hour.proofs.LineLaws.{capacity-abroad, capacity-home}
use Rattle.session.proofs.LaidLaws.{any-map}
use Rattle.session.specs.Image as I
use Rattle.clear_gather.specs.Holding.{Holding, unit_for, lodgement_for, offer_for, execution_for, insert_all, published_for, notice_for, loss_among, book_of}
use Rattle.clear_gather.proofs.ListLaws.{flat, kept-flat, eight}
use Rattle.clear_gather.proofs.HourLaws.{hour-same}
use Rattle.clear_gather.proofs.RangeLaws.{first_one}
use Rattle.clear_gather.proofs.HourReadyLaws.{energy-made, optional, both-as}
use Rattle.clear_gather.proofs.InsertLaws.{all_inserted, length_inserted, pair-inserted, rise-inserted, keep_all, keep-inserted, keep-others, each-among, pairwise-parts, every_two, one_more}

-- One lodgement

zeros : (n i : ℕ) → get_or (replicate {A = ℕ} n 0) i 0 ≡ 0
zeros n i = get_or-pad [] n i

-- the map that names hour 1 only
abbrev fields : L.Lodgement → M.Fields
fields l = record { key = l.key; map = 16777216; energies = l.energies; prices = l.prices }

-- hour 1 is the only one with energy
first-named : (e h : ℕ) → 1 ≤ h → 0 < hourly (e ∷ replicate 24 0) h → h ≡ 1
first-named e zero l n = absurd (omega arith)
first-named e (suc zero) l n = refl
first-named e (suc (suc h)) l n = absurd (omega (arith, n, hourly-suc (e ∷ replicate 24 0) (suc h), zeros 24 h))

beyond-first : (e h : ℕ) → 24 < h → hourly (e ∷ replicate 24 0) h ≡ 0
beyond-first e zero l = absurd (omega arith)
beyond-first e (suc zero) l = absurd (omega arith)
beyond-first e (suc (suc h)) l = hourly-suc (e ∷ replicate 24 0) (suc h) ∙ zeros 24 h

-- what a lodgement of an hour needs to be a message's
record Said (execution : Bool) (x : Holder) (e p : ℕ) : Type 0 where
  number : Between 1 65535 x.number
  unit : Between 1 65535 x.unit
  energy : Between 1 U.max_energy e
  price : p ≤ M.top_price execution

module _ (execution : Bool) (x : Holder) (energy price : ℕ) (s : Said execution x energy price) where
  abbrev this : L.Lodgement
  this = lodgement_for execution x energy price

  good-number : (n : ℕ) → Between 1 65535 n → U.bad_number n ≡ false
  unfolding U.bad_number
  good-number n r = of-neither (ne_eqb n 0 (λ z. absurd (omega (arith, r.0)))) (le-ltb 65535 n r.1)

  good-contract : (t : Bool) → M.bad_contract t (cond t x.number 0) ≡ false
  unfolding M.bad_contract
  good-contract true = good-number x.number s.number
  good-contract false = refl

  good-key : M.bad_key this.key ≡ false
  unfolding M.bad_key
  good-key = of-neither (good-number x.unit s.unit) (good-contract execution)

  good-map : M.bad_map 16777216 ≡ false
  unfolding M.bad_map
  good-map = refl

  good-hours : any (M.bad_hour U.max_energy (fields this)) (from 1 25) ≡ false
  unfolding any from M.bad_hour M.names M.hour_bits M.bits hourly
  good-hours = rw (ne_eqb energy 0 (λ z. absurd (omega (arith, s.energy.0))), le-ltb U.max_energy energy s.energy.1, le-ltb (M.top_price execution) price s.price)

  good-fields : M.bad_fields U.max_energy (fields this) ≡ false
  unfolding M.bad_fields
  good-fields = of-neither good-key good-hours

  good-day : L.names_beyond 24 16777216 ≡ false
  unfolding L.names_beyond any from M.names M.hour_bits M.bits hourly
  good-day = refl

  lodged : S.Lodged 24 this
  unfolding entry L.energy_at
  lodged =
      let g = good U.max_energy (fields this) good-map good-fields refl refl in
      record {
        bytes = M.encode (M.form_for (fields this)) (fields this);
        fields = fields this;
        reads = write_read (M.message_length (fields this)) (fields this) (M.encode (M.form_for (fields this)) (fields this)) refl refl
            (of-writes (M.message_length (fields this)) (fields this) (M.encode (M.form_for (fields this)) (fields this)) (record { map = good-map; fields = good-fields; fits = omega arith; same = refl }));
        entered = refl;
        day = good-day;
        key = good-key;
        energy_count = refl;
        price_count = refl;
        energy = λ h. (g.each h).energy-le;
        beyond = λ h l. beyond-first energy h l;
        named = λ h. (g.each h).named_by;
        price = λ h. (g.each h).price-le;
        unnamed = λ h z. (g.each h).unnamed ((g.each h).named_by ∙ ap not (eq-eqb (hourly (energy ∷ replicate 24 0) h) 0 z));
      }

-- Units

unit-parts : {n m c d : ℕ} {p q l k : Bool} → n ≡ m → c ≡ d → p ≡ q → l ≡ k
    → unit_for (record { number = 0; unit = n; border = c; purchase = p; legacy = l; loss = 0 }) ≡ unit_for (record { number = 0; unit = m; border = d; purchase = q; legacy = k; loss = 0 })
unit-parts a b c d = rw (a, b, c, d)

unit-same : (x y : Holder) → x.unit ≡ y.unit → SameUnit x y → unit_for x ≡ unit_for y
unit-same x y e s = unit-parts e s.border s.purchase s.legacy

apart-agents : (x y : Holder) → eqb x.unit y.unit ≡ false → U.is_second_to (unit_for x).unit (unit_for y).unit ≡ false
unfolding U.is_second_to U.domestic
apart-agents x y n = by_bool (eqb x.border 0) (λ t. rw t) (λ t. rw (t, n))

good-unit : (x : Holder) → HolderWithin 0 x → U.bad_unit (unit_for x).unit ≡ false
unfolding U.bad_unit U.bad_number U.domestic
good-unit x g =
    rw (ne_eqb x.unit 0 (λ z. absurd (omega (arith, g.unit.0))), le-ltb 65535 x.unit g.unit.1, le-ltb 4 x.border g.border.1)
    (by_bool x.legacy (λ t. rw (ne_eqb x.border 0 (λ z. absurd (omega (arith, g.legacy t)))) (by_bool x.legacy (λ s. rw s) (λ s. rw s))) (λ t. rw t))

-- a unit's last lodgement
some-any : {A : Type 0} (p : A → Bool) {xs : List A} → Some (λ x. p x ≡ true) xs → any p xs ≡ true
unfolding any
some-any p (here e) = rw e
some-any p (there {x} s) = rw (some-any p s) (by_bool (p x) (λ t. rw t) (λ t. rw t))

carried : (x : Execution) (zs : List Execution) {xs : List Execution} → Some (λ y. same_unit x y ≡ true) xs → All (λ y. Some (λ z. z.holder.unit ≡ y.holder.unit) zs) xs → Some (λ z. z.holder.unit ≡ x.holder.unit) zs
unfolding same_unit
carried x zs (here e) (more k t) = some-map (λ z q. q ∙ sym (eqb-true _ _ e)) k
carried x zs (there s) (more k t) = carried x zs s t

last_has : (xs : List Execution) → All (λ y. Some (λ z. z.holder.unit ≡ y.holder.unit) (last_ones same_unit xs)) xs
unfolding last_ones
last_has [] = none
last_has (x ∷ xs) =
    by_bool (any (same_unit x) xs)
    (λ t. rw t (more (carried x (last_ones same_unit xs) (any-true (same_unit x) xs t) (last_has xs)) (last_has xs)))
    (λ t. rw t (more (here refl) (all_map (λ y s. there s) (last_has xs))))

-- Keys

abbrev Apart : L.Lodgement → L.Lodgement → Type 0
Apart k l = k.key.execution ≡ l.key.execution → k.key.unit ≡ l.key.unit → k.key.contract ≡ l.key.contract → ⊥

keys-differ : (k l : L.Lodgement) → Apart k l → L.same_key k.key l.key ≡ false
unfolding L.same_key L.same_but_default
keys-differ k l f =
    of-not _ (λ t. let a = both _ _ t in
    let b = both (beq k.key.execution l.key.execution && eqb k.key.unit l.key.unit) (eqb k.key.contract l.key.contract) a.0 in
    let c = both (beq k.key.execution l.key.execution) (eqb k.key.unit l.key.unit) b.0 in
    f (beq-true _ _ c.0) (eqb-true _ _ c.1) (eqb-true _ _ b.1))

-- lists made and read again
map_back : {A B : Type 0} (f : A → B) (g : B → A) {zs : List A} → All (λ a. g (f a) ≡ a) zs → map g (map f zs) ≡ zs
map_back f g none = refl
map_back f g (more h t) = ap₂ (λ x xs. x ∷ xs) h (map_back f g t)

-- no normal lodgement is hidden
hides-none : (a b : M.Key) → b.default ≡ false → L.hides a b ≡ false
unfolding L.hides
hides-none a b e = ap (λ d. L.same_but_default a b && not a.default && d) e ∙ none-hides (L.same_but_default a b) a.default
  where
    none-hides : (s t : Bool) → (s && not t && false) ≡ false
    none-hides true true = refl
    none-hides true false = refl
    none-hides false t = refl

-- none is taken before itself
not-before : (l : L.Lodgement) → taken_before l l ≡ false
unfolding taken_before
not-before l = of-not _ (λ e. not-both e (before-asym (λ (k : L.Lodgement). k.number) C.closing_classes l l e))

-- Capacities

-- one that is in its range makes a notice
published-sound : (c : Option ℕ) → (is_some c ≡ true → unwrap_or c 0 ≤ U.max_energy) → S.OfDay 24 (published_for c)
unfolding published_for
published-sound None f = S.absent
published-sound (Given energy) f = S.energies (length-replicate 24 energy) (all_replicate 24 energy (f refl))

-- which says it in hour 1
published-held : (border : ℕ) (export : Bool) (c : Option ℕ) → cond (is_some c) (record { border = border; export = export; energy = unwrap_or c 0 } ∷ []) [] ≡ R.published 1 border export (published_for c)
unfolding published_for R.published hourly
published-held border export None = refl
published-held border export (Given energy) = refl

optional-held : (c : Option ℕ) → optional 1 (published_for c) ≡ c
unfolding optional published_for hourly
optional-held None = refl
optional-held (Given energy) = refl

-- Losses

-- two of one border and side have one loss
abbrev OneLoss : Execution → Execution → Type 0
OneLoss x y = x.holder.border ≡ y.holder.border → x.holder.purchase ≡ y.holder.purchase → x.holder.loss ≡ y.holder.loss

-- of a purchase's border its own loss is found
loss-among : (y : Execution) → y.holder.purchase ≡ true → {zs : List Execution} → Some (λ z. z ≡ y) zs → All (λ z. OneLoss z y) zs → loss_among zs y.holder.border ≡ y.holder.loss
unfolding loss_among runs
loss-among y p (here {x = z} e) (more f t) =
    let own : runs y.holder.border true z.holder ≡ true = rw (e, eq-eqb y.holder.border y.holder.border refl, p) refl in
    rw own (ap (λ (x : Execution). x.holder.loss) e)
loss-among y p (there {x = z} s) (more f t) =
    by_bool (runs y.holder.border true z.holder)
    (λ u. let a = both _ _ u in rw u (f (eqb-true _ _ a.0) (beq-true _ _ a.1 ∙ sym p)))
    (λ u. rw u (loss-among y p s t))

most-among : (border : ℕ) {zs : List Execution} → All (λ z. z.holder.loss ≤ U.max_loss) zs → loss_among zs border ≤ U.max_loss
unfolding loss_among
most-among border none = omega arith
most-among border (more {x = z} h t) = by_bool (runs border true z.holder) (λ u. rw u h) (λ u. rw u (most-among border t))

domestic-among : {zs : List Execution} → All (λ z. z.holder.border ≡ 0 → z.holder.loss ≡ 0) zs → loss_among zs 0 ≡ 0
unfolding loss_among runs
domestic-among none = refl
domestic-among (more {x = z} h t) =
    by_bool (runs 0 true z.holder) (λ u. rw u (h (eqb-true _ _ (both _ _ u).0))) (λ u. rw u (domestic-among t))

module _ (h : Hour) (r : Ready h) where
  abbrev ls : List Execution
  ls = lodgements_of (hour_in h)

  abbrev us : List U.Registered
  us = map (λ y. unit_for y.holder) (last_ones same_unit ls)

  abbrev os : List L.Lodgement
  os = map offer_for (hour_in h).offers

  abbrev xs : List L.Lodgement
  xs = map execution_for (hour_in h).executions

  ranged : All (λ y. HolderWithin 0 y.holder) ls
  unfolding lodgements_of
  ranged =
      all_append (all-mapped lodgement_of (all_map (λ o g. g.holder) r.ranges.offers))
      (all_map (λ y g. record {
        number = g.holder.number;
        unit = g.holder.unit;
        border = (omega arith, g.holder.border.1);
        legacy = g.holder.legacy;
        loss = g.holder.loss;
        sale = g.holder.sale;
        domestic = g.holder.domestic;
      }) r.ranges.executions)

  units-sound : S.UnitsSound 24 us
  unfolding same_unit
  units-sound = record {
    room = omega (arith, length-map (last_ones same_unit ls) (λ y. unit_for y.holder), r.units.few);
    distinct = pairwise_map (λ y. unit_for y.holder) (λ y z n. eqb-false y.holder.unit z.holder.unit n) (last_apart same_unit ls);
    single = pairwise_map (λ y. unit_for y.holder) (λ y z n. apart-agents y.holder z.holder n) (last_apart same_unit ls);
    ranges = all-mapped (λ y. unit_for y.holder) (all-last-ones same_unit (all_map (λ y g. good-unit y.holder g) ranged));
    notices = all-mapped (λ y. unit_for y.holder) (all-every (λ y. S.absent) (last_ones same_unit ls));
    granted = all-mapped (λ y. unit_for y.holder) (all-every (λ y. S.absent) (last_ones same_unit ls));
    agreed = λ agent purchase. pairwise_map (λ y. unit_for y.holder) (λ y z n k l. refl) (last_apart same_unit ls);
    foreign = all-mapped (λ y. unit_for y.holder) (all-every (λ y e. refl) (last_ones same_unit ls));
    partnered = all-mapped (λ y. unit_for y.holder) (all-every (λ y e. absurd (false≢true e)) (last_ones same_unit ls));
  }

  -- Losses

  abbrev losses : List ℕ
  losses = map (loss_among ls) (from 0 5)

  loss-at : (c : ℕ) → c < 5 → U.loss_of losses c ≡ loss_among ls c
  unfolding U.loss_of
  loss-at c m = from-at (loss_among ls) 0 0 5 c m ∙ ap (loss_among ls) (omega arith)

  losses-sound : S.LossesSound losses
  losses-sound = record {
    count = length-map (from 0 5) (loss_among ls) ∙ length_from 0 5;
    domestic = loss-at 0 (omega arith) ∙ domestic-among (all_map (λ y g. g.domestic) ranged);
    range = all-mapped (loss_among ls) (all-every (λ c. most-among c (all_map (λ y g. g.loss) ranged)) (from 0 5));
  }

  -- a lodgement's is its unit's
  losses-held : All (λ y. U.unit_loss losses (unit_for y.holder).unit ≡ y.holder.loss) ls
  unfolding U.unit_loss
  losses-held =
      all_both {P = λ y. Some (λ z. z ≡ y) ls × All (λ z. OneLoss z y) ls} {Q = λ y. HolderWithin 0 y.holder}
      (λ y s g. by_bool y.holder.purchase
      (λ t. rw t (loss-at y.holder.border (omega (arith, g.border.1)) ∙ loss-among y t s.0 s.1))
      (λ t. rw t (sym (g.sale t))))
      (all_both (λ y s a. (s, a)) (each-among ls) (every_two (λ y b p. refl) (λ y z f b p. sym (f (sym b) (sym p))) r.units.losses)) ranged

  -- a lodgement's unit is found
  units-found : All (λ y. (U.is_registered us y.holder.unit ≡ true) × (U.unit_of us y.holder.unit ≡ unit_for y.holder)) ls
  unfolding U.is_registered U.unit_of U.has_number
  units-found =
      all_both (λ y s a.
      let u = y.holder.unit in
      let t : any (U.has_number u) us ≡ true = any-map (λ z. unit_for z.holder) (U.has_number u) (last_ones same_unit ls) ∙ some-any (λ z. eqb z.holder.unit u) (some-map (λ z e. eq-eqb _ _ e) s) in (
        t,
        first_one {P = λ q. U.has_number u q ≡ true → q ≡ unit_for y.holder} (U.has_number u) U.nobody t
            (all-mapped (λ z. unit_for z.holder) (all-last-ones same_unit (all_map (λ z f e. let v : z.holder.unit ≡ u = eqb-true _ _ e in unit-same z.holder y.holder v (f v)) a)))
            (first_passes (U.has_number u) U.nobody us t),
      ))
      (last_has ls)
      (every_two (λ y e. record { border = refl; purchase = refl; legacy = refl }) (λ y z f e. let s = f (sym e) in record { border = sym s.border; purchase = sym s.purchase; legacy = sym s.legacy }) r.units.agree)

  -- with its loss
  abbrev Found : Holder → Type 0
  Found x = (U.is_registered us x.unit ≡ true) × ((U.unit_of us x.unit ≡ unit_for x) × (U.unit_loss losses (unit_for x).unit ≡ x.loss))

  found : All (λ y. Found y.holder) ls
  found = all_both (λ y f l. (f.0, (f.1, l))) units-found losses-held

  offers-found : All (λ o. Found o.holder) (hour_in h).offers
  unfolding lodgements_of
  offers-found = all-unmapped lodgement_of (hour_in h).offers (all-parts (map lodgement_of (hour_in h).offers) found).0

  executions-found : All (λ y. Found y.holder) (hour_in h).executions
  unfolding lodgements_of
  executions-found = (all-parts (map lodgement_of (hour_in h).offers) found).1

  -- Numbers

  apart-numbers : All (λ o. All (λ y. o.holder.number ≡ y.holder.number → ⊥) (hour_in h).executions) (hour_in h).offers
  unfolding lodgements_of
  apart-numbers = all-unmapped lodgement_of (hour_in h).offers (pairwise-parts (map lodgement_of (hour_in h).offers) r.units.numbers).0

  contracts-apart : Pairwise (λ y z. y.holder.number ≡ z.holder.number → ⊥) (hour_in h).executions
  unfolding lodgements_of
  contracts-apart = (pairwise-parts (map lodgement_of (hour_in h).offers) r.units.numbers).2

  offers-rise : Pairwise (λ k l. k.number < l.number) os
  offers-rise = pairwise_map offer_for (λ o p n. n) r.ranges.offers-rise

  rising : Pairwise (λ k l. k.number < l.number) (insert_all os xs)
  rising =
      rise-inserted (all-mapped offer_for (all_map (λ o a. all-mapped execution_for a) apart-numbers)) offers-rise
      (pairwise_map execution_for (λ y z n. n) r.ranges.executions-rise)

  keys : Pairwise (λ k l. L.same_key k.key l.key ≡ false) (insert_all os xs)
  keys =
      pairwise-weaken keys-differ (pair-inserted {Q = Apart} (λ k l f e u c. f (sym e) (sym u) (sym c))
      (all-mapped offer_for (all-every (λ o. all-mapped execution_for (all-every (λ y e u c. false≢true e) (hour_in h).executions)) (hour_in h).offers))
      (pairwise_map offer_for (λ o p f e u c. f u) r.units.single) (pairwise_map execution_for (λ y z f e u c. f c) contracts-apart))

  counts : length (insert_all os xs) ≤ 128
  unfolding hour_in
  counts =
      omega (
        arith,
        r.ranges.room,
        length_inserted os xs,
        length-map (hour_in h).offers offer_for,
        length-map (listed h.offers) fresh_in,
        listed-few h.offers,
        length-map (hour_in h).executions execution_for,
        length-map (listed h.executions) execution_in,
        listed-few h.executions,
      )

  holders : All (λ l. S.HasUnit us l.key) (insert_all os xs)
  unfolding L.domestic_execution U.domestic
  holders =
      all_inserted (all-mapped offer_for (all_map (λ o f. record { registered = f.0; border = refl }) offers-found))
      (all-mapped execution_for (all_both (λ y f g. record { registered = f.0; border = ap (λ (q : U.Registered). eqb q.unit.border 0) f.1.0 ∙ ne_eqb y.holder.border 0 (λ z. absurd (omega (arith, g.holder.border.0))) }) executions-found r.ranges.executions))

  standing-sound : S.StandingSound 24 us (insert_all os xs) 65535
  unfolding M.top_price
  standing-sound = record {
    room = counts;
    counted = omega arith;
    rising = rising;
    from_one = all_inserted (all-mapped offer_for (all_map (λ o g. g.holder.number.0) r.ranges.offers)) (all-mapped execution_for (all_map (λ y g. g.holder.number.0) r.ranges.executions));
    to_last = all_inserted (all-mapped offer_for (all_map (λ o g. g.holder.number.1) r.ranges.offers)) (all-mapped execution_for (all_map (λ y g. g.holder.number.1) r.ranges.executions));
    keys = keys;
    holders = holders;
    messages = all_inserted
        (all-mapped offer_for (all_map (λ o g. lodged false o.holder o.offered o.price (record { number = g.holder.number; unit = g.holder.unit; energy = g.energy; price = g.price })) r.ranges.offers))
        (all-mapped execution_for (all_map (λ y g. lodged true y.holder y.energy 0 (record { number = g.holder.number; unit = g.holder.unit; energy = g.energy; price = omega arith })) r.ranges.executions));
  }

  -- Capacities

  notices-sound : All (S.OfDay 24) (map (notice_for h.capacities) (from 0 8))
  unfolding notice_for
  notices-sound = all-mapped (notice_for h.capacities) (from_all _ 0 8 (λ d l m. published-sound (get_or h.capacities d None) (λ t. capacity-small r.ranges.capacities d)))

  hours-day : B.hours (book_of h) ≡ 24
  unfolding B.hours book_of unfold_hours
  hours-day = refl

  book-sound : I.Sound (book_of h)
  unfolding book_of unfold_hours
  book-sound = record {
    ranges = record {
      date = refl;
      units = rw hours-day units-sound;
      capacities = rw hours-day notices-sound;
      standing = rw hours-day standing-sound;
      losses = losses-sound;
      stage = λ e. absurd (false≢true e);
    };
    directions = length-map (from 0 8) (notice_for h.capacities) ∙ length_from 0 8;
  }

  -- The notice

  abbrev notice : U.Capacities
  notice = map (notice_for h.capacities) (from 0 8)

  notice-at : (d : ℕ) → d < 8 → get_or notice d nothing ≡ notice_for h.capacities d
  notice-at d l = from-at (notice_for h.capacities) nothing 0 8 d l ∙ ap (notice_for h.capacities) (omega arith)

  direction-held : (d : ℕ) → d < 8
      → cond (is_some (get_or h.capacities d None)) (directed (energies_of h.capacities) d ∷ []) [] ≡ R.published 1 (d / 2 + 1) (eqb (d % 2) 0) (get_or notice d nothing)
  unfolding directed notice_for
  direction-held d l = rw (notice-at d l, energy-of h.capacities d) (published-held (d / 2 + 1) (eqb (d % 2) 0) (get_or h.capacities d None))

  capacities-held : R.capacities_at notice 1 ≡ (hour_in h).capacities
  unfolding hour_in published_in flat from R.capacities_at R.border_capacities U.capacity_of U.direction
  capacities-held =
      let g : ℕ → List Directed = λ d. R.published 1 (d / 2 + 1) (eqb (d % 2) 0) (get_or notice d nothing) in
      sym (kept-flat (directed (energies_of h.capacities)) (λ d. is_some (get_or h.capacities d None)) g (from_all _ 0 8 (λ d l m. direction-held d (omega arith)))
      ∙ eight (g 0) (g 1) (g 2) (g 3) (g 4) (g 5) (g 6) (g 7))

  -- Limit 12

  capacity-held : (c : ℕ) (x : Bool) → 0 < c → c < 5 → optional 1 (U.capacity_of notice c x) ≡ energy_among (hour_in h).capacities c x
  unfolding U.capacity_of hour_in notice_for
  capacity-held c x l m =
      ap (optional 1) (notice-at (U.direction c x) (direction-small c x m))
      ∙ (optional-held (get_or h.capacities (U.direction c x) None) ∙ sym (capacity-abroad h.capacities c x l m))

  home : energy_among (hour_in h).capacities 0 true ≡ None
  unfolding hour_in
  home = capacity-home h.capacities true

  line-held : (c : ℕ) → c < 5 → U.border_sum notice c 1 ≡ line_in (hour_in h).capacities c
  unfolding line_in both_of U.border_sum
  line-held zero m = rw home
  line-held (suc c) m =
      rw (ne_eqb (suc c) 0 (λ z. absurd (omega arith)), ← (capacity-held (suc c) true (omega arith) m), ← (capacity-held (suc c) false (omega arith) m))
      (sym (both-as 1 (U.capacity_of notice (suc c) true) (U.capacity_of notice (suc c) false)))

  -- Ceilings

  limits-held : (y : Execution) → U.unit_of us y.holder.unit ≡ unit_for y.holder
      → B.limits_of (book_of h) y.holder.unit ≡ U.limits (record { capacities = notice; losses = losses }) (unit_for y.holder)
  unfolding B.limits_of book_of
  limits-held y f = ap (U.limits (record { capacities = notice; losses = losses })) f

  -- without rights nothing is taken off
  lessened-none : (s : Maybe ℕ) → U.lessened 0 s ≡ s
  unfolding U.lessened
  lessened-none nothing = refl
  lessened-none (some s) = ap some (omega arith)

  -- a lodgement's energy does not pass limit 12
  abbrev Unpassed : Execution → Type 0
  Unpassed y = U.passes (unit_energy ls y.holder.unit) (U.increased_sum y.holder.loss (line_in (hour_in h).capacities y.holder.border)) ≡ false

  limits-kept : (y : Execution) → U.unit_loss losses (unit_for y.holder).unit ≡ y.holder.loss → y.holder.border < 5 → unit_energy ls y.holder.unit ≤ U.max_energy → Unpassed y
      → any (λ k. U.passes (unit_energy ls y.holder.unit) (k.at 1)) (U.limits (record { capacities = notice; losses = losses }) (unit_for y.holder)) ≡ false
  unfolding U.limits U.own_limits U.border_limits U.maximum_limit U.available_limit U.border_limit U.rights_limit U.available_at U.rights_at U.passes
  limits-kept y i l m q =
      let e = unit_energy ls y.holder.unit in
      of-any-false (λ k. U.passes e (k.at 1)) (more (le-ltb U.max_energy e m) (more (le-ltb U.max_energy e m) (more (ap (U.passes e) (lessened-none _ ∙ ap₂ U.increased_sum i (line-held y.holder.border l)) ∙ q) (more refl none))))

  ceiling-held : (y : Execution) → Found y.holder → y.holder.border < 5 → unit_energy ls y.holder.unit ≤ U.max_energy → Unpassed y
      → unit_energy ls y.holder.unit ≤ B.ceiling_of (book_of h) y.holder.unit 1
  ceiling-held y f l m q =
      ltb-false (B.ceiling_of (book_of h) y.holder.unit 1) (unit_energy ls y.holder.unit) (over-ceiling (book_of h) y.holder.unit 1 (unit_energy ls y.holder.unit) ∙ unpassed)
    where
      unpassed : any (λ k. U.passes (unit_energy ls y.holder.unit) (k.at 1)) (B.limits_of (book_of h) y.holder.unit) ≡ false
      unpassed = ap (λ rs. any (λ k. U.passes (unit_energy ls y.holder.unit) (k.at 1)) rs) (limits-held y f.1.0) ∙ limits-kept y f.1.1 l m q

  ceilings : All (λ y. unit_energy ls y.holder.unit ≤ B.ceiling_of (book_of h) y.holder.unit 1) ls
  ceilings =
      all_both {P = λ y. Found y.holder × HolderWithin 0 y.holder}
      {Q = λ y. (unit_energy ls y.holder.unit ≤ U.max_energy) × Unpassed y} (λ y f q. ceiling-held y f.0 (omega (arith, f.1.border.1)) q.0 q.1)
      (all_both (λ y p q. (p, q)) found ranged) (all_both (λ y p q. (p, q)) r.units.maxima r.units.lines)

  -- what holds of a lodgement's unit in the hour holds of it in the book
  all-standing : (P : ℕ → Type 0) → All (λ y. P y.holder.unit) ls → All (λ l. P l.key.unit) (insert_all os xs)
  unfolding lodgements_of
  all-standing P a =
      let k = all-parts (map lodgement_of (hour_in h).offers) a in
      all_inserted (all-mapped offer_for (all-unmapped lodgement_of (hour_in h).offers k.0)) (all-mapped execution_for k.1)

  -- Energies

  offers-kept : keep (λ l. not l.key.execution) (insert_all os xs) ≡ os
  offers-kept = keep-inserted (λ l. not l.key.execution) (all-mapped offer_for (all-every (λ o. refl) (hour_in h).offers)) (all-mapped execution_for (all-every (λ y. refl) (hour_in h).executions)) offers-rise

  executions-kept : keep (λ l. l.key.execution) (insert_all os xs) ≡ xs
  executions-kept = keep-others (λ l. l.key.execution) (all-mapped offer_for (all-every (λ o. refl) (hour_in h).offers)) (all-mapped execution_for (all-every (λ y. refl) (hour_in h).executions))

  energy-standing : (u : ℕ) → energy_on u 1 (insert_all os xs) ≡ unit_energy ls u
  unfolding unit_energy lodgements_of L.energy_at hourly
  energy-standing u =
      let e : L.Lodgement → ℕ = λ l. L.energy_at l 1 in
      let p : L.Lodgement → Bool = λ l. eqb l.key.unit u in
      omega (
        arith,
        sum-two e p (λ l. l.key.execution) (insert_all os xs),
        ap (λ ks. sum_of e (keep p ks)) offers-kept,
        ap (λ ks. sum_of e (keep p ks)) executions-kept,
        energy-made offer_for lodgement_of u 1 (all-every (λ o. (refl, refl)) (hour_in h).offers),
        energy-made execution_for (λ y. y) u 1 (all-every (λ y. (refl, refl)) (hour_in h).executions),
        ap (λ ys. sum_of (λ (y : Execution). y.energy) (keep (λ y. eqb y.holder.unit u) ys)) (map-id (hour_in h).executions),
        sum-append (λ (y : Execution). y.energy) (λ y. eqb y.holder.unit u) (map lodgement_of (hour_in h).offers) (hour_in h).executions,
      )

  -- Closing accepts all

  abbrev accepts : L.Lodgement → Bool
  accepts l = is_accepted (verdict_of (book_of h) l)

  energy-with : (l : L.Lodgement) → Some (λ k. k ≡ l) (insert_all os xs) → energy_with (book_of h) l 1 ≤ energy_on l.key.unit 1 (insert_all os xs)
  unfolding energy_with accepted_before C.accepted_at verdict_of book_of
  energy-with l s =
      let e : L.Lodgement → ℕ = λ k. L.energy_at k 1 in
      let p : L.Lodgement → Bool = λ k. eqb k.key.unit l.key.unit in
      omega (
        arith,
        sum-some e (λ k. p k && taken_before k l) accepts (insert_all os xs),
        one_more e p (λ k. taken_before k l) l (eq-eqb l.key.unit l.key.unit refl) (not-before l) s,
      )

  -- a lodgement that names hour 1 only
  record Plain (l : L.Lodgement) : Type 0 where
    default : l.key.default ≡ false
    only : (k : ℕ) → 1 ≤ k → 0 < hourly l.energies k → k ≡ 1
    named : 0 < L.energy_at l 1

  plain : All Plain (insert_all os xs)
  unfolding L.energy_at hourly
  plain =
      all_inserted (all-mapped offer_for (all_map (λ o g. record { default = refl; only = first-named o.offered; named = g.energy.0 }) r.ranges.offers))
      (all-mapped execution_for (all_map (λ y g. record { default = refl; only = first-named y.energy; named = g.energy.0 }) r.ranges.executions))

  unhidden : (l : L.Lodgement) → Plain l → L.is_hidden (insert_all os xs) l ≡ false
  unfolding L.is_hidden
  unhidden l p = of-any-false (λ k. L.hides k.key l.key) (all-every (λ k. hides-none k.key l.key p.default) (insert_all os xs))

  unpassed : (l : L.Lodgement) → Plain l → Some (λ k. k ≡ l) (insert_all os xs) → unit_energy ls l.key.unit ≤ B.ceiling_of (book_of h) l.key.unit 1 → (k : ℕ) → Passes (book_of h) l k → ⊥
  unpassed l p s w k q =
      let z = p.only k q.first q.named in
      let o : B.ceiling_of (book_of h) l.key.unit 1 < energy_with (book_of h) l 1 = rw z at q.over in
      omega (arith, o, energy-with l s, energy-standing l.key.unit, w)

  accepted-one : (l : L.Lodgement) → Plain l → Some (λ k. k ≡ l) (insert_all os xs) → unit_energy ls l.key.unit ≤ B.ceiling_of (book_of h) l.key.unit 1 → Judgement (book_of h) l → accepts l ≡ true
  unfolding book_of
  accepted-one l p s w j =
      by_bool (accepts l) (λ t. t) (λ t. let q = (j.exactly (unhidden l p)).0 t in absurd (unpassed l p s w q.0 q.1))

  standing-rises : S.Numbered (book_of h).standing
  unfolding book_of
  standing-rises = rising

  accepted : C.accepted_at (book_of h) ≡ insert_all os xs
  unfolding C.accepted_at verdict_of book_of
  accepted =
      keep_all accepts
      (all_both {P = λ l. Plain l × Some (λ k. k ≡ l) (insert_all os xs)} {Q = λ l. (unit_energy ls l.key.unit ≤ B.ceiling_of (book_of h) l.key.unit 1) × Judgement (book_of h) l}
      (λ l p q. accepted-one l p.0 p.1 q.0 q.1)
      (all_both (λ l p q. (p, q)) plain (each-among (insert_all os xs)))
      (all_both (λ l p q. (p, q)) (all-standing (λ u. unit_energy ls u ≤ B.ceiling_of (book_of h) u 1) ceilings) (closing-exactly (book_of h) standing-rises)))

  -- The hour

  unmatched : All (λ o. o.matched ≡ 0) (hour_in h).offers
  unfolding hour_in
  unmatched = all-mapped fresh_in (all-every (λ o. refl) (listed h.offers))

  abbrev holder_by : ℕ → U.Registered → Holder
  holder_by n q = record { number = n; unit = q.unit.number; border = q.unit.border; purchase = q.unit.purchase; legacy = q.unit.legacy; loss = U.unit_loss losses q.unit }

  abbrev with_loss : Holder → ℕ → Holder
  with_loss x l = record { number = x.number; unit = x.unit; border = x.border; purchase = x.purchase; legacy = x.legacy; loss = l }

  -- its holder is the rules'
  holder-back : (x : Holder) → Found x → holder_by x.number (U.unit_of us x.unit) ≡ x
  holder-back x f = ap (holder_by x.number) f.1.0 ∙ ap (with_loss x) f.1.1

  offer-back : (o : Offer) → Found o.holder → o.matched ≡ 0 → R.offer_at us losses 1 (offer_for o) ≡ o
  unfolding R.offer_at R.holder_of L.energy_at hourly
  offer-back o f m = ap₂ (λ x n. record { holder = x; price = o.price; offered = o.offered; matched = n }) (holder-back o.holder f) (sym m)

  execution-back : (y : Execution) → Found y.holder → R.execution_at us losses 1 (execution_for y) ≡ y
  unfolding R.execution_at R.holder_of L.energy_at hourly
  execution-back y f = ap (λ x. record { holder = x; energy = y.energy }) (holder-back y.holder f)

  named-all : keep (λ l. ltb 0 (L.energy_at l 1)) (insert_all os xs) ≡ insert_all os xs
  named-all = keep_all (λ l. ltb 0 (L.energy_at l 1)) (all_map (λ l p. lt-ltb 0 (L.energy_at l 1) p.named) plain)

  hour-held : R.hour_of_day (book_of h) (insert_all os xs) 1 ≡ hour_in h
  unfolding R.hour_of_day book_of
  hour-held =
      hour-same capacities-held
      (ap (λ ks. map (R.offer_at us losses 1) (keep (λ l. not l.key.execution) ks)) named-all ∙ (ap (map (R.offer_at us losses 1)) offers-kept ∙ map_back offer_for (R.offer_at us losses 1) (all_both offer-back offers-found unmatched)))
      (ap (λ ks. map (R.execution_at us losses 1) (keep (λ l. l.key.execution) ks)) named-all ∙ (ap (map (R.execution_at us losses 1)) executions-kept ∙ map_back execution_for (R.execution_at us losses 1) (all_map execution-back executions-found)))

  book-closed : (book_of h).closed ≡ true
  unfolding book_of
  book-closed = refl

  book-holds : Holding (book_of h) h
  book-holds = record { sound = book-sound; closed = book-closed; hour = ap (λ ks. R.hour_of_day (book_of h) ks 1) accepted ∙ hour-held }

-- every ready hour is the hour 1 of a sound, closed book: with `hour-ready`, `Ready` says exactly the hours of such books
pub ready_held : (h : Hour) → Ready h → Holding (book_of h) h
ready_held h r = book-holds h r

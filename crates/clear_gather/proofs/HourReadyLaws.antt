-- Every hour gathered from a session is ready: the units of a sound book's hour, their offers, and their energies within the ceiling.
use Prim.Native.Nat.{ℕ, zero, suc, ◌-◌, ◌≤◌, ◌<◌}
use mathlib.Core.Path.{◌≡◌, refl, sym, ap, ap₂, subst, ◌∙◌}
use mathlib.Core.Bool.{Bool, true, false, cond, not}
use mathlib.Core.List.{List, [], ◌∷◌, ◌++◌, map, map-map, map-id}
use mathlib.Core.Option.{Option as Maybe, some, none as nothing}
use native.Mathlib.Omega.{arith}
use lib.Dec.{leb, ltb, eqb}
use lib.ListN.{get_or, length}
use borrow.Author.Tests.{leb-true, leb-false, le-ltb, ltb-false, eqb-false, ne_eqb, not-true}
use Rattle.rules.specs.Lists.{All, none, more, Pairwise, empty, ahead, keep, sum, sum_of, hourly}
use Rattle.rules.specs.Units as U
use Rattle.rules.specs.Lodging as L
use Rattle.rules.specs.Book as B
use Rattle.rules.specs.Closing as C
use Rattle.rules.specs.Borders.{Execution}
use Rattle.rules.specs.Clearing as R
use Rattle.rules.specs.Sound as S
use Rattle.rules.proofs.BoolLaws.{by_bool}
use Rattle.rules.proofs.ListLaws.{all_map, all_append, all_keep, all-mapped, all_head, all_tail, any_false, get_or-pad, hourly-suc}
use Rattle.rules.proofs.ElementLaws.{pairwise-keep, pairwise_append, pairwise-apart, pairwise_map, pairwise-weaken, pairwise-with}
use Rattle.rules.proofs.SumLaws.{sum-keep, sum-append, sum-some, sum-two}
use Rattle.rules.proofs.CeilingLaws.{over-ceiling}
use Rattle.rules.proofs.ClosingLaws.{energy_on, accepted-within}
use Rattle.rules.proofs.DemandLaws.{unit-number}
use Rattle.std.specs.Prelude.{Option, Some, None}
use Rattle.hour_borders.specs.Directions.{published_in}
use Rattle.hour_borders.proofs.DirectionLaws.{direction-small}
use Rattle.hour_offers.specs.declared.Holder.{Holder}
use Rattle.hour.specs.declared.Hour.{Hour}
use Rattle.hour.specs.View.{energy_among, hour_in}
use Rattle.hour.specs.Units.{lodgement_of, lodgements_of, unit_energy, both_of, line_in, last_ones, same_unit}
use Rattle.hour.specs.Ready.{SameUnit, UnitsPossible, Ready}
use Rattle.hour.proofs.PairLaws.{all-last-ones, last_apart}
use Rattle.hour.proofs.LineLaws.{capacity-abroad, capacity-home}
use Rattle.session.specs.declared.Session.{Session}
use Rattle.session.specs.Laid.{pad}
use Rattle.session.specs.Image as I
use Rattle.clear_gather.specs.Built.{Holders, Built}
use Rattle.clear_gather.proofs.HourLaws.{given_at, capacity-as, capacity-of, hour-as}
use Rattle.clear_gather.proofs.OfferLaws.{as_many, offers-apart}
use Rattle.clear_gather.proofs.RangeLaws.{unit-good, hour-in-range}

-- what follows of every two
pairwise-all : {A : Type 0} {P : A → Type 0} {Q : A → A → Type 0} → ((x y : A) → P x → P y → Q x y) → {xs : List A} → All P xs → Pairwise Q xs
pairwise-all f none = empty
pairwise-all f (more {x} h t) = ahead (all_map (λ y k. f x y h k) t) (pairwise-all f t)

sum-none : {A : Type 0} (f : A → ℕ) {xs : List A} → All (λ x. f x ≡ 0) xs → sum_of f xs ≡ 0
unfolding sum_of sum
sum-none f none = refl
sum-none f (more h t) = omega (arith, h, sum-none f t)

map-parts : {A B : Type 0} (f : A → B) (xs ys : List A) → map f (xs ++ ys) ≡ map f xs ++ map f ys
map-parts f [] ys = refl
map-parts f (x ∷ xs) ys = ap (λ (l : List _). f x ∷ l) (map-parts f xs ys)

-- what a unit has of lodgements made from a list is what it has of the executions made from it
pub energy-made : {A : Type 0} (f : A → L.Lodgement) (g : A → Execution) (u h : ℕ) {zs : List A} → All (λ a. ((f a).key.unit ≡ (g a).holder.unit) × (L.energy_at (f a) h ≡ (g a).energy)) zs
    → energy_on u h (map f zs) ≡ unit_energy (map g zs) u
unfolding unit_energy sum_of sum keep
energy-made f g u h none = refl
energy-made f g u h (more {x = a} {xs = zs} r t) =
    omega (
      arith,
      sum-keep (λ l. L.energy_at l h) (λ l. eqb l.key.unit u) (f a) (map f zs),
      sum-keep (λ (y : Execution). y.energy) (λ y. eqb y.holder.unit u) (g a) (map g zs),
      ap₂ (λ n e. cond (eqb n u) e 0) r.0 r.1,
      energy-made f g u h t,
    )

module _ (b : B.Book) (sound : S.Sound b) (h : ℕ) (start : 1 ≤ h) where
  abbrev named : L.Lodgement → Bool
  named l = ltb 0 (L.energy_at l h)

  abbrev among : List L.Lodgement
  among = keep named (C.accepted_at b)

  -- its lodgements: the offers, then the executions
  abbrev taken : List L.Lodgement
  taken = keep (λ l. not l.key.execution) among ++ keep (λ l. l.key.execution) among

  abbrev day : R.Hour
  day = R.hour_of_day b (C.accepted_at b) h

  made : lodgements_of day ≡ map (R.execution_at b.units b.losses h) taken
  unfolding lodgements_of R.hour_of_day R.offer_at R.execution_at
  made =
      ap (λ (l : List Execution). l ++ map (R.execution_at b.units b.losses h) (keep (λ l. l.key.execution) among)) (map-map lodgement_of (R.offer_at b.units b.losses h) (keep (λ l. not l.key.execution) among))
      ∙ sym (map-parts (R.execution_at b.units b.losses h) (keep (λ l. not l.key.execution) among) (keep (λ l. l.key.execution) among))

  -- what holds of all that stand holds of them
  all-taken : {P : L.Lodgement → Type 0} → All P b.standing → All P taken
  unfolding C.accepted_at
  all-taken a = let k = all_keep named (all_keep _ a) in all_append (all_keep (λ l. not l.key.execution) k) (all_keep (λ l. l.key.execution) k)

  abbrev Own : L.Lodgement → Type 0
  Own l = S.HasUnit b.units l.key × ((U.unit_of b.units l.key.unit).unit.number ≡ l.key.unit)

  own : All Own taken
  own = all-taken (all_map (λ l k. (k, unit-number b.units l.key.unit k.registered)) sound.standing.holders)

  -- Numbers

  numbers : Pairwise (λ k l. k.number ≡ l.number → ⊥) taken
  unfolding C.accepted_at
  numbers =
      let d = pairwise-weaken {S = λ (k l : L.Lodgement). k.number ≡ l.number → ⊥} (λ k l n e. omega arith) (pairwise-keep named (pairwise-keep _ sound.standing.rising)) in
      pairwise_append (pairwise-apart (λ k l f e. f (sym e)) (λ l. not l.key.execution) (λ l. l.key.execution) (λ l e. not-true l.key.execution e) d)
      (pairwise-keep (λ l. not l.key.execution) d) (pairwise-keep (λ l. l.key.execution) d)

  numbers-made : Pairwise (λ k l. k.holder.number ≡ l.holder.number → ⊥) (map (R.execution_at b.units b.losses h) taken)
  unfolding R.execution_at R.holder_of
  numbers-made = pairwise_map (R.execution_at b.units b.losses h) (λ k l f. f) numbers

  -- Units

  same-unit : (k l : L.Lodgement) → Own k → Own l → (U.unit_of b.units k.key.unit).unit.number ≡ (U.unit_of b.units l.key.unit).unit.number → k.key.unit ≡ l.key.unit
  same-unit k l p q e = sym p.1 ∙ e ∙ q.1

  agree : Pairwise (λ k l. k.holder.unit ≡ l.holder.unit → SameUnit k.holder l.holder) (map (R.execution_at b.units b.losses h) taken)
  unfolding R.execution_at R.holder_of
  agree =
      pairwise_map (R.execution_at b.units b.losses h) (λ k l f. f)
      (pairwise-all (λ k l p q e. let n = same-unit k l p q e in
      record { border = ap (λ u. (U.unit_of b.units u).unit.border) n; purchase = ap (λ u. (U.unit_of b.units u).unit.purchase) n; legacy = ap (λ u. (U.unit_of b.units u).unit.legacy) n }) own)

  -- a border's purchases have its loss, and sales none
  losses : Pairwise (λ k l. k.holder.border ≡ l.holder.border → k.holder.purchase ≡ l.holder.purchase → k.holder.loss ≡ l.holder.loss) (map (R.execution_at b.units b.losses h) taken)
  unfolding R.execution_at R.holder_of U.unit_loss
  losses =
      pairwise_map (R.execution_at b.units b.losses h) (λ k l f. f)
      (pairwise-all (λ k l p q c d. ap₂ (λ purchase border. cond purchase (U.loss_of b.losses border) 0) d c) own)

  single : Pairwise (λ o p. o.holder.unit ≡ p.holder.unit → ⊥) day.offers
  unfolding R.hour_of_day R.offer_at R.holder_of C.accepted_at
  single =
      pairwise_map (R.offer_at b.units b.losses h) (λ k l f. f)
      (pairwise-with (λ k l p q f e. f (sym p ∙ e ∙ q))
      (all_keep (λ l. not l.key.execution) (all_keep named (all_keep _ (all_map (λ l k. unit-number b.units l.key.unit k.registered) sound.standing.holders))))
      (offers-apart b sound named))

  registered : All (λ x. U.is_registered b.units x.holder.unit ≡ true) (map (R.execution_at b.units b.losses h) taken)
  unfolding R.execution_at R.holder_of
  registered = all-mapped (R.execution_at b.units b.losses h) (all_map (λ l p. ap (U.is_registered b.units) p.1 ∙ p.0.registered) own)

  few : length (last_ones same_unit (map (R.execution_at b.units b.losses h) taken)) ≤ 64
  unfolding same_unit
  few =
      omega (
        arith,
        as_many (λ (x : Execution). x.holder.unit) b.units (pairwise-weaken (λ x y n. eqb-false x.holder.unit y.holder.unit n) (last_apart same_unit (map (R.execution_at b.units b.losses h) taken))) (all-last-ones same_unit registered),
        sound.units.room,
      )

  -- Energies

  energy-own : (u : ℕ) → unit_energy (map (R.execution_at b.units b.losses h) taken) u ≡ energy_on u h taken
  unfolding R.execution_at R.holder_of
  energy-own u = sym (energy-made (λ l. l) (R.execution_at b.units b.losses h) u h (all_map (λ l p. (sym p.1, refl)) own)) ∙ ap (energy_on u h) (map-id taken)

  energy-taken : (u : ℕ) → energy_on u h taken ≤ energy_on u h (C.accepted_at b)
  energy-taken u =
      let e : L.Lodgement → ℕ = λ l. L.energy_at l h in
      let p : L.Lodgement → Bool = λ l. eqb l.key.unit u in
      omega (
        arith,
        sum-append e p (keep (λ l. not l.key.execution) among) (keep (λ l. l.key.execution) among),
        sum-two e p (λ l. l.key.execution) among,
        sum-some e p named (C.accepted_at b),
      )

  -- beyond the day's hours there is no energy
  energy-beyond : (u : ℕ) → B.hours b < h → energy_on u h (C.accepted_at b) ≡ 0
  unfolding C.accepted_at
  energy-beyond u l = sum-none (λ k. L.energy_at k h) (all_keep (λ k. eqb k.key.unit u) (all_keep _ (all_map (λ k m. m.beyond h l) sound.standing.messages)))

  within : (u : ℕ) → energy_on u h (C.accepted_at b) ≤ B.ceiling_of b u h
  within u =
      by_bool (leb h (B.hours b)) (λ t. accepted-within b sound.standing.rising u h start (leb-true h (B.hours b) t))
      (λ t. omega (arith, energy-beyond u (leb-false h (B.hours b) t)))

  -- an energy that does not pass a lessened sum does not pass the sum
  passes-whole : (n e : ℕ) (s : Maybe ℕ) → U.passes e (U.lessened n s) ≡ false → U.passes e s ≡ false
  unfolding U.passes U.lessened
  passes-whole n e nothing k = refl
  passes-whole n e (some s) k = le-ltb s e (omega (arith, ltb-false (s - n) e k))

  -- the increased sum of a unit's border
  abbrev line_for : U.TradingUnit → Maybe ℕ
  line_for u = U.increased_sum (U.unit_loss b.losses u) (U.border_sum b.capacities u.border h)

  -- an energy within the ceiling passes no limit
  unpassed : (u e : ℕ) → e ≤ B.ceiling_of b u h → (e ≤ (U.unit_of b.units u).unit.maximum) × (U.passes e (line_for (U.unit_of b.units u).unit) ≡ false)
  unfolding B.limits_of U.limits U.own_limits U.border_limits U.maximum_limit U.available_limit U.border_limit U.passes
  unpassed u e l =
      let a = any_false (λ k. U.passes e (k.at h)) (B.limits_of b u) (sym (over-ceiling b u h e) ∙ le-ltb (B.ceiling_of b u h) e l) in
      (ltb-false _ _ (all_head a), passes-whole _ e _ (all_head (all_tail (all_tail a))))

  module _ (l : L.Lodgement) (p : Own l) where
    abbrev unit : U.TradingUnit
    unit = (U.unit_of b.units l.key.unit).unit

    abbrev energy : ℕ
    energy = unit_energy (map (R.execution_at b.units b.losses h) taken) unit.number

    unit-within : (energy ≤ U.max_energy) × (U.passes energy (line_for unit) ≡ false)
    unit-within =
        let e : energy ≡ energy_on l.key.unit h taken = ap (unit_energy (map (R.execution_at b.units b.losses h) taken)) p.1 ∙ energy-own l.key.unit in
        let w = unpassed l.key.unit energy (omega (arith, e, energy-taken l.key.unit, within l.key.unit)) in
        (omega (arith, w.0, (unit-good b sound h l p.0).maximum), w.1)

  maxima : All (λ x. unit_energy (map (R.execution_at b.units b.losses h) taken) x.holder.unit ≤ U.max_energy) (map (R.execution_at b.units b.losses h) taken)
  unfolding R.execution_at R.holder_of
  maxima = all-mapped (R.execution_at b.units b.losses h) (all_map (λ l p. (unit-within l p).0) own)

  module _ (line : (c : ℕ) → c < 5 → line_in day.capacities c ≡ U.border_sum b.capacities c h) where
    lines : All (λ x. U.passes (unit_energy (map (R.execution_at b.units b.losses h) taken) x.holder.unit) (U.increased_sum x.holder.loss (line_in day.capacities x.holder.border)) ≡ false) (map (R.execution_at b.units b.losses h) taken)
    unfolding R.execution_at R.holder_of
    lines = all-mapped (R.execution_at b.units b.losses h) (all_map (λ l p. ap (λ s. U.passes (energy l p) (U.increased_sum (U.unit_loss b.losses (unit l p)) s)) (line (unit l p).border (omega (arith, (unit-good b sound h l p.0).border))) ∙ (unit-within l p).1) own)

    pub day-units : UnitsPossible day
    day-units = record {
      numbers = rw made numbers-made;
      agree = rw made agree;
      losses = rw made losses;
      single = single;
      few = rw made few;
      maxima = rw made maxima;
      lines = rw made lines;
    }

-- Limit 12

-- a direction's capacity in an hour
unfoldable pub optional : ℕ → U.Published → Option ℕ
optional h nothing = None
optional h (some es) = Some (hourly es h)

pub both-as : (h : ℕ) (p q : U.Published) → both_of (optional h p) (optional h q) ≡ U.both_at h p q
unfolding optional both_of U.both_at
both-as h nothing q = refl
both-as h (some es) nothing = refl
both-as h (some es) (some is) = refl

notice-said : (k : ℕ) (q : U.Published) → given_at (I.notice_as q) k ≡ optional (suc k) q
unfolding optional I.notice_as pad
notice-said k nothing = refl
notice-said k (some es) = ap (λ n. Some n) (get_or-pad es (25 - length es) k ∙ sym (hourly-suc es k))

module _ (s : Session) (b : B.Book) (e : s ≡ I.image b) (sound : I.Sound b) (closed : b.closed ≡ true) (hs : List Holder) (holders : Holders s hs) (k : ℕ) (h : Hour) (t : Built s hs k h) where
  capacity-said : (c : ℕ) (x : Bool) → 0 < c → c < 5 → energy_among (published_in h.capacities) c x ≡ optional (suc k) (U.capacity_of b.capacities c x)
  unfolding U.capacity_of
  capacity-said c x l m =
      capacity-abroad h.capacities c x l m
      ∙ (capacity-of s b e sound.directions k h.capacities t.capacities (U.direction c x) (direction-small c x m)
      ∙ (capacity-as s b e sound.directions k (U.direction c x) (direction-small c x m)
      ∙ notice-said k (get_or b.capacities (U.direction c x) nothing)))

  line_as : (c : ℕ) → c < 5 → line_in (published_in h.capacities) c ≡ U.border_sum b.capacities c (suc k)
  unfolding line_in both_of U.border_sum
  line_as zero m = rw (capacity-home h.capacities true)
  line_as (suc c) m =
      rw (capacity-said (suc c) true (omega arith) m, capacity-said (suc c) false (omega arith) m, ne_eqb (suc c) 0 (λ z. absurd (omega arith)))
      (both-as (suc k) (U.capacity_of b.capacities (suc c) true) (U.capacity_of b.capacities (suc c) false))

  -- every hour gathered from a session is ready
  pub hour-ready : Ready h
  unfolding hour_in
  hour-ready =
      let same : hour_in h ≡ R.hour_of_day b (C.accepted_at b) (suc k) = hour-as s b e closed hs holders k h t sound.directions in
      record {
        ranges = hour-in-range s b e sound closed hs holders k h t;
        units = subst UnitsPossible (sym same) (day-units b sound.ranges (suc k) (omega arith) (λ c l. ap (λ (x : R.Hour). line_in x.capacities c) (sym same) ∙ line_as c l));
      }

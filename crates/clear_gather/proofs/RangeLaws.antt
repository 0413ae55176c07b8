-- An hour built from a session that stands for a sound book is in its ranges.
use Prim.Native.Nat.{ℕ, zero, suc, ◌-◌, ◌≤◌, ◌<◌}
use mathlib.Core.Path.{◌≡◌, refl, sym, ap, subst, ◌∙◌}
use mathlib.Core.Bool.{Bool, true, false, not, ◌&&◌, ◌||◌, false≢true}
use mathlib.Core.List.{List}
use mathlib.Core.Option.{some, none as nothing}
use native.Mathlib.Omega.{arith}
use lib.Dec.{ltb, eqb}
use lib.ListN.{get_or, length, length-map}
use borrow.Author.Tests.{ltb-true, ltb-false, eqb-false}
use Rattle.rules.specs.Lists.{All, none, more, Pairwise, any, first, keep, hourly}
use Rattle.rules.specs.Units as U
use Rattle.rules.specs.Message.{top_price}
use Rattle.rules.specs.Lodging as L
use Rattle.rules.specs.Book as B
use Rattle.rules.specs.Closing as C
use Rattle.rules.specs.Clearing as R
use Rattle.rules.specs.Sound as S
use Rattle.rules.proofs.BoolLaws.{by_bool, neither}
use Rattle.rules.proofs.ListLaws.{all_map, all-mapped, all_keep, keep-passes, get_or-pad}
use Rattle.rules.proofs.ListLaws as RL
use Rattle.rules.proofs.ElementLaws.{all_both, pairwise-keep, pairwise_map}
use Rattle.rules.proofs.IndexLaws.{from_all}
use Rattle.std.specs.Prelude.{unwrap_or}
use Rattle.hour_offers.specs.declared.Holder.{Holder as Own}
use Rattle.hour_offers.specs.View.{execution_in}
use Rattle.listed.specs.View.{listed}
use Rattle.hour.specs.declared.Hour.{Hour}
use Rattle.hour.specs.View.{fresh_in, hour_in}
use Rattle.hour.specs.Ready.{Between, HolderWithin, OfferWithin, ExecutionWithin, HourInRange}
use Rattle.clear_gather.proofs.ListLaws.{all-within}
use Rattle.session.specs.declared.Session.{Session}
use Rattle.session.specs.Laid.{pad}
use Rattle.session.specs.Image as I
use Rattle.clear_gather.specs.Built.{capacity_on, Holders, Built}
use Rattle.clear_gather.proofs.HourLaws.{given_at, capacity-as, hour-as}
use Rattle.clear_gather.proofs.OfferLaws.{few-offers, all_room}

-- What a sound book gives

top-price : (x : Bool) → top_price x ≤ U.max_price
unfolding top_price
top-price true = omega arith
top-price false = omega arith

-- of a unit with a number, one that is registered
pub first_one : {A : Type 0} {P : A → Type 0} (p : A → Bool) (d : A) {xs : List A} → any p xs ≡ true → All P xs → P (first p d xs)
unfolding first any
first_one p d h none = absurd (false≢true h)
first_one p d h (more {x} k t) = by_bool (p x) (λ e. rw e k) (λ e. rw e (first_one p d (rw e at h) t))

positive : (x : ℕ) → eqb x 0 ≡ false → 1 ≤ x
positive zero e = absurd (eqb-false 0 0 e refl)
positive (suc x) e = omega arith

good-number : (n : ℕ) → U.bad_number n ≡ false → Between 1 65535 n
unfolding U.bad_number
good-number n h = let p = neither (eqb n 0) (ltb 65535 n) h in (positive n p.0, ltb-false 65535 n p.1)

-- number, border, maximum and legacy mark of a unit in its ranges
pub record GoodUnit (u : U.TradingUnit) : Type 0 where
  pub number : Between 1 65535 u.number
  pub border : u.border ≤ 4
  pub maximum : u.maximum ≤ U.max_energy
  pub legacy : u.legacy ≡ true → 1 ≤ u.border

pub good-unit : (u : U.TradingUnit) → U.bad_unit u ≡ false → GoodUnit u
unfolding U.bad_unit U.domestic
good-unit u h =
    let n = U.bad_number u.number || U.bad_number u.agent in
    let o = neither (n || ltb 4 u.border || ltb U.max_energy u.maximum || u.legacy && eqb u.border 0) (u.rights && not (U.french u)) h in
    let p = neither (n || ltb 4 u.border || ltb U.max_energy u.maximum) (u.legacy && eqb u.border 0) o.0 in
    let q = neither (n || ltb 4 u.border) (ltb U.max_energy u.maximum) p.0 in
    let r = neither n (ltb 4 u.border) q.0 in
    record {
      number = good-number u.number (neither (U.bad_number u.number) (U.bad_number u.agent) r.0).0;
      border = ltb-false 4 u.border r.1;
      maximum = ltb-false U.max_energy u.maximum q.1;
      legacy = λ t. positive u.border (rw t at p.1);
    }

-- a unit's loss

loss-most : (ls : List ℕ) → S.LossesSound ls → (u : U.TradingUnit) → u.border ≤ 4 → U.unit_loss ls u ≤ U.max_loss
unfolding U.unit_loss U.loss_of
loss-most ls k u m = by_bool u.purchase (λ t. rw t (RL.all-at u.border 0 k.range (omega (arith, k.count)))) (λ t. rw t (omega arith))

sale-loss : (ls : List ℕ) (u : U.TradingUnit) → u.purchase ≡ false → U.unit_loss ls u ≡ 0
unfolding U.unit_loss
sale-loss ls u t = rw t refl

domestic-loss : (ls : List ℕ) → S.LossesSound ls → (u : U.TradingUnit) → u.border ≡ 0 → U.unit_loss ls u ≡ 0
unfolding U.unit_loss
domestic-loss ls k u z = by_bool u.purchase (λ t. rw (t, z) k.domestic) (λ t. rw t refl)

-- a lodgement in an hour
record Fit (us : List U.Registered) (h : ℕ) (l : L.Lodgement) : Type 0 where
  number : Between 1 65535 l.number
  unit : GoodUnit (U.unit_of us l.key.unit).unit
  abroad : l.key.execution ≡ true → 1 ≤ (U.unit_of us l.key.unit).unit.border
  price : hourly l.prices h ≤ U.max_price
  energy : L.energy_at l h ≤ U.max_energy

module _ (b : B.Book) (sound : S.Sound b) (h : ℕ) where
  pub unit-good : (l : L.Lodgement) → S.HasUnit b.units l.key → GoodUnit (U.unit_of b.units l.key.unit).unit
  unfolding U.unit_of U.is_registered
  unit-good l g = first_one (U.has_number l.key.unit) U.nobody g.registered (all_map (λ r e. good-unit r.unit e) sound.units.ranges)

  abroad : (l : L.Lodgement) → S.HasUnit b.units l.key → l.key.execution ≡ true → 1 ≤ (U.unit_of b.units l.key.unit).unit.border
  unfolding L.domestic_execution U.domestic
  abroad l g t = positive _ (rw t at g.border)

  standing-fits : All (Fit b.units h) b.standing
  standing-fits =
      all_both {P = λ l. (1 ≤ l.number) × (l.number ≤ b.last)} {Q = λ l. S.HasUnit b.units l.key × S.Lodged (B.hours b) l} (λ l p q. record {
        number = (p.0, omega (arith, p.1, sound.standing.counted));
        unit = unit-good l q.0;
        abroad = abroad l q.0;
        price = omega (arith, q.1.price h, top-price l.key.execution);
        energy = q.1.energy h;
      }) (all_both (λ l p q. (p, q)) sound.standing.from_one sound.standing.to_last) (all_both (λ l p q. (p, q)) sound.standing.holders sound.standing.messages)

  abbrev is_named : L.Lodgement → Bool
  is_named l = ltb 0 (L.energy_at l h)

  named-fits : All (λ l. Fit b.units h l × (0 < L.energy_at l h)) (keep is_named (C.accepted_at b))
  unfolding C.accepted_at
  named-fits = all_both (λ l f p. (f, ltb-true _ _ p)) (all_keep is_named (all_keep _ standing-fits)) (keep-passes is_named (C.accepted_at b))

  holder-within : (first : ℕ) (l : L.Lodgement) → Fit b.units h l → first ≤ (U.unit_of b.units l.key.unit).unit.border → HolderWithin first (R.holder_of b.units b.losses l)
  unfolding R.holder_of
  holder-within first l g m = record {
    number = g.number;
    unit = g.unit.number;
    border = (m, g.unit.border);
    legacy = g.unit.legacy;
    loss = loss-most b.losses sound.losses (U.unit_of b.units l.key.unit).unit g.unit.border;
    sale = sale-loss b.losses (U.unit_of b.units l.key.unit).unit;
    domestic = domestic-loss b.losses sound.losses (U.unit_of b.units l.key.unit).unit;
  }

  -- the hour that the rules make of it
  abbrev day : R.Hour
  day = R.hour_of_day b (C.accepted_at b) h

  offers-within : All OfferWithin day.offers
  unfolding R.hour_of_day R.offer_at R.holder_of
  offers-within =
      all-mapped (R.offer_at b.units b.losses h)
      (all_keep (λ l. not l.key.execution) (all_map (λ l g. record {
        holder = holder-within 0 l g.0 (omega arith);
        price = g.0.price;
        energy = (g.1, g.0.energy);
      }) named-fits))

  executions-within : All ExecutionWithin day.executions
  unfolding R.hour_of_day R.execution_at R.holder_of
  executions-within =
      all-mapped (R.execution_at b.units b.losses h)
      (all_both (λ l t g. record {
        holder = holder-within 1 l g.0 (g.0.abroad t);
        energy = (g.1, g.0.energy);
      }) (keep-passes (λ l. l.key.execution) (keep is_named (C.accepted_at b))) (all_keep (λ l. l.key.execution) named-fits))

-- a direction's capacity
capacity-small : (H k : ℕ) (q : U.Published) → S.OfDay H q → unwrap_or (given_at (I.notice_as q) k) 0 ≤ U.max_energy
unfolding I.notice_as pad
capacity-small H k nothing S.absent = omega arith
capacity-small H k (some es) (S.energies n a) = rw (get_or-pad es (25 - length es) k) (all-within U.max_energy a k)

module _ (s : Session) (b : B.Book) (e : s ≡ I.image b) (sound : I.Sound b) (closed : b.closed ≡ true) (hs : List Own) (holders : Holders s hs) (k : ℕ) (h : Hour) (t : Built s hs k h) where
  same : hour_in h ≡ R.hour_of_day b (C.accepted_at b) (suc k)
  same = hour-as s b e closed hs holders k h t sound.directions

  -- as many as the rules' hour has
  offers-count : h.offers.count ≡ length (keep (λ l. not l.key.execution) (keep (λ l. ltb 0 (L.energy_at l (suc k))) (C.accepted_at b)))
  unfolding hour_in R.hour_of_day
  offers-count =
      t.offers.1 ∙ sym (ap length t.offers.0) ∙ sym (length-map (listed h.offers) fresh_in) ∙ ap (λ x. length x.offers) same
      ∙ length-map (keep (λ l. not l.key.execution) (keep (λ l. ltb 0 (L.energy_at l (suc k))) (C.accepted_at b))) (R.offer_at b.units b.losses (suc k))

  executions-count : h.executions.count ≡ length (keep (λ l. l.key.execution) (keep (λ l. ltb 0 (L.energy_at l (suc k))) (C.accepted_at b)))
  unfolding hour_in R.hour_of_day
  executions-count =
      t.executions.1 ∙ sym (ap length t.executions.0) ∙ sym (length-map (listed h.executions) execution_in) ∙ ap (λ x. length x.executions) same
      ∙ length-map (keep (λ l. l.key.execution) (keep (λ l. ltb 0 (L.energy_at l (suc k))) (C.accepted_at b))) (R.execution_at b.units b.losses (suc k))

  capacities-range : All (λ c. unwrap_or c 0 ≤ U.max_energy) h.capacities
  capacities-range =
      rw t.capacities
      (all-mapped (capacity_on s.capacities k) (from_all _ 0 8 (λ d l m. rw (capacity-as s b e sound.directions k d (omega arith))
      (capacity-small (B.hours b) k (get_or b.capacities d nothing) (RL.all-at d nothing sound.ranges.capacities (omega (arith, sound.directions)))))))

  pub hour-in-range : HourInRange h
  unfolding hour_in R.hour_of_day R.offer_at R.execution_at R.holder_of C.accepted_at
  hour-in-range = record {
    offering = omega (arith, offers-count, few-offers b sound.ranges (λ l. ltb 0 (L.energy_at l (suc k))));
    room = omega (arith, offers-count, executions-count, all_room b sound.ranges (λ l. ltb 0 (L.energy_at l (suc k))));
    offers = subst (λ x. All OfferWithin x.offers) (sym same) (offers-within b sound.ranges (suc k));
    offers-rise = subst (λ x. Pairwise (λ o p. o.holder.number < p.holder.number) x.offers) (sym same)
        (pairwise_map (R.offer_at b.units b.losses (suc k)) (λ x y g. g) (pairwise-keep (λ l. not l.key.execution) (pairwise-keep (λ l. ltb 0 (L.energy_at l (suc k))) (pairwise-keep _ sound.ranges.standing.rising))));
    executions = subst (λ x. All ExecutionWithin x.executions) (sym same) (executions-within b sound.ranges (suc k));
    executions-rise = subst (λ x. Pairwise (λ o p. o.holder.number < p.holder.number) x.executions) (sym same)
        (pairwise_map (R.execution_at b.units b.losses (suc k)) (λ x y g. g) (pairwise-keep (λ l. l.key.execution) (pairwise-keep (λ l. ltb 0 (L.energy_at l (suc k))) (pairwise-keep _ sound.ranges.standing.rising))));
    capacities = capacities-range;
  }

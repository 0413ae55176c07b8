-- What holds of the book after every list of calls.
use Prim.Native.Nat.{ℕ, zero, suc, ◌+◌, ◌≤◌, ◌<◌}
use mathlib.Core.Path.{◌≡◌, refl, ap, ap₂, sym, ◌∙◌}
use mathlib.Core.Logic.{◌⊎◌, inl, inr, ⊎_elim}
use mathlib.Core.Bool.{Bool, true, false, cond, not, ◌&&◌, ◌||◌, beq, false≢true, and-true}
use mathlib.Core.List.{List, [], ◌∷◌, ◌++◌, map}
use mathlib.Core.Option.{Option, some, none as nothing}
use native.Mathlib.Omega.{arith}
use lib.Dec.{leb, ltb, eqb}
use lib.ListN.{length, set, length-append, length-map, length-set}
use lib.Seq.{get_or-set_other}
use borrow.Author.Tests.{leb-false, ltb-true, ltb-false, eqb-true, eqb-false, eq-eqb, lt-ltb, not-false, not-true}
use Rattle.rules.specs.Lists.{All, none, more, Pairwise, empty, ahead, keep, any, first, sum_of, from, hourly}
use Rattle.rules.specs.Refusals.{Row, row, first_row}
use Rattle.rules.specs.Hours.{unfold_hours, Date, is_date, date_row}
use Rattle.rules.specs.Units.{TradingUnit, Registered, Published, Capacities, max_energy, max_loss, bad_loss, loss_of, domestic, bad_unit, bad_number, bad_energies, bad_published, not_of_hours, is_second_to, french, french_of, has_number, is_registered, unit_of, nobody}
use Rattle.rules.specs.Message.{Key, Fields, names, message_of, wrong_form, bad_map, bad_key, bad_fields, wrong_range}
use Rattle.rules.specs.Lodging.{Lodgement, energy_at, same_key, stands, without, names_beyond}
use Rattle.rules.specs.Book.{Book, hours, limits_of, fresh, Frozen, frozen}
use Rattle.rules.specs.Judging.{is_accepted, verdict_among}
use Rattle.rules.specs.Closing.{judge, judgements, accepted_at}
use Rattle.rules.specs.Clearing.{hour_of_day, clear_hour, figures_at, day_steps}
use Rattle.rules.specs.DayBook.{Call, register, capacity, available, rights, loss, lodge, annul, close, clear, change_row, unregistered, bad_holder, is_second, is_partner, no_partner, units_full, full, gate_row, lodge_rows, call_rows, rows_of, with_units, with_capacities, with_standing, with_stage, with_losses, notify, grant, rights_on_side, entry, applied, effect_of, effect, after, opened_with, opening, Answer, done, steps, reply, answers}
use Rattle.rules.specs.Sound.{OfDay, absent, energies, UnitsSound, HasUnit, Lodged, StandingSound, LossesSound, Sound, WellTyped}
use Rattle.rules.specs.Demands.{Begins, opened, Got, now, next, Staged, ClosedIn}
use Rattle.rules.proofs.BoolLaws.{by_bool, not-both, of-not, neither, both, of-both, beq-true, of-beq}
use Rattle.rules.proofs.ListLaws.{keep-passes, length-keep, length-drop-one, any-longer, first-longer, all_map, all_head, all_tail, all_keep, all-mapped, all_replicate, all_from, any_false, hourly-beyond}
use Rattle.rules.proofs.ElementLaws.{all-last, all-set, pairwise-last, all_both, all-every, pairwise-keep, pairwise_map, pairwise-weaken}
use Rattle.rules.proofs.RefusalLaws.{accepted-rows}
use Rattle.rules.proofs.MessageLaws.{Good, of-reads, message-lengths, message-good}

-- Notices

-- energies that are not refused
energies-good : (es : List ℕ) → bad_energies es ≡ false → All (λ e. e ≤ max_energy) es
unfolding bad_energies
energies-good es h = all_map (λ e k. ltb-false max_energy e k) (any_false _ es h)

-- a direction that is not refused
published-good : (H : ℕ) (p : Published) → not_of_hours H p ≡ false → bad_published p ≡ false → OfDay H p
unfolding not_of_hours bad_published
published-good H nothing h k = absent
published-good H (some es) h k = energies (eqb-true _ _ (not-false _ h)) (energies-good es k)

-- a capacity notice that is not refused
notice-good : (H : ℕ) (cs : Capacities) → any (not_of_hours H) cs ≡ false → any bad_published cs ≡ false → All (OfDay H) cs
notice-good H cs h k = all_both (published-good H) (any_false (not_of_hours H) cs h) (any_false bad_published cs k)

-- Units

-- an agent's border and side: the order does not matter
second-sym : (u v : TradingUnit) → is_second_to u v ≡ false → is_second_to v u ≡ false
unfolding is_second_to domestic
second-sym u v h =
    of-not (is_second_to v u) (λ k.
    let m = both (not (domestic v) && eqb v.agent u.agent && eqb v.border u.border && beq v.purchase u.purchase) (beq v.rights u.rights) k in
    let a = both (not (domestic v) && eqb v.agent u.agent && eqb v.border u.border) (beq v.purchase u.purchase) m.0 in
    let b = both (not (domestic v) && eqb v.agent u.agent) (eqb v.border u.border) a.0 in
    let c = both (not (domestic v)) (eqb v.agent u.agent) b.0 in
    let border : v.border ≡ u.border = eqb-true _ _ b.1 in
    let d : not (eqb u.border 0) ≡ true = rw (← border) c.0 in
    not-both (of-both (of-both (of-both (of-both d (eq-eqb u.agent v.agent (sym (eqb-true _ _ c.1)))) (eq-eqb u.border v.border (sym border)))
    (of-beq u.purchase v.purchase (sym (beq-true _ _ a.1)))) (of-beq u.rights v.rights (sym (beq-true _ _ m.1)))) h)

-- the first that passes a test has what all that pass it have
first-agrees : {A B : Type 0} (p : A → Bool) (f : A → B) (d : A) {xs : List A} → Pairwise (λ x y. p x ≡ true → p y ≡ true → f x ≡ f y) xs
    → All (λ x. p x ≡ true → f x ≡ f (first p d xs)) xs
unfolding first
first-agrees p f d empty = none
first-agrees p f d (ahead {x} {xs} a t) =
    by_bool (p x) (λ e. rw e (more (λ k. refl) (all_map (λ y g k. sym (g e k)) a))) (λ e. rw e (more (λ k. not-both k e) (first-agrees p f d t)))

-- what holds of all and of the default holds of the first
all_first : {A : Type 0} {P : A → Type 0} (p : A → Bool) (d : A) {xs : List A} → All P xs → P d → P (first p d xs)
unfolding first
all_first p d none k = k
all_first {P} p d (more {x} h t) k = by_bool (p x) (λ e. rw e h) (λ e. rw e (all_first {P = P} p d t k))

-- a French unit of an agent and side
pub french-parts : (agent : ℕ) (purchase : Bool) (u : TradingUnit) → french_of agent purchase u ≡ true → (french u ≡ true) × (u.agent ≡ agent) × (u.purchase ≡ purchase)
unfolding french_of
french-parts agent purchase u h =
    let a = both (french u && eqb u.agent agent) (beq u.purchase purchase) h in
    let c = both (french u) (eqb u.agent agent) a.0 in
    (c.0, eqb-true _ _ c.1, beq-true _ _ a.1)

-- a new unit's rights
module _ (H : ℕ) (us : List Registered) (u : TradingUnit) (s : UnitsSound H us) where
  partner-granted : OfDay H (rights_on_side us u)
  unfolding rights_on_side
  partner-granted = go (french u)
    where
      go : (t : Bool) → OfDay H (cond t (first (λ r. french_of u.agent u.purchase r.unit) nobody us).rights nothing)
      go true = all_first {P = λ r. OfDay H r.rights} (λ r. french_of u.agent u.purchase r.unit) nobody s.granted absent
      go false = absent

  -- are those of its agent and side
  partner-agreed : (agent : ℕ) (purchase : Bool) → french_of agent purchase u ≡ true → All (λ r. french_of agent purchase r.unit ≡ true → r.rights ≡ rights_on_side us u) us
  unfolding rights_on_side
  partner-agreed agent purchase h =
      let k = french-parts agent purchase u h in
      rw (k.0, k.1, k.2) (first-agrees (λ r. french_of agent purchase r.unit) (λ r. r.rights) nobody (s.agreed agent purchase))

foreign-none : (us : List Registered) (u : TradingUnit) → french u ≡ false → rights_on_side us u ≡ nothing
unfolding rights_on_side
foreign-none us u e = rw e

-- a unit that is registered: its rows 7, 8 and 15 do not apply
register-sound : (H : ℕ) (us : List Registered) (u : TradingUnit) → UnitsSound H us → bad_unit u ≡ false → is_registered us u.number ≡ false
    → any (λ r. is_second_to u r.unit) us ≡ false → length us < 64 → (u.rights ≡ true → any (is_partner u.agent u.purchase) us ≡ true)
    → UnitsSound H (us ++ (record { unit = u; available = nothing; rights = rights_on_side us u } ∷ []))
unfolding is_registered has_number
register-sound H us u s good new second room partner =
    record {
      room = rw length-append (omega arith);
      distinct = pairwise-last s.distinct (all_map (λ r e. eqb-false r.unit.number u.number e) (any_false (has_number u.number) us new));
      single = pairwise-last s.single (all_map (λ r e. second-sym u r.unit e) (any_false (λ r. is_second_to u r.unit) us second));
      ranges = all-last s.ranges good;
      notices = all-last s.notices absent;
      granted = all-last s.granted (partner-granted H us u s);
      agreed = λ agent purchase. pairwise-last (s.agreed agent purchase) (by_bool (french_of agent purchase u)
          (λ e. all_map (λ r f k l. f k) (partner-agreed H us u s agent purchase e)) (λ e. all-every (λ r k l. not-both l e) us));
      foreign = all-last s.foreign (foreign-none us u);
      partnered = all-last (all_map (λ r f e. any-longer (is_partner r.unit.agent r.unit.purchase) us _ (f e)) s.partnered) (λ e. any-longer (is_partner u.agent u.purchase) us _ (partner e));
    }

-- the unit of a key stays registered beside a new one
unit-longer : (us vs : List Registered) (k : Key) → HasUnit us k → HasUnit (us ++ vs) k
unfolding is_registered unit_of
unit-longer us vs k h =
    record {
      registered = any-longer (has_number k.unit) us vs h.registered;
      border = rw (first-longer (has_number k.unit) nobody us vs h.registered) h.border;
    }

-- Notices

-- what changes no unit
module _ (f : Registered → Registered) (same : (r : Registered) → (f r).unit ≡ r.unit) where
  -- a test of the unit
  pub any_same : (p : TradingUnit → Bool) (us : List Registered) → any (λ r. p r.unit) (map f us) ≡ any (λ r. p r.unit) us
  unfolding any
  any_same p [] = refl
  any_same p (r ∷ us) = ap₂ (λ (u : TradingUnit) (t : Bool). p u || t) (same r) (any_same p us)

  -- registers nobody
  same-registered : (m : ℕ) (us : List Registered) → is_registered (map f us) m ≡ is_registered us m
  unfolding is_registered has_number
  same-registered m us = any_same (λ u. eqb u.number m) us

  same-unit : (m : ℕ) (us : List Registered) → (unit_of (map f us) m).unit ≡ (unit_of us m).unit
  unfolding unit_of first has_number
  same-unit m [] = refl
  same-unit m (r ∷ us) = by_bool (eqb r.unit.number m) (λ e. rw (same r, e)) (λ e. rw (same r, e) (same-unit m us))

  -- nor changes whose it is
  same-holder : (us : List Registered) (k : Key) → HasUnit us k → HasUnit (map f us) k
  same-holder us k h =
      record { registered = same-registered k.unit us ∙ h.registered; border = rw (same-unit k.unit us) h.border }

  -- a sound registry stays sound if the notices do
  same-sound : (H : ℕ) (us : List Registered) → UnitsSound H us → All (λ r. OfDay H (f r).available) us → All (λ r. OfDay H (f r).rights) us
      → ((agent : ℕ) (purchase : Bool) → Pairwise (λ r s. french_of agent purchase r.unit ≡ true → french_of agent purchase s.unit ≡ true → (f r).rights ≡ (f s).rights) us)
      → All (λ r. french r.unit ≡ false → (f r).rights ≡ nothing) us → UnitsSound H (map f us)
  unfolding is_partner
  same-sound H us s noticed granted agreed foreign =
      record {
        room = rw (length-map us f) s.room;
        distinct = pairwise_map f (λ q r h. rw (same q, same r) h) s.distinct;
        single = pairwise_map f (λ q r h. rw (same q, same r) h) s.single;
        ranges = all-mapped f (all_map (λ r h. rw (same r) h) s.ranges);
        notices = all-mapped f noticed;
        granted = all-mapped f granted;
        agreed = λ agent purchase. pairwise_map f (λ q r h. rw (same q, same r) h) (agreed agent purchase);
        foreign = all-mapped f (all_map (λ r h. rw (same r) h) foreign);
        partnered = all-mapped f (all_map (λ r h. rw (same r) (λ e. any_same (λ u. french_of r.unit.agent r.unit.purchase u && not u.rights) us ∙ h e)) s.partnered);
      }

-- energies of the day, or what was there
of-day : {H : ℕ} {es : List ℕ} → length es ≡ H → All (λ e. e ≤ max_energy) es → (b : Bool) {p : Published} → OfDay H p → OfDay H (cond b (some es) p)
of-day l good true h = energies l good
of-day l good false h = h

module _ (n : ℕ) (es : List ℕ) where
  pub notify-unit : (r : Registered) → (notify n es r).unit ≡ r.unit
  unfolding notify
  notify-unit r = refl

  notify-sound : (H : ℕ) (us : List Registered) → UnitsSound H us → length es ≡ H → All (λ e. e ≤ max_energy) es → UnitsSound H (map (notify n es) us)
  unfolding notify
  notify-sound H us s l good = same-sound (notify n es) notify-unit H us s (all_map (λ r h. of-day l good (has_number n r) h) s.notices) s.granted s.agreed s.foreign

module _ (agent : ℕ) (purchase : Bool) (es : List ℕ) where
  pub grant-unit : (r : Registered) → (grant agent purchase es r).unit ≡ r.unit
  unfolding grant
  grant-unit r = refl

  -- French units of one agent and side have their rights by one notice
  french-alike : (a : ℕ) (side : Bool) (u v : TradingUnit) → french_of a side u ≡ true → french_of a side v ≡ true → french_of agent purchase u ≡ french_of agent purchase v
  unfolding french_of
  french-alike a side u v h k = let x = french-parts a side u h in let y = french-parts a side v k in rw (x.0, x.1, x.2, y.0, y.1, y.2)

  -- others by none
  french-only : (u : TradingUnit) → french u ≡ false → french_of agent purchase u ≡ false
  unfolding french_of
  french-only u e = rw e

  grant-sound : (H : ℕ) (us : List Registered) → UnitsSound H us → length es ≡ H → All (λ e. e ≤ max_energy) es → UnitsSound H (map (grant agent purchase es) us)
  unfolding grant
  grant-sound H us s l good =
      same-sound (grant agent purchase es) grant-unit H us s s.notices (all_map (λ r h. of-day l good (french_of agent purchase r.unit) h) s.granted)
      (λ a side. pairwise-weaken (λ q r f x y. ap₂ (λ (t : Bool) (o : Published). cond t (some es) o) (french-alike a side q.unit r.unit x y) (f x y)) (s.agreed a side))
      (all_map (λ r f e. ap (λ t. cond t (some es) r.rights) (french-only r.unit e) ∙ f e) s.foreign)

-- Lodgements

-- what is not refused of a message, by the rows of lodging
pub record Admitted (b : Book) (bytes : List ℕ) : Type 0 where
  pub form : wrong_form bytes ≡ false
  pub map : bad_map (message_of bytes).map ≡ false
  pub day : names_beyond (hours b) (message_of bytes).map ≡ false
  pub fields : wrong_range bytes ≡ false
  pub holder : bad_holder b (message_of bytes).key ≡ false
  pub room : full b (message_of bytes).key ≡ false

-- a message that is accepted has it
pub admitted : (b : Book) (bytes : List ℕ) → first_row (rows_of b (lodge bytes)) ≡ nothing → Admitted b bytes
unfolding rows_of call_rows lodge_rows row
admitted b bytes h =
    let r2 = all_tail (accepted-rows (rows_of b (lodge bytes)) h) in
    let r3 = all_tail r2 in
    let r4 = all_tail r3 in
    let r5 = all_tail r4 in
    let m = neither _ _ (all_head r3) in
    record { form = all_head r2; map = m.0; day = m.1; fields = all_head r4; holder = all_head r5; room = all_head (all_tail r5) }

-- a message that names no hour beyond H has no energy there
energy-beyond : (H : ℕ) (m : Fields) → Good max_energy m → names_beyond H m.map ≡ false → (h : ℕ) → H < h → hourly m.energies h ≡ 0
unfolding names_beyond
energy-beyond H m g d zero l = absurd (omega arith)
energy-beyond H m g d (suc i) l =
    by_bool (ltb i 25) (λ k.
    let in-range : suc i < 1 + 25 = omega (arith, ltb-true i 25 k) in
    let n : (ltb H (suc i) && names m.map (suc i)) ≡ false = all_from 1 25 (suc i) (any_false (λ h. ltb H h && names m.map h) (from 1 25) d) (omega arith) in-range in
    eqb-true _ _ (not-false _ (sym (g.each (suc i)).named_by ∙ (rw (lt-ltb H (suc i) l) at n))))
    (λ k. hourly-beyond m.energies i (omega (arith, ltb-false i 25 k, g.energy_count)))

-- an hour without energy has no price
price-unnamed : (m : Fields) → Good max_energy m → (h : ℕ) → hourly m.energies h ≡ 0 → hourly m.prices h ≡ 0
price-unnamed m g h e = (g.each h).unnamed ((g.each h).named_by ∙ rw e)

-- an entered lodgement is what its message says
lodged : (b : Book) (bytes : List ℕ) (n : ℕ) → Admitted b bytes → Lodged (hours b) (entry (message_of bytes) n)
unfolding entry energy_at bad_key bad_fields wrong_range
lodged b bytes n a =
    let m = message_of bytes in
    let c = message-lengths bytes in
    let g : Good max_energy m = message-good bytes a.map a.fields in
    record {
      bytes = bytes;
      fields = m;
      reads = of-reads bytes m (record { form = a.form; map = a.map; fields = a.fields; same = refl });
      entered = refl;
      day = a.day;
      key = (neither _ _ a.fields).0;
      energy_count = c.0;
      price_count = c.1;
      energy = λ h. (g.each h).energy-le;
      beyond = energy-beyond (hours b) m g a.day;
      named = λ h. (g.each h).named_by;
      price = λ h. (g.each h).price-le;
      unnamed = price-unnamed m g;
    }

-- its unit is registered, and no domestic one for an execution
holder-good : (b : Book) (k : Key) → bad_holder b k ≡ false → HasUnit b.units k
unfolding bad_holder unregistered
holder-good b k h = let a = neither _ _ h in record { registered = not-false _ a.0; border = a.1 }

-- a lodgement that is not refused as 9 has a number
number-left : (b : Book) (k : Key) → full b k ≡ false → b.last < 65535
unfolding full
number-left b k h = leb-false 65535 b.last (neither (leb 128 (length b.standing) && not (stands b.standing k)) (leb 65535 b.last) h).1

-- and a place
place-left : (b : Book) (k : Key) → full b k ≡ false → length b.standing ≤ 128 → length (without k b.standing) < 128
unfolding full without stands
place-left b k h r =
    let there = any (λ l. same_key l.key k) b.standing in
    by_bool there (λ e. omega (arith, length-drop-one (λ l. same_key l.key k) b.standing e))
    (λ e. omega (
      arith,
      leb-false 128 (length b.standing) (sym (and-true (leb 128 (length b.standing))) ∙ (rw e at (neither (leb 128 (length b.standing) && not there) (leb 65535 b.last) h).0)),
      length-keep (λ l. not (same_key l.key k)) b.standing,
    ))

-- without a key's lodgement
without-sound : (H : ℕ) (us : List Registered) (k : Key) {ls : List Lodgement} {last : ℕ} → StandingSound H us ls last → StandingSound H us (without k ls) last
unfolding without
without-sound H us k {ls} s =
    record {
      room = omega (arith, s.room, length-keep (λ l. not (same_key l.key k)) ls);
      counted = s.counted;
      rising = pairwise-keep _ s.rising;
      from_one = all_keep _ s.from_one;
      to_last = all_keep _ s.to_last;
      keys = pairwise-keep _ s.keys;
      holders = all_keep _ s.holders;
      messages = all_keep _ s.messages;
    }

-- no lodgement of the key is left
without-key : (k : Key) (ls : List Lodgement) → All (λ l. same_key l.key k ≡ false) (without k ls)
unfolding without
without-key k ls = all_map (λ l e. not-true _ e) (keep-passes (λ l. not (same_key l.key k)) ls)

-- with a new lodgement under the next number
with-sound : (H : ℕ) (us : List Registered) {ls : List Lodgement} {last : ℕ} (l : Lodgement) → StandingSound H us ls last → length ls < 128 → last < 65535
    → l.number ≡ suc last → All (λ k. same_key k.key l.key ≡ false) ls → HasUnit us l.key → Lodged H l → StandingSound H us (ls ++ (l ∷ [])) (suc last)
with-sound H us l s room left number key unit message =
    record {
      room = rw length-append (omega arith);
      counted = left;
      rising = pairwise-last s.rising (all_map (λ k h. omega arith) s.to_last);
      from_one = all-last s.from_one (omega arith);
      to_last = all-last (all_map (λ k h. omega arith) s.to_last) (omega arith);
      keys = pairwise-last s.keys key;
      holders = all-last s.holders unit;
      messages = all-last s.messages message;
    }

-- lodgements whose units are still registered
holders-sound : (H : ℕ) {us vs : List Registered} {ls : List Lodgement} {last : ℕ} → ((k : Key) → HasUnit us k → HasUnit vs k) → StandingSound H us ls last → StandingSound H vs ls last
holders-sound H f s =
    record {
      room = s.room;
      counted = s.counted;
      rising = s.rising;
      from_one = s.from_one;
      to_last = s.to_last;
      keys = s.keys;
      holders = all_map (λ l h. f l.key h) s.holders;
      messages = s.messages;
    }

-- Losses

-- a loss that is not refused
losses-sound : (losses : List ℕ) (border l : ℕ) → LossesSound losses → bad_loss border l ≡ false → LossesSound (set losses border l)
unfolding bad_loss loss_of
losses-sound losses border l s h =
    let a = neither _ _ h in
    let b = neither _ _ a.0 in
    record {
      count = length-set losses border l ∙ s.count;
      domestic = get_or-set_other losses border 0 l 0 (λ e. eqb-false border 0 b.0 (sym e)) ∙ s.domestic;
      range = all-set border s.range (ltb-false max_loss l a.1);
    }

-- Calls

and-rest : {a b : Bool} → a ≡ true → (a && b) ≡ false → b ≡ false
and-rest h k = rw h at k

-- an accepted call leaves a sound book
applied-sound : (b : Book) (c : Call) → first_row (rows_of b c) ≡ nothing → Sound b → Sound (applied b c)
unfolding applied rows_of gate_row call_rows row change_row unregistered is_second no_partner units_full with_units with_capacities with_standing with_stage with_losses hours entry
applied-sound b (register u) h s =
    let r5 = all_tail (accepted-rows (rows_of b (register u)) h) in
    let r7 = all_tail r5 in
    let r8 = all_tail r7 in
    let r9 = all_tail r8 in
    record {
      date = s.date;
      units = register-sound (hours b) b.units u s.units (all_head r5) (all_head r7) (all_head r8) (leb-false 64 (length b.units) (all_head r9))
          (λ e. not-false _ (and-rest e (all_head (all_tail r9))));
      capacities = s.capacities;
      standing = holders-sound (hours b) (unit-longer b.units (record { unit = u; available = nothing; rights = rights_on_side b.units u } ∷ [])) s.standing;
      losses = s.losses;
      stage = s.stage;
    }
applied-sound b (capacity cs) h s =
    let r4 = all_tail (accepted-rows (rows_of b (capacity cs)) h) in
    record {
      date = s.date;
      units = s.units;
      capacities = notice-good (hours b) cs (all_head r4) (all_head (all_tail r4));
      standing = s.standing;
      losses = s.losses;
      stage = s.stage;
    }
applied-sound b (available n es) h s =
    let r4 = all_tail (accepted-rows (rows_of b (available n es)) h) in
    record {
      date = s.date;
      units = notify-sound n es (hours b) b.units s.units (eqb-true _ _ (not-false _ (all_head r4))) (energies-good es (neither (bad_number n) (bad_energies es) (all_head (all_tail r4))).1);
      capacities = s.capacities;
      standing = holders-sound (hours b) (same-holder (notify n es) (notify-unit n es) b.units) s.standing;
      losses = s.losses;
      stage = s.stage;
    }
applied-sound b (rights agent purchase es) h s =
    let r4 = all_tail (accepted-rows (rows_of b (rights agent purchase es)) h) in
    record {
      date = s.date;
      units = grant-sound agent purchase es (hours b) b.units s.units (eqb-true _ _ (not-false _ (all_head r4))) (energies-good es (neither (bad_number agent) (bad_energies es) (all_head (all_tail r4))).1);
      capacities = s.capacities;
      standing = holders-sound (hours b) (same-holder (grant agent purchase es) (grant-unit agent purchase es) b.units) s.standing;
      losses = s.losses;
      stage = s.stage;
    }
applied-sound b (loss border l) h s =
    record {
      date = s.date;
      units = s.units;
      capacities = s.capacities;
      standing = s.standing;
      losses = losses-sound b.losses border l s.losses (all_head (all_tail (accepted-rows (rows_of b (loss border l)) h)));
      stage = s.stage;
    }
applied-sound b (lodge bytes) h s =
    let m = message_of bytes in
    let a = admitted b bytes h in
    record {
      date = s.date;
      units = s.units;
      capacities = s.capacities;
      standing = with-sound (hours b) b.units (entry m (suc b.last)) (without-sound (hours b) b.units m.key s.standing)
          (place-left b m.key a.room s.standing.room) (number-left b m.key a.room) refl (without-key m.key b.standing)
          (holder-good b m.key a.holder) (lodged b bytes (suc b.last) a);
      losses = s.losses;
      stage = s.stage;
    }
applied-sound b (annul k) h s =
    record { date = s.date; units = s.units; capacities = s.capacities; standing = without-sound (hours b) b.units k s.standing; losses = s.losses; stage = s.stage }
applied-sound b close h s =
    record { date = s.date; units = s.units; capacities = s.capacities; standing = s.standing; losses = s.losses; stage = λ e. refl }
applied-sound b clear h s =
    record {
      date = s.date;
      units = s.units;
      capacities = s.capacities;
      standing = s.standing;
      losses = s.losses;
      stage = λ e. not-false _ (neither _ _ (all_head (accepted-rows (rows_of b clear) h))).0;
    }

-- so does any call: a refused one changes nothing
pub effect-sound : (b : Book) (c : Call) → Sound b → Sound (effect b c).book
unfolding effect effect_of
effect-sound b c s = go (first_row (rows_of b c)) refl
  where
    go : (o : Option Row) → first_row (rows_of b c) ≡ o → Sound (effect_of b c o).book
    go nothing e = applied-sound b c e s
    go (some r) e = s

-- so do all calls
pub calls-sound : (b : Book) (cs : List Call) → Sound b → Sound (after b cs)
unfolding after
calls-sound b [] s = s
calls-sound b (c ∷ cs) s = calls-sound (effect b c).book cs (effect-sound b c s)

-- a fresh book of a date is sound
fresh-sound : (d : Date) → is_date d ≡ true → Sound (fresh d)
unfolding fresh loss_of
fresh-sound d e =
    record {
      date = e;
      units = record { room = omega arith; distinct = empty; single = empty; ranges = none; notices = none; granted = none; agreed = λ agent purchase. empty; foreign = none; partnered = none };
      capacities = all_replicate 8 nothing absent;
      standing = record { room = omega arith; counted = omega arith; rising = empty; from_one = none; to_last = none; keys = empty; holders = none; messages = none };
      losses = record { count = refl; domestic = refl; range = all_replicate 5 0 (omega arith) };
      stage = λ k. absurd (false≢true k);
    }

-- "the fresh session of 2002-01-01"
first-day : is_date (record { year = 2002; month = 1; day = 1 }) ≡ true
unfolding unfold_hours
first-day = refl

-- opening leaves the fresh book of a date in the range, of a refused date too
pub opening-fresh : (d : Date) → (e : Date) × (is_date e ≡ true) × ((opening d).book ≡ fresh e)
unfolding opening opened_with date_row row
opening-fresh d = go (first_row (date_row d ∷ [])) refl
  where
    go : (o : Option Row) → first_row (date_row d ∷ []) ≡ o → (e : Date) × (is_date e ≡ true) × ((opened_with d o).book ≡ fresh e)
    go nothing e = (d, not-false _ (all_head (accepted-rows (date_row d ∷ []) e)), refl)
    go (some r) e = (record { year = 2002; month = 1; day = 1 }, first-day, refl)

-- so it leaves a sound book
pub opening-sound : (d : Date) → Sound (opening d).book
opening-sound d = let k = opening-fresh d in rw k.2 (fresh-sound k.0 k.1)

-- an open one
pub opening-open : (d : Date) → (opening d).book.closed ≡ false
unfolding fresh
opening-open d = rw (opening-fresh d).2

-- and one with 8 directions, all absent
pub opening-directions : (d : Date) → length (opening d).book.capacities ≡ 8
unfolding fresh
opening-directions d = rw (opening-fresh d).2

-- and one that is not cleared
pub opening-uncleared : (d : Date) → (opening d).book.cleared ≡ false
unfolding fresh
opening-uncleared d = rw (opening-fresh d).2

-- so is every book that lists of calls start from
pub begins-sound : {b : Book} → Begins b → Sound b
begins-sound (opened d) = opening-sound d

pub begins-open : {b : Book} → Begins b → (b.closed ≡ false) × (b.cleared ≡ false)
begins-open (opened d) = (opening-open d, opening-uncleared d)

pub begins-directions : {b : Book} → Begins b → length b.capacities ≡ 8
begins-directions (opened d) = opening-directions d

-- the book is sound after every list of calls
pub sound-after : {b : Book} → Begins b → (cs : List Call) → Sound (after b cs)
sound-after {b} g cs = calls-sound b cs (begins-sound g)

-- Eight directions

-- an accepted call leaves a notice of 8 directions
applied-directions : (b : Book) (c : Call) → WellTyped c → length b.capacities ≡ 8 → length (applied b c).capacities ≡ 8
unfolding applied with_units with_capacities with_standing with_stage with_losses
applied-directions b (register u) w h = h
applied-directions b (capacity cs) w h = w.directions cs refl
applied-directions b (available n es) w h = h
applied-directions b (rights agent purchase es) w h = h
applied-directions b (loss border l) w h = h
applied-directions b (lodge bytes) w h = h
applied-directions b (annul k) w h = h
applied-directions b close w h = h
applied-directions b clear w h = h

-- so does any call
pub effect-directions : (b : Book) (c : Call) → WellTyped c → length b.capacities ≡ 8 → length (effect b c).book.capacities ≡ 8
unfolding effect effect_of
effect-directions b c w h = go (first_row (rows_of b c))
  where
    go : (o : Option Row) → length (effect_of b c o).book.capacities ≡ 8
    go nothing = applied-directions b c w h
    go (some r) = h

-- so do all calls
calls-directions : (b : Book) {cs : List Call} → All WellTyped cs → length b.capacities ≡ 8 → length (after b cs).capacities ≡ 8
unfolding after
calls-directions b none h = h
calls-directions b (more {x = c} w t) h = calls-directions (effect b c).book t (effect-directions b c w h)

-- where each capacity notice has its 8 directions, so has the book's
pub directions-after : {b : Book} {cs : List Call} → Begins b → All WellTyped cs → length (after b cs).capacities ≡ 8
directions-after {b} g w = calls-directions b w (begins-directions g)

-- What closing froze

-- a book that has it, open
abbrev thawed : Frozen → Book
thawed f = record { date = f.date; units = f.units; capacities = f.capacities; standing = f.standing; last = f.last; closed = false; cleared = false; losses = f.losses }

-- a value that thawing leaves is the same for all books that froze the same
of-frozen : {A : Type 0} (f : Book → A) → ((b : Book) → f (thawed (frozen b)) ≡ f b) → (a b : Book) → frozen a ≡ frozen b → f a ≡ f b
of-frozen f same a b e = sym (same a) ∙ (ap (λ (z : Frozen). f (thawed z)) e ∙ same b)

-- verdicts follow from it alone
judgements-thawed : (b : Book) → judgements (thawed (frozen b)) ≡ judgements b
unfolding judgements judge hours limits_of frozen
judgements-thawed b = refl

pub frozen-judgements : (a b : Book) → frozen a ≡ frozen b → judgements a ≡ judgements b
frozen-judgements = of-frozen judgements judgements-thawed

-- so do figures
figures-thawed : (h : ℕ) (b : Book) → figures_at (thawed (frozen b)) h ≡ figures_at b h
unfolding figures_at accepted_at hour_of_day frozen
figures-thawed h b = ap (λ js. clear_hour (hour_of_day b (keep (λ l. is_accepted (verdict_among js l.number)) b.standing) h)) (judgements-thawed b)

pub frozen-figures : (a b : Book) (h : ℕ) → frozen a ≡ frozen b → figures_at a h ≡ figures_at b h
frozen-figures a b h e = of-frozen (λ k. figures_at k h) (figures-thawed h) a b e

-- and the count of steps
steps-thawed : (b : Book) → day_steps (thawed (frozen b)) ≡ day_steps b
unfolding day_steps accepted_at hour_of_day hours frozen
steps-thawed b =
    ap (λ js. let accepted = keep (λ l. is_accepted (verdict_among js l.number)) b.standing in sum_of (λ h. (clear_hour (hour_of_day b accepted h)).steps) (from 1 (hours b))) (judgements-thawed b)

pub frozen-steps : (a b : Book) → frozen a ≡ frozen b → day_steps a ≡ day_steps b
frozen-steps = of-frozen day_steps steps-thawed

-- After closing

-- a change after closing is refused
change-refused : (b : Book) (c : Call) → b.closed ≡ true → gate_row b c ≡ change_row b → (effect b c).book ≡ b
unfolding effect effect_of rows_of change_row row first_row
change-refused b c h e = rw (e, h)

-- clearing changes nothing of what is frozen
clear-frozen : (b : Book) → frozen (effect b clear).book ≡ frozen b
unfolding effect effect_of applied with_stage frozen
clear-frozen b = go (first_row (rows_of b clear))
  where
    go : (o : Option Row) → frozen (effect_of b clear o).book ≡ frozen b
    go nothing = refl
    go (some r) = refl

-- nor does any call on a closed book
effect-closed : (b : Book) (c : Call) → b.closed ≡ true → frozen (effect b c).book ≡ frozen b
unfolding gate_row
effect-closed b (register u) h = ap frozen (change-refused b (register u) h refl)
effect-closed b (capacity cs) h = ap frozen (change-refused b (capacity cs) h refl)
effect-closed b (available n es) h = ap frozen (change-refused b (available n es) h refl)
effect-closed b (rights agent purchase es) h = ap frozen (change-refused b (rights agent purchase es) h refl)
effect-closed b (loss border l) h = ap frozen (change-refused b (loss border l) h refl)
effect-closed b (lodge bytes) h = ap frozen (change-refused b (lodge bytes) h refl)
effect-closed b (annul k) h = ap frozen (change-refused b (annul k) h refl)
effect-closed b close h = ap frozen (change-refused b close h refl)
effect-closed b clear h = clear-frozen b

-- no call opens a book again, or takes its figures back
applied-stays : (b : Book) (c : Call) → (b.closed ≡ true → (applied b c).closed ≡ true) × (b.cleared ≡ true → (applied b c).cleared ≡ true)
unfolding applied with_units with_capacities with_standing with_stage with_losses
applied-stays b (register u) = (λ h. h, λ h. h)
applied-stays b (capacity cs) = (λ h. h, λ h. h)
applied-stays b (available n es) = (λ h. h, λ h. h)
applied-stays b (rights agent purchase es) = (λ h. h, λ h. h)
applied-stays b (loss border l) = (λ h. h, λ h. h)
applied-stays b (lodge bytes) = (λ h. h, λ h. h)
applied-stays b (annul k) = (λ h. h, λ h. h)
applied-stays b close = (λ h. refl, λ h. h)
applied-stays b clear = (λ h. h, λ h. refl)

effect-stays : (b : Book) (c : Call) → (b.closed ≡ true → (effect b c).book.closed ≡ true) × (b.cleared ≡ true → (effect b c).book.cleared ≡ true)
unfolding effect effect_of
effect-stays b c = go (first_row (rows_of b c))
  where
    go : (o : Option Row) → (b.closed ≡ true → (effect_of b c o).book.closed ≡ true) × (b.cleared ≡ true → (effect_of b c o).book.cleared ≡ true)
    go nothing = applied-stays b c
    go (some r) = (λ h. h, λ h. h)

pub stays_closed : (b : Book) (cs : List Call) → b.closed ≡ true → (after b cs).closed ≡ true
unfolding after
stays_closed b [] h = h
stays_closed b (c ∷ cs) h = stays_closed (effect b c).book cs ((effect-stays b c).0 h)

pub stays-cleared : (b : Book) (cs : List Call) → b.cleared ≡ true → (after b cs).cleared ≡ true
unfolding after
stays-cleared b [] h = h
stays-cleared b (c ∷ cs) h = stays-cleared (effect b c).book cs ((effect-stays b c).1 h)

-- what closing froze is the same after every list of calls
pub after-closed : (b : Book) (cs : List Call) → b.closed ≡ true → frozen (after b cs) ≡ frozen b
unfolding after
after-closed b [] h = refl
after-closed b (c ∷ cs) h = after-closed (effect b c).book cs ((effect-stays b c).0 h) ∙ effect-closed b c h

-- so every verdict is that of the book at closing, whatever is called afterwards
pub verdicts-stay : (b : Book) (cs : List Call) → b.closed ≡ true → judgements (after b cs) ≡ judgements b
verdicts-stay b cs h = frozen-judgements (after b cs) b (after-closed b cs h)

-- and so is every figure
pub figures-stay : (b : Book) (cs : List Call) (h : ℕ) → b.closed ≡ true → figures_at (after b cs) h ≡ figures_at b h
figures-stay b cs h e = frozen-figures (after b cs) b h (after-closed b cs e)

-- The call that closed it

-- closing an open book is accepted
close_open : (b : Book) → b.closed ≡ false → (effect b close).book ≡ with_stage b true b.cleared
unfolding effect effect_of rows_of gate_row call_rows change_row row first_row applied
close_open b h = rw h

-- no other call closes one
closes : (b : Book) (c : Call) → (c ≡ close) ⊎ ((applied b c).closed ≡ b.closed)
unfolding applied with_units with_capacities with_standing with_stage with_losses
closes b (register u) = inr refl
closes b (capacity cs) = inr refl
closes b (available n es) = inr refl
closes b (rights agent purchase es) = inr refl
closes b (loss border l) = inr refl
closes b (lodge bytes) = inr refl
closes b (annul k) = inr refl
closes b close = inl refl
closes b clear = inr refl

-- nor does a refused one
effect-closes : (b : Book) (c : Call) → (c ≡ close) ⊎ ((effect b c).book.closed ≡ b.closed)
unfolding effect effect_of
effect-closes b c = go (first_row (rows_of b c))
  where
    go : (o : Option Row) → (c ≡ close) ⊎ ((effect_of b c o).book.closed ≡ b.closed)
    go nothing = closes b c
    go (some r) = inr refl

-- the first call closes the book
closed-here : (b : Book) (c : Call) (cs : List Call) → b.closed ≡ false → c ≡ close → ClosedIn b (c ∷ cs)
unfolding after with_stage frozen
closed-here b c cs h e =
    rw e (record {
      earlier = [];
      rest = cs;
      calls = refl;
      found = h;
      same = after-closed (effect b close).book cs (ap (λ (k : Book). k.closed) (close_open b h)) ∙ ap frozen (close_open b h);
      stage = stays_closed (effect b close).book cs (ap (λ (k : Book). k.closed) (close_open b h));
    })

-- or a later one does
closed-later : (b : Book) (c : Call) (cs : List Call) → ClosedIn (effect b c).book cs → ClosedIn b (c ∷ cs)
unfolding after
closed-later b c cs k = record { earlier = c ∷ k.earlier; rest = k.rest; calls = ap {B = List Call} (λ ds. c ∷ ds) k.calls; found = k.found; same = k.same; stage = k.stage }

-- a book that is closed was closed by one of the calls, and holds what that call found
pub closed_in : (b : Book) (cs : List Call) → b.closed ≡ false → (after b cs).closed ≡ true → ClosedIn b cs
unfolding after
closed_in b [] h k = not-both k h
closed_in b (c ∷ cs) h k = ⊎_elim (λ e. closed-here b c cs h e) (λ e. closed-later b c cs (closed_in (effect b c).book cs (e ∙ h) k)) (effect-closes b c)

-- The answers

-- a closing answered as done closed the book
close-answered : (b : Book) → done ≡ (effect b close).answer → (effect b close).book.closed ≡ true
unfolding effect effect_of applied with_stage
close-answered b h = go (first_row (rows_of b close)) h
  where
    go : (o : Option Row) → done ≡ (effect_of b close o).answer → (effect_of b close o).book.closed ≡ true
    go nothing h = refl
    go (some r) h = let z : ◌≡◌ {A = ℕ} 0 1 = cc in absurd (omega arith)

got-closed : (b : Book) {cs : List Call} {rs : List Answer} → rs ≡ answers b cs → Got close done cs rs → (after b cs).closed ≡ true
unfolding after answers
got-closed b e (now {cs = cs}) = let h : done ≡ (effect b close).answer = cc in stays_closed (effect b close).book cs (close-answered b h)
got-closed b e (next {d = d} {cs = cs} {rs = rs} g) = let t : rs ≡ answers (effect b d).book cs = cc in got-closed (effect b d).book t g

-- a clearing answered by steps cleared the book, which was closed, and they are the book's
clear-answered : (b : Book) (n : ℕ) → steps n ≡ (effect b clear).answer → ((effect b clear).book.cleared ≡ true) × (b.closed ≡ true) × (n ≡ day_steps b)
unfolding effect effect_of applied reply with_stage rows_of gate_row row
clear-answered b n h = go (first_row (rows_of b clear)) refl h
  where
    go : (o : Option Row) → first_row (rows_of b clear) ≡ o → steps n ≡ (effect_of b clear o).answer → ((effect_of b clear o).book.cleared ≡ true) × (b.closed ≡ true) × (n ≡ day_steps b)
    go nothing e h = (refl, not-false _ (neither _ _ (all_head (accepted-rows (rows_of b clear) e))).0, cc)
    go (some r) e h = let z : ◌≡◌ {A = ℕ} 0 1 = cc in absurd (omega arith)

got-cleared : (n : ℕ) (b : Book) {cs : List Call} {rs : List Answer} → rs ≡ answers b cs → Got clear (steps n) cs rs → ((after b cs).cleared ≡ true) × (n ≡ day_steps (after b cs))
unfolding after answers
got-cleared n b e (now {cs = cs}) =
    let h : steps n ≡ (effect b clear).answer = cc in
    let k = clear-answered b n h in
    (stays-cleared (effect b clear).book cs k.0, k.2 ∙ sym (frozen-steps (after b (clear ∷ cs)) b (after-closed b (clear ∷ cs) k.1)))
got-cleared n b e (next {d = d} {cs = cs} {rs = rs} g) = let t : rs ≡ answers (effect b d).book cs = cc in got-cleared n (effect b d).book t g

got-now : {c d : Call} {a r : Answer} {cs : List Call} {rs : List Answer} → d ≡ c → r ≡ a → Got c a (d ∷ cs) (r ∷ rs)
got-now e f = rw (e, f) now

-- closing an open book is answered as done
close-done : (b : Book) → b.closed ≡ false → (effect b close).answer ≡ done
unfolding effect effect_of rows_of gate_row call_rows change_row row first_row reply
close-done b h = rw h

closed-got : (b : Book) (cs : List Call) → b.closed ≡ false → (after b cs).closed ≡ true → Got close done cs (answers b cs)
unfolding after answers
closed-got b [] h k = not-both k h
closed-got b (c ∷ cs) h k =
    ⊎_elim (λ e. got-now e (ap (λ d. (effect b d).answer) e ∙ close-done b h)) (λ e. next (closed-got (effect b c).book cs (e ∙ h) k)) (effect-closes b c)

-- only a clearing clears a book
clears : (b : Book) (c : Call) → ((c ≡ clear) × (reply b c ≡ steps (day_steps b))) ⊎ ((applied b c).cleared ≡ b.cleared)
unfolding applied reply with_units with_capacities with_standing with_stage with_losses
clears b (register u) = inr refl
clears b (capacity cs) = inr refl
clears b (available n es) = inr refl
clears b (rights agent purchase es) = inr refl
clears b (loss border l) = inr refl
clears b (lodge bytes) = inr refl
clears b (annul k) = inr refl
clears b close = inr refl
clears b clear = inl (refl, refl)

-- one that is not refused
effect-clears : (b : Book) (c : Call) → ((c ≡ clear) × ((effect b c).answer ≡ steps (day_steps b))) ⊎ ((effect b c).book.cleared ≡ b.cleared)
unfolding effect effect_of
effect-clears b c = go (first_row (rows_of b c))
  where
    go : (o : Option Row) → ((c ≡ clear) × ((effect_of b c o).answer ≡ steps (day_steps b))) ⊎ ((effect_of b c o).book.cleared ≡ b.cleared)
    go nothing = clears b c
    go (some r) = inr refl

cleared-got : (b : Book) (cs : List Call) → b.cleared ≡ false → (after b cs).cleared ≡ true → (n : ℕ) × Got clear (steps n) cs (answers b cs)
unfolding after answers
cleared-got b [] h k = not-both k h
cleared-got b (c ∷ cs) h k =
    ⊎_elim (λ e. (day_steps b, got-now e.0 e.1)) (λ e. let g = cleared-got (effect b c).book cs (e ∙ h) k in (g.0, next g.1)) (effect-clears b c)

-- the stage that the answers tell, from a book open and not cleared
pub staged : (b : Book) (cs : List Call) → b.closed ≡ false → b.cleared ≡ false → Staged (after b cs) cs (answers b cs)
staged b cs h k =
    record {
      closed = (λ g. got-closed b refl g, λ e. closed-got b cs h e);
      cleared = (λ g. (got-cleared g.0 b refl g.1).0, λ e. cleared-got b cs k e);
      counted = λ n g. (got-cleared n b refl g).1;
    }

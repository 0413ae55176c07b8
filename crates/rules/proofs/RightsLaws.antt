-- After every list of calls a French unit's rights are those of the last accepted notice of its agent and side, and its ceiling follows.
use Prim.Native.Nat.{ℕ, ◌-◌, ◌≤◌}
use mathlib.Core.Path.{◌≡◌, refl, ap, sym, ◌∙◌}
use mathlib.Core.Bool.{Bool, true, false, cond, ◌&&◌, beq}
use mathlib.Core.List.{List, [], ◌∷◌, ◌++◌, map}
use mathlib.Core.Option.{Option, some, none as nothing}
use native.Mathlib.Nat.{min-le_left, min-le_right}
use native.Mathlib.Omega.{arith}
use lib.Dec.{eqb}
use borrow.Author.Tests.{eqb-true, eq-eqb, not-false}
use Rattle.rules.specs.Lists.{All, none, more, Some, here, there, any, first}
use Rattle.rules.specs.Refusals.{Row, row, first_row}
use Rattle.rules.specs.Hours.{date_row}
use Rattle.rules.specs.Units.{TradingUnit, Registered, Lines, loss_of, unit_loss, french, french_of, nobody, rights_at, border_sum, increased, increased_sum, lessened, own_limits, border_limit, LimitsIncreased, rights_limit, border_limits, limits, least_of, ceiling}
use Rattle.rules.specs.Book.{Book, fresh, lines_of}
use Rattle.rules.specs.DayBook.{Call, register, capacity, available, rights, loss, lodge, annul, close, clear, no_french, call_rows, rows_of, with_units, with_capacities, with_standing, with_stage, with_losses, notify, grant, rights_on_side, applied, effect_of, effect, after, opened_with, opening}
use Rattle.rules.specs.Rights.{renewed, unless_refused, last_rights, energy_of, RightsLast, Ceilinged, RightsInCeilings, WithinSum}
use Rattle.rules.proofs.BoolLaws.{by_bool, not-both, of-not, both, of-both, beq-true, of-beq}
use Rattle.rules.proofs.ListLaws.{all_map, all_head, all_tail, all-mapped}
use Rattle.rules.proofs.ElementLaws.{all-last, all-every}
use Rattle.rules.proofs.RefusalLaws.{accepted-rows}
use Rattle.rules.proofs.CrossingLaws.{increased-plain}
use Rattle.rules.proofs.BookLaws.{french-parts, any_same, notify-unit, grant-unit}

-- what holds of all that pass a test holds of the first, if one passes it
first-passing : {A : Type 0} {P : A → Type 0} (p : A → Bool) (d : A) (xs : List A) → All (λ x. p x ≡ true → P x) xs → any p xs ≡ true → P (first p d xs)
unfolding first any
first-passing p d [] none h = not-both h refl
first-passing {P} p d (x ∷ xs) (more k t) h = by_bool (p x) (λ e. rw e (k e)) (λ e. rw e (first-passing {P = P} p d xs t (rw e at h)))

first-none : {A : Type 0} (p : A → Bool) (d : A) (xs : List A) → any p xs ≡ false → first p d xs ≡ d
unfolding first any
first-none p d [] h = refl
first-none p d (x ∷ xs) h = by_bool (p x) (λ e. not-both refl (rw e at h)) (λ e. rw e (first-none p d xs (rw e at h)))

any-before : {A : Type 0} (p : A → Bool) (xs ys : List A) → any p (xs ++ ys) ≡ false → any p xs ≡ false
unfolding any
any-before p [] ys h = refl
any-before p (x ∷ xs) ys h = by_bool (p x) (λ e. not-both refl (rw e at h)) (λ e. rw e (any-before p xs ys (rw e at h)))

module _ (agent : ℕ) (purchase : Bool) where
  -- one of the units that the rights are for
  abbrev theirs : Registered → Bool
  theirs r = french_of agent purchase r.unit

  -- the units have them, and none were notified where there is no such unit
  record Noted (us : List Registered) (last : Option (List ℕ)) : Type 0 where
    each : All (λ r. theirs r ≡ true → r.rights ≡ last) us
    unheard : any theirs us ≡ false → last ≡ nothing

  first-noted : (us : List Registered) (last : Option (List ℕ)) → Noted us last → (first theirs nobody us).rights ≡ last
  first-noted us last n =
      by_bool (any theirs us) (λ e. first-passing {P = λ r. r.rights ≡ last} theirs nobody us n.each e)
      (λ e. ap (λ r. r.rights) (first-none theirs nobody us e) ∙ sym (n.unheard e))

  -- registering: the new unit gets them
  registered : (us : List Registered) (last : Option (List ℕ)) (u : TradingUnit) → Noted us last
      → Noted (us ++ (record { unit = u; available = nothing; rights = rights_on_side us u } ∷ [])) last
  unfolding rights_on_side
  registered us last u n =
      record {
        each = all-last n.each (λ e. let k = french-parts agent purchase u e in rw (k.0, k.1, k.2) (first-noted us last n));
        unheard = λ e. n.unheard (any-before theirs us _ e);
      }

  -- an unavailability notice: they stay
  noticed : (us : List Registered) (last : Option (List ℕ)) (m : ℕ) (es : List ℕ) → Noted us last → Noted (map (notify m es) us) last
  unfolding notify
  noticed us last m es n =
      record {
        each = all-mapped (notify m es) n.each;
        unheard = λ e. n.unheard (sym (any_same (notify m es) (notify-unit m es) (french_of agent purchase) us) ∙ e);
      }

  -- a rights notice of theirs
  renewed-noted : (us : List Registered) (es : List ℕ) → any theirs us ≡ true → Noted (map (grant agent purchase es) us) (some es)
  unfolding grant
  renewed-noted us es some_one =
      record {
        each = all-mapped (grant agent purchase es) (all-every (λ r e. rw e refl) us);
        unheard = λ e. not-both some_one (sym (any_same (grant agent purchase es) (grant-unit agent purchase es) (french_of agent purchase) us) ∙ e);
      }

  -- no unit is theirs and another's
  apart : (a : ℕ) (p : Bool) (u : TradingUnit) → (eqb a agent && beq p purchase) ≡ false → french_of agent purchase u ≡ true → french_of a p u ≡ false
  apart a p u e h =
      of-not (french_of a p u) (λ k.
      let x = french-parts agent purchase u h in
      let y = french-parts a p u k in
      not-both (of-both (eq-eqb a agent (sym y.1 ∙ x.1)) (of-beq p purchase (sym y.2 ∙ x.2))) e)

  -- one of another's: they stay
  other-noted : (us : List Registered) (last : Option (List ℕ)) (a : ℕ) (p : Bool) (es : List ℕ) → Noted us last → (eqb a agent && beq p purchase) ≡ false
      → Noted (map (grant a p es) us) last
  unfolding grant
  other-noted us last a p es n e =
      record {
        each = all-mapped (grant a p es) (all_map (λ r f h. rw (apart a p r.unit e h) (f h)) n.each);
        unheard = λ k. n.unheard (sym (any_same (grant a p es) (grant-unit a p es) (french_of agent purchase) us) ∙ k);
      }

  granted : (us : List Registered) (last : Option (List ℕ)) (a : ℕ) (p : Bool) (es : List ℕ) → Noted us last → any (λ r. french_of a p r.unit) us ≡ true
      → Noted (map (grant a p es) us) (cond (eqb a agent && beq p purchase) (some es) last)
  granted us last a p es n some_one = by_bool (eqb a agent && beq p purchase) (λ e. rw e (theirs-now e)) (λ e. rw e (other-noted us last a p es n e))
    where
      theirs-now : (eqb a agent && beq p purchase) ≡ true → Noted (map (grant a p es) us) (some es)
      theirs-now e =
          let k = both (eqb a agent) (beq p purchase) e in
          let i : a ≡ agent = eqb-true _ _ k.0 in
          let j : p ≡ purchase = beq-true _ _ k.1 in
          let s : any theirs us ≡ true = rw (i, j) at some_one in
          rw (i, j) (renewed-noted us es s)

  -- an accepted call
  applied-noted : (b : Book) (c : Call) (last : Option (List ℕ)) → first_row (rows_of b c) ≡ nothing → Noted b.units last → Noted (applied b c).units (renewed agent purchase c last)
  unfolding applied renewed with_units with_capacities with_standing with_stage with_losses rows_of call_rows row no_french
  applied-noted b (register u) last h n = registered b.units last u n
  applied-noted b (capacity cs) last h n = n
  applied-noted b (available m es) last h n = noticed b.units last m es n
  applied-noted b (rights a p es) last h n =
      granted b.units last a p es n (not-false _ (all_head (all_tail (all_tail (all_tail (accepted-rows (rows_of b (rights a p es)) h))))))
  applied-noted b (loss border l) last h n = n
  applied-noted b (lodge bytes) last h n = n
  applied-noted b (annul k) last h n = n
  applied-noted b close last h n = n
  applied-noted b clear last h n = n

  -- any call, and every list
  effect-noted : (b : Book) (c : Call) (last : Option (List ℕ)) → Noted b.units last → Noted (effect b c).book.units (unless_refused (first_row (rows_of b c)) (renewed agent purchase c last) last)
  unfolding effect effect_of unless_refused
  effect-noted b c last n = go (first_row (rows_of b c)) refl
    where
      go : (r : Option Row) → first_row (rows_of b c) ≡ r → Noted (effect_of b c r).book.units (unless_refused r (renewed agent purchase c last) last)
      go nothing e = applied-noted b c last e n
      go (some r) e = n

  after-noted : (b : Book) (cs : List Call) (last : Option (List ℕ)) → Noted b.units last → Noted (after b cs).units (last_rights agent purchase b cs last)
  unfolding after last_rights
  after-noted b [] last n = n
  after-noted b (c ∷ cs) last n = after-noted (effect b c).book cs _ (effect-noted b c last n)

pub rights-last : RightsLast
unfolding opening opened_with fresh
rights-last d cs agent purchase = go (first_row (date_row d ∷ []))
  where
    go : (r : Option Row)
        → All (λ x. french_of agent purchase x.unit ≡ true → x.rights ≡ last_rights agent purchase (opened_with d r).book cs nothing) (after (opened_with d r).book cs).units
    go nothing = (after-noted agent purchase (opened_with d nothing).book cs nothing (record { each = none; unheard = λ e. refl })).each
    go (some r) = (after-noted agent purchase (opened_with d (some r)).book cs nothing (record { each = none; unheard = λ e. refl })).each

-- Ceilings

-- the least is no more than any of some limits
below : (n l : ℕ) (ls : List (Option ℕ)) → Some (λ x. x ≡ some l) ls → least_of n ls ≤ l
unfolding least_of
below n l [] k = elim k [ ]
below n l (x ∷ ls) (here e) = rw e (min-le_left l (least_of n ls))
below n l (nothing ∷ ls) (there k) = below n l ls k
below n l (some m ∷ ls) (there k) = omega (arith, min-le_right m (least_of n ls), below n l ls k)

-- rights that a marked unit does not lose
less-none : (marked : Bool) (n t : ℕ) (o : Option ℕ) → marked ≡ true → o ≡ some t → lessened (cond marked 0 n) o ≡ some t
unfolding lessened
less-none marked n t o m e = let whole : t - 0 ≡ t = omega arith in rw (m, e) (ap (λ (k : ℕ). some k) whole)

-- K2: what limit 12 is where there is a border sum
pub border-limited : LimitsIncreased
unfolding border_limit unit_loss increased_sum lessened
border-limited ls r h s e = record { purchase = λ p. rw (p, e) refl; sale = λ p. rw (p, e, increased-plain s) refl }

module _ (ls : Lines) (r : Registered) (h : ℕ) where
  -- limit 12 is the third, 15 the fourth
  under-12 : (l : ℕ) → (border_limit ls r).at h ≡ some l → ceiling ls r h ≤ l
  unfolding ceiling limits own_limits border_limits
  under-12 l e = below r.unit.maximum l _ (there (there (here e)))

  under-15 : (l : ℕ) → (rights_limit r).at h ≡ some l → ceiling ls r h ≤ l
  unfolding ceiling limits own_limits border_limits
  under-15 l e = below r.unit.maximum l _ (there (there (there (here e))))

  -- a marked unit's is within the rights and the whole sum
  marked-rights : r.unit.rights ≡ true → ceiling ls r h ≤ rights_at r h
  unfolding rights_limit
  marked-rights m = under-15 (rights_at r h) (rw m refl)

  marked-sum : (s : ℕ) → r.unit.rights ≡ true → border_sum ls.capacities r.unit.border h ≡ some s → ceiling ls r h ≤ increased (unit_loss ls.losses r.unit) s
  unfolding border_limit increased_sum
  marked-sum s m e =
      let l = unit_loss ls.losses r.unit in under-12 (increased l s) (less-none r.unit.rights (rights_at r h) (increased l s) _ m (ap (increased_sum l) e))

  -- an unmarked one's within what they leave of it
  unmarked-sum : (s : ℕ) → r.unit.rights ≡ false → border_sum ls.capacities r.unit.border h ≡ some s → ceiling ls r h ≤ increased (unit_loss ls.losses r.unit) s - rights_at r h
  unfolding border_limit increased_sum lessened
  unmarked-sum s m e = under-12 (increased (unit_loss ls.losses r.unit) s - rights_at r h) (rw (m, e) refl)

rights-energy : (r : Registered) (last : Option (List ℕ)) (h : ℕ) → r.rights ≡ last → rights_at r h ≡ energy_of last h
unfolding rights_at energy_of
rights-energy r nothing h e = rw e refl
rights-energy r (some es) h e = rw e refl

-- a French unit with the last rights of its agent and side
module _ (b : Book) (last : Option (List ℕ)) (agent : ℕ) (purchase : Bool) (r : Registered) (f : french_of agent purchase r.unit ≡ true) (e : r.rights ≡ last) where
  at-1 : r.unit.border ≡ 1
  unfolding french
  at-1 = eqb-true r.unit.border 1 (french-parts agent purchase r.unit f).0

  ceilinged : (h : ℕ) → Ceilinged b last r h
  ceilinged h = record {
    marked = λ m. rw (← rights-energy r last h e) (marked-rights (lines_of b) r h m);
    unmarked = λ s m k. rw (← rights-energy r last h e) (unmarked-sum (lines_of b) r h s m (rw at-1 k));
  }

pub rights-in-ceilings : RightsInCeilings
rights-in-ceilings d cs agent purchase =
    all_map (λ r k f h. ceilinged (after (opening d).book cs) (last_rights agent purchase (opening d).book cs nothing) agent purchase r f (k f) h) (rights-last d cs agent purchase)

-- one among those of which something holds
all-some : {A : Type 0} {P : A → Type 0} (x : A) {xs : List A} → All P xs → Some (λ y. y ≡ x) xs → P x
all-some x none k = elim k [ ]
all-some {P} x (more k t) (here e) = rw (← e) k
all-some {P} x (more k t) (there s) = all-some {P = P} x t s

-- a French unit has the French loss on the purchase side
french-loss : (losses : List ℕ) (agent : ℕ) (purchase : Bool) (u : TradingUnit) → french_of agent purchase u ≡ true
    → unit_loss losses u ≡ cond purchase (loss_of losses 1) 0
unfolding unit_loss french
french-loss losses agent purchase u e =
    let k = french-parts agent purchase u e in
    let at_1 : u.border ≡ 1 = eqb-true u.border 1 k.0 in
    rw (at_1, k.2) refl

pub within-sum : WithinSum
unfolding french
within-sum d cs agent purchase q r among-q among-r french-q french-r m u h s e =
    let b = after (opening d).book cs in
    let last = last_rights agent purchase (opening d).book cs nothing in
    let k = rights-in-ceilings d cs agent purchase in
    let x = all-some q k among-q french-q h in
    let y = all-some r k among-r french-r h in
    let z : q.unit.border ≡ 1 = eqb-true q.unit.border 1 (french-parts agent purchase q.unit french-q).0 in
    let a = x.marked m in
    let c = y.unmarked s u e in
    let t = marked-sum (lines_of b) q h s m (rw z e) in
    let same : unit_loss b.losses q.unit ≡ unit_loss b.losses r.unit = french-loss b.losses agent purchase q.unit french-q ∙ sym (french-loss b.losses agent purchase r.unit french-r) in
    rw (← french-loss b.losses agent purchase r.unit french-r) (omega (arith, a, c, rw same at t))

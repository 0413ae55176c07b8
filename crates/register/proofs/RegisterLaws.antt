-- Registering: each way out.
use Prim.Native.Nat.{ℕ, ◌≤◌, ◌<◌}
use mathlib.Core.Path.{◌≡◌, refl, sym, ap, ◌∙◌}
use mathlib.Core.Bool.{Bool, true, false, cond, not, ◌&&◌, ◌||◌, beq}
use mathlib.Core.List.{List, map}
use mathlib.Core.Option.{none as nothing}
use native.Mathlib.Omega.{arith}
use lib.Dec.{ltb}
use lib.ListN.{take, length, get_or, length-map}
use lib.Seq.{get_or-take}
use borrow.Author.Tests.{le-leb, lt-leb, eqb-true, eq-eqb, not-false}
use Rattle.std.specs.Prelude.{Some, None, is_none}
use Rattle.std.specs.declared.option.Option.{Option}
use Rattle.std.specs.List.{list_any, position}
use Rattle.rules.specs.Lists.{All, none, more, any, first}
use Rattle.rules.proofs.BoolLaws.{by_bool, not-both, of-not, neither, of-beq}
use Rattle.rules.proofs.ListLaws.{all_map, any_false, of-any-false, any-list, first-none}
use Rattle.rules.proofs.ElementLaws.{all-every}
use Rattle.rules.proofs.BookLaws.{french-parts}
use Rattle.rules.specs.Refusals.{row, first_row}
use Rattle.rules.specs.Units as U
use Rattle.rules.specs.Book as B
use Rattle.rules.specs.DayBook as D
use Rattle.session.specs.Image.{image, verdicts_in, hours_in, unit_as, unit_of, notice_of, rights_of, notice_as, no_unit, no_notice}
use Rattle.session_changes.specs.Changes.{registry_with}
use Rattle.session_changes.specs.Effects.{done}
use Rattle.answer.specs.Told.{told, is_refusal, accepted}
use Rattle.session.specs.Parts.{number_is, JudgesRow, given_by, Entered}
use Rattle.register.specs.Registry.{beside_unit, shares_rights, rights_from}
use Rattle.session.specs.declared.Session.{Session}
use Rattle.session.specs.declared.Notice.{Notice}
use Rattle.std.specs.declared.result.Result.{Result}
use Rattle.std.specs.declared.result.Result.TheVariants.{Ok, Err}
use Rattle.rules.specs.declared.row.Row as Code
use Rattle.rules.specs.declared.row.Row.TheVariants.{Gate, Range, Taken, Second, Full, Rights}
use Rattle.session.proofs.LaidLaws.{any-map, map_last, length_last, set-pad}
use Rattle.session.proofs.IndexLaws.{index-first, get_or-map, position-none, none-passes, found-at, position-map}
use Rattle.session.proofs.StepLaws.{open_row}
use Rattle.session.proofs.SoundLaws.{open-stage}
use Rattle.session.proofs.ImageLaws.{closed-as, enrolled-as, units-as, rights-as, registered-as}

-- French units

-- of one agent and side, number 8 tells two of them apart by their marks
pub french-beside : (agent : ℕ) (purchase : Bool) (u v : U.TradingUnit) → U.french_of agent purchase u ≡ true → U.french_of agent purchase v ≡ true
    → U.is_second_to u v ≡ beq u.rights v.rights
unfolding U.is_second_to U.domestic U.french
french-beside agent purchase u v h k =
    let x = french-parts agent purchase u h in
    let y = french-parts agent purchase v k in
    let a : u.border ≡ 1 = eqb-true _ _ x.0 in
    let b : v.border ≡ 1 = eqb-true _ _ y.0 in
    rw (a, b, x.1, y.1, x.2, y.2, eq-eqb agent agent refl, of-beq purchase purchase refl)

french-self : (u : U.TradingUnit) → U.french u ≡ true → U.french_of u.agent u.purchase u ≡ true
unfolding U.french_of
french-self u h = rw (h, eq-eqb u.agent u.agent refl, of-beq u.purchase u.purchase refl)

-- row 5 leaves a marked unit only where it is French
marked-french : (u : U.TradingUnit) → U.bad_unit u ≡ false → u.rights ≡ true → U.french u ≡ true
unfolding U.bad_unit
marked-french u h e =
    let k = (neither (U.bad_number u.number || U.bad_number u.agent || ltb 4 u.border || ltb U.max_energy u.maximum || (u.legacy && U.domestic u)) (u.rights && not (U.french u)) h).1 in
    not-false (U.french u) (sym (ap (λ t. t && not (U.french u)) e) ∙ k)

-- registered units that share the rights of u
abbrev shares : U.TradingUnit → U.Registered → Bool
shares u r = U.french u && U.french_of u.agent u.purchase r.unit

any-alike : {A : Type 0} (p q : A → Bool) {xs : List A} → All (λ x. p x ≡ q x) xs → any p xs ≡ any q xs
unfolding any
any-alike p q none = refl
any-alike p q (more h t) = rw (h, any-alike p q t)

-- beside a marked unit that is no second one they are its partners
partner-shares : (u : U.TradingUnit) → u.rights ≡ true → U.french u ≡ true → (r : U.Registered) → U.is_second_to u r.unit ≡ false
    → D.is_partner u.agent u.purchase r ≡ shares u r
unfolding D.is_partner
partner-shares u e f r k =
    by_bool (U.french_of u.agent u.purchase r.unit)
    (λ t. let m : r.unit.rights ≡ false = of-not r.unit.rights (λ q. not-both (french-beside _ _ u r.unit (french-self u f) t ∙ of-beq u.rights r.unit.rights (e ∙ sym q)) k) in rw (t, f, m))
    (λ t. rw (t, f))

-- a search of the array for one of the same agent, border and side is a search of the list
second-as : (s : Session) (b : B.Book) → s ≡ image b → (u : U.TradingUnit) → D.is_second b u ≡ any (beside_unit u) (take s.enrolled s.units)
unfolding D.is_second
second-as s b e u = rw (units-as s b e) (sym (any-map unit_of (beside_unit u) b.units))

-- The unit whose rights a new one gets

and_alike : (a : Bool) {b c : Bool} → (a ≡ true → b ≡ c) → (a && b) ≡ (a && c)
and_alike true f = f refl
and_alike false f = refl

-- a partner stands at an index of the list
partner-at : (us : List U.Registered) (u : U.TradingUnit) → U.bad_unit u ≡ false → any (λ r. U.is_second_to u r.unit) us ≡ false
    → (u.rights && not (any (D.is_partner u.agent u.purchase) us)) ≡ (u.rights && is_none (position (shares u) us))
partner-at us u k g =
    and_alike u.rights (λ e.
    ap not (any-alike (D.is_partner u.agent u.purchase) (shares u) (all_map (partner-shares u e (marked-french u k e)) (any_false _ us g))) ∙ sym (position-none (shares u) us))

found-as : (s : Session) (b : B.Book) → s ≡ image b → (u : U.TradingUnit) → position (shares_rights u) (take s.enrolled s.units) ≡ position (shares u) b.units
found-as s b e u = rw (units-as s b e) (position-map unit_of (shares_rights u) b.units)

-- its rights are those of the first that shares them
partner-first : (us : List U.Registered) (u : U.TradingUnit) → D.rights_on_side us u ≡ (first (shares u) U.nobody us).rights
unfolding D.rights_on_side
partner-first us u = go (U.french u)
  where
    go : (t : Bool) → cond t (first (λ r. U.french_of u.agent u.purchase r.unit) U.nobody us).rights nothing ≡ (first (λ r. t && U.french_of u.agent u.purchase r.unit) U.nobody us).rights
    go true = refl
    go false = sym (ap (λ (r : U.Registered). r.rights) (first-none (λ r. false) U.nobody us (of-any-false (λ r. false) (all-every (λ r. refl) us))))

-- and they stand at the index that is found
rights-found : (rs : List Notice) (us : List U.Registered) (u : U.TradingUnit) → take (length us) rs ≡ map rights_of us
    → rights_from rs (position (shares u) us) ≡ notice_as (D.rights_on_side us u)
unfolding notice_as
rights-found rs us u h = go (position (shares u) us) refl
  where
    go : (o : Option ℕ) → position (shares u) us ≡ o → rights_from rs o ≡ notice_as (D.rights_on_side us u)
    go None q = sym (ap notice_as (partner-first us u ∙ ap (λ (r : U.Registered). r.rights) (first-none (shares u) U.nobody us (none-passes (shares u) us q))))
    go (Some at) q =
        let k = found-at (shares u) us at q in
        let inside : at < length us = rw (← k.1) k.0 in
        sym (get_or-take (length us) rs at no_notice inside)
        ∙ ap (λ (l : List Notice). get_or l at no_notice) h
        ∙ get_or-map rights_of U.nobody no_notice us at inside
        ∙ ap rights_of (ap (λ i. get_or us i U.nobody) (sym k.1) ∙ sym (index-first (shares u) U.nobody us))
        ∙ ap notice_as (sym (partner-first us u))

module _ (s : Session) (u : U.TradingUnit) where
  abbrev call : D.Call
  call = D.register u

  -- the judgement is the table's
  abbrev ByTable : Result (Option ℕ) Code.Row → Type 0
  ByTable j = JudgesRow s call j

  abbrev bad : Bool
  bad = U.bad_unit u

  abbrev taken : Bool
  taken = list_any (number_is u.number) (take s.enrolled s.units)

  abbrev second : Bool
  second = list_any (beside_unit u) (take s.enrolled s.units)

  pub register-2 : s.closed ≡ true → ByTable (Err Gate)
  unfolding D.rows_of D.gate_row D.call_rows D.change_row row first_row given_by
  register-2 h b e = rw (closed-as s b e, h)

  pub register-5 : s.closed ≡ false → bad ≡ true → ByTable (Err Range)
  unfolding D.rows_of D.gate_row D.call_rows D.change_row row first_row given_by
  register-5 h k b e = rw (k, closed-as s b e, h)

  pub register-7 : s.closed ≡ false → bad ≡ false → taken ≡ true → ByTable (Err Taken)
  unfolding D.rows_of D.gate_row D.call_rows D.change_row row first_row given_by
  register-7 h k t b e = rw (k, registered-as s b e u.number, any-list (number_is u.number) (take s.enrolled s.units), t, closed-as s b e, h)

  pub register-8 : s.closed ≡ false → bad ≡ false → taken ≡ false → second ≡ true → ByTable (Err Second)
  unfolding D.rows_of D.gate_row D.call_rows D.change_row row first_row given_by
  register-8 h k t g b e = rw (k, registered-as s b e u.number, any-list (number_is u.number) (take s.enrolled s.units), t, second-as s b e u, any-list (beside_unit u) (take s.enrolled s.units), g, closed-as s b e, h)

  pub register-9 : s.closed ≡ false → bad ≡ false → taken ≡ false → second ≡ false → 64 ≤ s.enrolled → ByTable (Err Full)
  unfolding D.rows_of D.gate_row D.call_rows D.change_row D.units_full row first_row given_by
  register-9 h k t g f b e =
      rw (k, registered-as s b e u.number, any-list (number_is u.number) (take s.enrolled s.units), t, second-as s b e u, any-list (beside_unit u) (take s.enrolled s.units), g, enrolled-as s b e, le-leb 64 s.enrolled f, closed-as s b e, h)

  abbrev from : Option ℕ
  from = position (shares_rights u) (take s.enrolled s.units)

  abbrev alone : Bool
  alone = u.rights && is_none from

  partner-as : bad ≡ false → second ≡ false → (b : B.Book) → s ≡ image b → D.no_partner b u ≡ alone
  unfolding D.no_partner D.is_second
  partner-as k g b e =
      partner-at b.units u k (second-as s b e u ∙ any-list (beside_unit u) (take s.enrolled s.units) ∙ g) ∙ ap (λ (o : Option ℕ). u.rights && is_none o) (sym (found-as s b e u))

  pub register-15 : s.closed ≡ false → bad ≡ false → taken ≡ false → second ≡ false → s.enrolled < 64 → alone ≡ true → ByTable (Err Rights)
  unfolding D.rows_of D.gate_row D.call_rows D.change_row D.units_full row first_row given_by
  register-15 h k t g f a b e =
      rw (partner-as k g b e, a, k, registered-as s b e u.number, any-list (number_is u.number) (take s.enrolled s.units), t, second-as s b e u, any-list (beside_unit u) (take s.enrolled s.units), g, enrolled-as s b e, lt-leb 64 s.enrolled f, closed-as s b e, h)

  pub register-0 : s.closed ≡ false → bad ≡ false → taken ≡ false → second ≡ false → s.enrolled < 64 → alone ≡ false → ByTable (Ok from)
  unfolding D.rows_of D.gate_row D.call_rows D.change_row D.units_full row first_row given_by
  register-0 h k t g f a b e =
      rw (partner-as k g b e, a, k, registered-as s b e u.number, any-list (number_is u.number) (take s.enrolled s.units), t, second-as s b e u, any-list (beside_unit u) (take s.enrolled s.units), g, enrolled-as s b e, lt-leb 64 s.enrolled f, closed-as s b e, h)

-- one unit more in the book is one more in its image
enrolled-image : (b : B.Book) (u : U.TradingUnit) → length b.units < 64 → b.closed ≡ false → b.cleared ≡ false
    → registry_with (image b) (record { at = length b.units; unit = unit_as u; rights = notice_as (D.rights_on_side b.units u) }) ≡ image (D.applied b (D.register u))
unfolding image verdicts_in hours_in D.applied D.with_units B.hours notice_as
enrolled-image b u h k c =
    let us = b.units in
    let r : U.Registered = record { unit = u; available = nothing; rights = D.rights_on_side us u } in
    let m = length-map us unit_of in
    let n = length-map us notice_of in
    let g = length-map us rights_of in
    rw (
      length_last us r,
      map_last unit_of us r,
      map_last notice_of us r,
      map_last rights_of us r,
      set-pad 64 no_unit (map unit_of us) (length us) (unit_of r) (omega arith) (omega arith),
      set-pad 64 no_notice (map notice_of us) (length us) (notice_of r) (omega arith) (omega arith),
      set-pad 64 no_notice (map rights_of us) (length us) (rights_of r) (omega arith) (omega arith),
      k,
      c,
    )

pub unit-entered : (s : Session) (u : U.TradingUnit) (from : Option ℕ) → from ≡ position (shares_rights u) (take s.enrolled s.units) → s.enrolled < 64
    → Entered s (D.register u) (done registry_with s (record { change = record { at = s.enrolled; unit = unit_as u; rights = rights_from s.rights from }; answer = accepted }))
unfolding told is_refusal D.reply D.rows_of D.gate_row D.call_rows
unit-entered s u from at h = record {
  book = λ b sound o e.
      let n = enrolled-as s b e in
      let k = open_row b _ o in
      let rights = rights-found s.rights b.units u (ap (λ n. take n s.rights) n ∙ rights-as s b e) in
      record {
        answer = refl;
        session = rw (at, found-as s b e u, rights, ← n, e) (enrolled-image b u (omega arith) k (open-stage b sound k));
      };
  fine = refl;
}

-- Searches of the session's lodgements and units are the book's.
use Prim.Native.Nat.{ℕ, ◌-◌, ◌≤◌, ◌<◌}
use mathlib.Core.Path.{◌≡◌, refl, sym, ap, ◌∙◌}
use mathlib.Core.Bool.{Bool, true, false, cond}
use mathlib.Core.List.{List, map}
use native.Mathlib.Omega.{arith}
use lib.Dec.{ltb}
use lib.ListN.{take, length, get_or, replicate, length-append, length-map, length-take}
use lib.Seq.{length-take-le, get_or-take}
use borrow.Author.Tests.{lt-ltb, ltb-true, eq-eqb, ne_eqb}
use Rattle.std.specs.Prelude.{Some, None, IfOk, IfErr}
use Rattle.std.specs.List.{position}
use Rattle.std.specs.Option.{ok_or}
use Rattle.std.specs.declared.option.Option.{Option}
use Rattle.std.specs.declared.result.Result.TheVariants.{Ok, Err}
use Rattle.std.proofs.lemmas.Option.{none-some, cond_some}
use Rattle.std.proofs.lemmas.Result.{IfOk-at_ok, IfErr-at_err}
use Rattle.rules.specs.Lists.{any}
use Rattle.rules.specs.Units as U
use Rattle.rules.specs.Lodging as L
use Rattle.rules.specs.Book as B
use Rattle.rules.specs.DayBook as D
use Rattle.rules.proofs.BoolLaws.{by_bool}
use Rattle.session.specs.Laid.{pad}
use Rattle.session.specs.Image.{image, key_in, lodgement_as, unit_of, no_lodgement, no_unit}
use Rattle.session.specs.Parts.{index_of, held, number_is}
use Rattle.session.specs.declared.Key.{Key}
use Rattle.session.specs.declared.Unit.{Unit}
use Rattle.session.specs.declared.Holder.{Holder}
use Rattle.session.specs.declared.Session.{Session}
use Rattle.session.proofs.LaidLaws.{any-map}
use Rattle.session.proofs.IndexLaws.{indexed, unindexed, position-as}
use Rattle.session.proofs.ImageLaws.{lodgements-as, unit-as, holder-none, holder-registered, holder-unit}
use Rattle.judge_loads.proofs.LoadLaws.{and-false}
use Rattle.lodge_keys.specs.Keys.{of_key, key_index, hiding}
use Rattle.lodge_keys.specs.Holding.{FoundAt}

-- What the library's search finds

module _ {A : Type 0} (q : A → Bool) (xs : List A) where
  any-none : position q xs ≡ None → any q xs ≡ false
  any-none h =
      by_bool (any q xs)
      (λ e. absurd (none-some (index_of q xs) (sym h ∙ (position-as q xs ∙ ap (λ t. cond t (Some (index_of q xs)) None) (lt-ltb (index_of q xs) (length xs) (indexed q xs e))))))
      (λ e. e)

  any-some : (p : ℕ) → position q xs ≡ Some p → (any q xs ≡ true) × (p < length xs)
  any-some p h =
      let got = cond_some (ltb (index_of q xs) (length xs)) (index_of q xs) p (sym (position-as q xs) ∙ h) in
      let i = ltb-true (index_of q xs) (length xs) got.0 in
      (by_bool (any q xs) (λ e. e) (λ e. absurd (omega (arith, i, unindexed q xs e))), omega (arith, i, got.1))

-- What is looked for, or a row

module _ {A E : Type 0} where
  looked-found : (o : Option A) (e : E) → IfOk (ok_or o e) (λ x. o ≡ Some x)
  looked-found None e = tt
  looked-found (Some x) e = refl

  looked-missed : (o : Option A) (e : E) → IfErr (ok_or o e) (λ y. (o ≡ None) × (y ≡ e))
  looked-missed None e = (refl, refl)
  looked-missed (Some x) e = tt

  pub some-found : (o : Option A) (e : E) (x : A) → ok_or o e ≡ Ok x → o ≡ Some x
  some-found o e x h = IfOk-at_ok _ h (looked-found o e)

  pub none-missed : (o : Option A) (e f : E) → ok_or o e ≡ Err f → (o ≡ None) × (f ≡ e)
  none-missed o e f h = IfErr-at_err _ h (looked-missed o e)

module _ (us : List Unit) (n : ℕ) (x : Holder) (h : held us n ≡ Some x) where
  abbrev first_at : ℕ
  first_at = index_of (number_is n) us

  abbrev first_holder : Holder
  first_holder = record { at = first_at; unit = get_or us first_at no_unit }

  held-as : held us n ≡ cond (ltb first_at (length us)) (Some first_holder) None
  held-as = rw (position-as (number_is n) us) (by_bool (ltb first_at (length us)) (λ t. rw t refl) (λ t. rw t refl))

  got : (ltb first_at (length us) ≡ true) × (first_holder ≡ x)
  got = cond_some (ltb first_at (length us)) first_holder x (sym held-as ∙ h)

  found-at : x.at ≡ first_at
  found-at = sym (ap (λ (y : Holder). y.at) got.1)

  found-inside : x.at < length us
  found-inside = rw found-at (ltb-true first_at (length us) got.0)

  found-unit : x.unit ≡ get_or us x.at no_unit
  found-unit = rw found-at (sym (ap (λ (y : Holder). y.unit) got.1))

-- the unit that the search finds among those that are registered
pub found-by : (s : Session) (n : ℕ) (x : Holder) → held (take s.enrolled s.units) n ≡ Some x → FoundAt s n x
found-by s n x h =
    let units = take s.enrolled s.units in
    let inside : x.at < s.enrolled = omega (arith, found-inside units n x h, length-take s.enrolled s.units) in
    record { index = found-at units n x h; inside = inside; unit = found-unit units n x h ∙ get_or-take s.enrolled s.units x.at no_unit inside }

-- and as the book has it
pub found-as : (s : Session) (b : B.Book) → s ≡ image b → (n : ℕ) (x : Holder) → FoundAt s n x → x.unit ≡ unit_of (U.unit_of b.units n)
found-as s b e n x f = f.unit ∙ unit-as s b e n x.at f.index f.inside no_unit

module _ (s : Session) (b : B.Book) (e : s ≡ image b) where
  -- a lodgement of the key stands
  pub stands-as : (k : Key) → L.stands b.standing (key_in k) ≡ any (of_key k) (take s.standing s.lodgements)
  unfolding L.stands
  stands-as k = rw (lodgements-as s b e) (sym (any-map lodgement_as (of_key k) b.standing))

  pub lodgements-fit : s.standing ≤ length s.lodgements
  unfolding image pad
  lodgements-fit =
      rw e (omega (arith, length-append (map lodgement_as b.standing) (replicate (128 - length (map lodgement_as b.standing)) no_lodgement), length-map b.standing lodgement_as))

  -- by its index
  pub stands-none : (k : Key) → key_index s k ≡ None → L.stands b.standing (key_in k) ≡ false
  stands-none k q = stands-as k ∙ any-none (of_key k) (take s.standing s.lodgements) q

  pub stands-some : (k : Key) (p : ℕ) → key_index s k ≡ Some p → (L.stands b.standing (key_in k) ≡ true) × (p < s.standing)
  stands-some k p q =
      let r = any-some (of_key k) (take s.standing s.lodgements) p q in
      (stands-as k ∙ r.0, omega (arith, r.1, length-take-le s.standing s.lodgements lodgements-fit))

  -- a lodgement of the key is hidden
  pub hidden-as : (k : Key) (l : L.Lodgement) → l.key ≡ key_in k → L.is_hidden b.standing l ≡ any (hiding k) (take s.standing s.lodgements)
  unfolding L.is_hidden
  hidden-as k l q = rw (lodgements-as s b e, q) (sym (any-map lodgement_as (hiding k) b.standing))

  -- Row 6, by the unit that is found
  module _ (k : Key) where
    abbrev search : Option Holder
    search = held (take s.enrolled s.units) k.unit

    pub none-bad : search ≡ None → D.bad_holder b (key_in k) ≡ true
    unfolding D.bad_holder D.unregistered
    none-bad h = rw (holder-none s b e k.unit h)

    module _ (x : Holder) (h : search ≡ Some x) where
      border-as : x.unit.border ≡ (U.unit_of b.units k.unit).unit.border
      border-as = ap (λ (u : Unit). u.border) (holder-unit s b e k.unit x h)

      pub domestic-bad : k.execution ≡ true → x.unit.border ≡ 0 → D.bad_holder b (key_in k) ≡ true
      unfolding D.bad_holder D.unregistered L.domestic_execution U.domestic
      domestic-bad t q = rw (holder-registered s b e k.unit x h, t, eq-eqb _ _ (sym border-as ∙ q))

      pub offer-good : k.execution ≡ false → D.bad_holder b (key_in k) ≡ false
      unfolding D.bad_holder D.unregistered L.domestic_execution
      offer-good t = rw (holder-registered s b e k.unit x h, t)

      pub foreign-good : (x.unit.border ≡ 0 → ⊥) → D.bad_holder b (key_in k) ≡ false
      unfolding D.bad_holder D.unregistered L.domestic_execution U.domestic
      foreign-good q = rw (holder-registered s b e k.unit x h, ne_eqb _ _ (λ z. q (border-as ∙ z))) (and-false k.execution false refl)

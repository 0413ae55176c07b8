-- What the image of a book shows of it, and the guard.
use Prim.Native.Nat.{ℕ, ◌-◌, ◌≤◌, ◌<◌}
use mathlib.Core.Path.{◌≡◌, refl, sym, ap, ◌∙◌}
use native.Mathlib.Omega.{arith}
use mathlib.Core.Bool.{true, false}
use mathlib.Core.List.{List, map}
use lib.Dec.{leb, ltb}
use lib.ListN.{length, take, get_or, replicate, length-map, length-append, length-take}
use lib.Seq.{get_or-take}
use borrow.Author.Tests.{le-leb, leb-true, ltb-true}
use Rattle.rules.specs.Lists.{any}
use Rattle.rules.specs.Units as U
use Rattle.rules.specs.Book as B
use Rattle.std.proofs.lemmas.Option.{none-some, cond_some}
use Rattle.rules.proofs.BoolLaws.{both, by_bool}
use Rattle.rules.proofs.HoursLaws.{hours-most}
use Rattle.session.specs.Laid.{pad}
use Rattle.session.specs.Image.{image, unit_of, notice_of, rights_of, notice_as, lodgement_as, energies_as, no_unit, no_notice, no_lodgement, no_energies, Sound}
use Rattle.session.specs.Parts.{Within, within, number_is, index_of, held}
use Rattle.session.specs.declared.Holder.{Holder}
use Rattle.std.specs.Prelude.{Some, None}
use mathlib.Core.Bool.{cond}
use Rattle.session.specs.declared.Session.{Session}
use Rattle.session.specs.declared.Unit.{Unit}
use Rattle.session.specs.declared.Notice.{Notice}
use Rattle.session.proofs.LaidLaws.{take-pad, any-map}
use Rattle.session.proofs.IndexLaws.{index-first, index-any, index-map, get_or-map, position-as}

-- The guard

pub guarded : (s : Session) → within s ≡ true → Within s
guarded s h =
    let a = both (leb s.hours 25) _ h in
    let b = both (leb s.enrolled 64) _ a.1 in
    let d = both (leb s.standing 128) _ b.1 in
    record { hours = leb-true _ _ a.0; enrolled = leb-true _ _ b.0; standing = leb-true _ _ d.0; last = leb-true _ _ d.1 }

pub image-within : (b : B.Book) → Sound b → within (image b) ≡ true
unfolding image B.hours
image-within b s =
    rw (
      le-leb (B.hours b) 25 (hours-most b.date),
      le-leb (length b.units) 64 s.ranges.units.room,
      le-leb (length b.standing) 128 s.ranges.standing.room,
      le-leb b.last 65535 s.ranges.standing.counted,
    )

-- What a session that is an image shows

module _ (s : Session) (b : B.Book) (e : s ≡ image b) where
  pub hours-as : B.hours b ≡ s.hours
  unfolding image
  hours-as = rw e refl

  pub closed-as : b.closed ≡ s.closed
  unfolding image
  closed-as = rw e refl

  pub enrolled-as : length b.units ≡ s.enrolled
  unfolding image
  enrolled-as = rw e refl

  -- an array with what the units have, at their indices
  laid-as : {A : Type 0} (of : U.Registered → A) (blank : A) (l : List A) → l ≡ pad 64 blank (map of b.units) → take s.enrolled l ≡ map of b.units
  laid-as of blank l q = rw (q, ← enrolled-as) (take-pad 64 blank (map of b.units) (length b.units) (sym (length-map b.units of)))

  pub units-as : take s.enrolled s.units ≡ map unit_of b.units
  unfolding image
  units-as = laid-as unit_of no_unit s.units (rw e refl)

  -- a search of the array is a search of the list
  pub registered-as : (n : ℕ) → U.is_registered b.units n ≡ any (number_is n) (take s.enrolled s.units)
  unfolding U.is_registered U.has_number
  registered-as n = rw units-as (sym (any-map unit_of (number_is n) b.units))

  pub cleared-as : b.cleared ≡ s.cleared
  unfolding image
  cleared-as = rw e refl

  pub last_as : b.last ≡ s.last
  unfolding image
  last_as = rw e refl

  pub capacities-as : s.capacities ≡ map notice_as b.capacities
  unfolding image
  capacities-as = rw e refl

  pub losses-as : b.losses ≡ s.losses
  unfolding image
  losses-as = rw e refl

  pub notices-as : take s.enrolled s.notices ≡ map notice_of b.units
  unfolding image
  notices-as = laid-as notice_of no_notice s.notices (rw e refl)

  pub rights-as : take s.enrolled s.rights ≡ map rights_of b.units
  unfolding image
  rights-as = laid-as rights_of no_notice s.rights (rw e refl)

  pub standing-as : length b.standing ≡ s.standing
  unfolding image
  standing-as = rw e refl

  pub lodgements-as : take s.standing s.lodgements ≡ map lodgement_as b.standing
  unfolding image
  lodgements-as = rw e (take-pad 128 no_lodgement (map lodgement_as b.standing) (length b.standing) (sym (length-map b.standing lodgement_as)))

  pub energies-as : take s.standing s.energies ≡ map energies_as b.standing
  unfolding image
  energies-as = rw e (take-pad 128 no_energies (map energies_as b.standing) (length b.standing) (sym (length-map b.standing energies_as)))

  -- where the unit with a number stands, and what stands there

  pub index-as : (n : ℕ) → index_of (U.has_number n) b.units ≡ index_of (number_is n) (take s.enrolled s.units)
  unfolding U.has_number
  index-as n = rw units-as (sym (index-map unit_of (number_is n) b.units))

  units-fit : s.enrolled ≤ length s.units
  unfolding image pad
  units-fit = rw e (omega (arith, length-append (map unit_of b.units) (replicate (64 - length (map unit_of b.units)) no_unit), length-map b.units unit_of))

  -- whether one is registered, by the index
  pub registered-at : (n p : ℕ) → p ≡ index_of (number_is n) (take s.enrolled s.units) → U.is_registered b.units n ≡ ltb p s.enrolled
  registered-at n p at =
      registered-as n ∙ (sym (index-any (number_is n) s.units s.enrolled units-fit) ∙ ap (λ j. ltb j s.enrolled) (sym at))

  module _ (n p : ℕ) (at : p ≡ index_of (number_is n) (take s.enrolled s.units)) (in_List : p < s.enrolled) where
    here : U.unit_of b.units n ≡ get_or b.units p U.nobody
    unfolding U.unit_of
    here = index-first (U.has_number n) U.nobody b.units ∙ ap (λ k. get_or b.units k U.nobody) (index-as n ∙ sym at)

    within-list : p < length b.units
    within-list = omega (arith, enrolled-as)

    -- what stands there is the unit's
    stands-as : {A : Type 0} (of : U.Registered → A) (l : List A) → take s.enrolled l ≡ map of b.units → (d : A) → get_or l p d ≡ of (U.unit_of b.units n)
    stands-as {A} of l q d =
        sym (get_or-take s.enrolled l p d in_List)
        ∙ (ap (λ (t : List A). get_or t p d) q
        ∙ (get_or-map of U.nobody d b.units p within-list ∙ ap of (sym here)))

    pub unit-as : (d : Unit) → get_or s.units p d ≡ unit_of (U.unit_of b.units n)
    unit-as d = stands-as unit_of s.units units-as d

    pub notice-as : (d : Notice) → get_or s.notices p d ≡ notice_of (U.unit_of b.units n)
    notice-as d = stands-as notice_of s.notices notices-as d

    pub rights-at : (d : Notice) → get_or s.rights p d ≡ rights_of (U.unit_of b.units n)
    rights-at d = stands-as rights_of s.rights rights-as d

  module _ (n : ℕ) where
    abbrev first-at : ℕ
    first-at = index_of (number_is n) (take s.enrolled s.units)

    long : length (take s.enrolled s.units) ≡ s.enrolled
    long = omega (arith, length-take s.enrolled s.units, units-fit)

    abbrev first-holder : Holder
    first-holder = record { at = first-at; unit = get_or (take s.enrolled s.units) first-at no_unit }

    held-as : held (take s.enrolled s.units) n ≡ cond (ltb first-at s.enrolled) (Some first-holder) None
    held-as = rw (position-as (number_is n) (take s.enrolled s.units), long) (by_bool (ltb first-at s.enrolled) (λ t. rw t refl) (λ t. rw t refl))

    pub holder-none : held (take s.enrolled s.units) n ≡ None → U.is_registered b.units n ≡ false
    holder-none h =
        registered-at n first-at refl
        ∙ by_bool (ltb first-at s.enrolled) (λ t. absurd (none-some first-holder (sym h ∙ (held-as ∙ ap (λ q. cond q (Some first-holder) None) t)))) (λ t. t)

    module _ (x : Holder) (h : held (take s.enrolled s.units) n ≡ Some x) where
      got : (ltb first-at s.enrolled ≡ true) × (first-holder ≡ x)
      got = cond_some (ltb first-at s.enrolled) _ x (sym held-as ∙ h)

      inside : first-at < s.enrolled
      inside = ltb-true first-at s.enrolled got.0

      pub holder-registered : U.is_registered b.units n ≡ true
      holder-registered = registered-at n first-at refl ∙ got.0

      pub holder-at : x.at ≡ first-at
      holder-at = sym (ap (λ (y : Holder). y.at) got.1)

      pub holder-inside : x.at < s.enrolled
      holder-inside = rw holder-at inside

      pub holder-unit : x.unit ≡ unit_of (U.unit_of b.units n)
      holder-unit =
          sym (ap (λ (y : Holder). y.unit) got.1)
          ∙ (get_or-take s.enrolled s.units first-at no_unit inside ∙ unit-as n first-at refl inside no_unit)

-- What the session's arrays show of a standing lodgement and its unit.
use Prim.Native.Nat.{ℕ, zero, suc, ◌<◌}
use mathlib.Core.Path.{◌≡◌, sym, ap, ◌∙◌}
use mathlib.Core.Bool.{true}
use mathlib.Core.List.{List, [], ◌∷◌, map}
use native.Mathlib.Omega.{arith}
use lib.Dec.{ltb}
use lib.ListN.{length, get_or, take, length-map, length-take}
use lib.Seq.{get_or-take}
use borrow.Author.Tests.{ltb-true, lt-ltb}
use Rattle.rules.specs.Book.{Book}
use Rattle.session.specs.Image.{image, lodgement_as, energies_as}
use Rattle.session.specs.declared.Lodgement.{Lodgement}
use Rattle.session.specs.declared.Energies.{Energies}
use Rattle.session.specs.declared.Session.{Session}
use Rattle.session.proofs.ImageLaws.{standing-as, lodgements-as, energies-as}
use Rattle.session.proofs.IndexLaws.{get_or-map}
use Rattle.session.specs.Image.{no_lodgement}
use Rattle.session.specs.Parts.{index_of, number_is}
use Rattle.session.proofs.IndexLaws.{position-as}
use Rattle.std.specs.Prelude.{Some, None}
use Rattle.std.specs.declared.option.Option as O
use Rattle.std.proofs.lemmas.Option.{none-some, cond_some}
use Rattle.close_holders.specs.Holders.{holder_of}
use Rattle.close_judge.specs.Classes.{beyond, standing_at, HoldersOf}

module _ (s : Session) (b : Book) (e : s ≡ image b) (i : ℕ) (h : i < s.standing) where
  pub stands : i < length b.standing
  stands = omega (arith, standing-as s b e)

  pub lodgement-at : (d : Lodgement) → get_or s.lodgements i d ≡ lodgement_as (standing_at b i)
  lodgement-at d =
      sym (get_or-take s.standing s.lodgements i d h)
      ∙ (ap (λ (l : List Lodgement). get_or l i d) (lodgements-as s b e) ∙ get_or-map lodgement_as beyond d b.standing i stands)

  pub energies-at : (d : Energies) → get_or s.energies i d ≡ energies_as (standing_at b i)
  energies-at d =
      sym (get_or-take s.standing s.energies i d h)
      ∙ (ap (λ (l : List Energies). get_or l i d) (energies-as s b e) ∙ get_or-map energies_as beyond d b.standing i stands)

-- Indices of units

mapped-some : {A B : Type 0} (f : A → O.Option B) (d : A) (xs : List A) (i : ℕ) {y : B} → get_or (map f xs) i None ≡ Some y → (i < length xs) × (f (get_or xs i d) ≡ Some y)
mapped-some f d [] i {y} e = absurd (none-some y e)
mapped-some f d (x ∷ xs) zero e = (omega arith, e)
mapped-some f d (x ∷ xs) (suc i) e = let r = mapped-some f d xs i e in (omega (arith, r.0), r.1)

module _ (s : Session) (hs : List (O.Option ℕ)) (held : HoldersOf s hs) (i : ℕ) where
  -- that of a unit that is found
  module _ (p : ℕ) (e : get_or hs i None ≡ Some p) where
    found : (i < length (take s.standing s.lodgements)) × (holder_of (take s.enrolled s.units) (get_or (take s.standing s.lodgements) i no_lodgement) ≡ Some p)
    found = mapped-some (holder_of (take s.enrolled s.units)) no_lodgement (take s.standing s.lodgements) i (rw held at e)

    pub holder-stands : i < s.standing
    holder-stands = omega (arith, found.0, length-take s.standing s.lodgements)

    got : (ltb (index_of (number_is (get_or s.lodgements i no_lodgement).key.unit) (take s.enrolled s.units)) (length (take s.enrolled s.units)) ≡ true)
        × (index_of (number_is (get_or s.lodgements i no_lodgement).key.unit) (take s.enrolled s.units) ≡ p)
    unfolding holder_of
    got =
        let us = take s.enrolled s.units in
        let number = (get_or s.lodgements i no_lodgement).key.unit in
        cond_some (ltb (index_of (number_is number) us) (length us)) (index_of (number_is number) us) p
        (sym (position-as (number_is number) us) ∙ (rw (get_or-take s.standing s.lodgements i no_lodgement holder-stands) at found.1))

    pub holder-index : p ≡ index_of (number_is (get_or s.lodgements i no_lodgement).key.unit) (take s.enrolled s.units)
    holder-index = sym got.1

    pub holder-inside : p < s.enrolled
    holder-inside = omega (arith, got.1, ltb-true _ _ got.0, length-take s.enrolled s.units)

  -- that of a unit in the array
  pub holder-at : (b : Book) → s ≡ image b → i < s.standing → index_of (number_is (get_or s.lodgements i no_lodgement).key.unit) (take s.enrolled s.units) < length (take s.enrolled s.units)
      → get_or hs i None ≡ Some (index_of (number_is (get_or s.lodgements i no_lodgement).key.unit) (take s.enrolled s.units))
  unfolding holder_of
  holder-at b e h k =
      let us = take s.enrolled s.units in
      let number = (get_or s.lodgements i no_lodgement).key.unit in
      let full : length (take s.standing s.lodgements) ≡ s.standing = ap length (lodgements-as s b e) ∙ length-map b.standing lodgement_as ∙ standing-as s b e in
      ap (λ (l : List (O.Option ℕ)). get_or l i None) held
      ∙ (get_or-map (holder_of us) no_lodgement None (take s.standing s.lodgements) i (omega arith)
      ∙ (ap (holder_of us) (get_or-take s.standing s.lodgements i no_lodgement h)
      ∙ (position-as (number_is number) us ∙ rw (lt-ltb _ _ k))))

-- for the functions that index by it
pub ruleset holder_laws = (holder-inside)

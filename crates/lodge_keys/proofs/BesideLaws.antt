-- The lodgements that one is judged with: marks at their indices, and the energy that they sum to.
use Prim.Native.Nat.{ℕ, ◌+◌, ◌<◌}
use mathlib.Core.Path.{◌≡◌, refl, sym, ap, ◌∙◌}
use mathlib.Core.Bool.{Bool, true, false, cond, not, ◌&&◌, beq}
use mathlib.Core.List.{List, [], map, map-map}
use native.Mathlib.Omega.{arith}
use lib.Dec.{eqb}
use lib.ListN.{take, length, get_or, length-map}
use lib.Seq.{take_all}
use Rattle.rules.specs.Lists.{keep, sum, sum_of, from, hourly}
use Rattle.rules.specs.Lodging as L
use Rattle.rules.specs.Book.{Book}
use Rattle.std.specs.List.{list_any}
use Rattle.rules.proofs.ListLaws.{keep-keep, keep_same, of-any-false, any-list}
use Rattle.rules.proofs.ElementLaws.{all-every}
use Rattle.session.specs.Image.{image, key_in, key_as, lodgement_as, energies_as}
use Rattle.session.proofs.LaidLaws.{any-map}
use Rattle.session.proofs.IndexLaws.{get_or-map}
use Rattle.session.proofs.ImageLaws.{lodgements-as, energies-as}
use Rattle.session.specs.declared.Key.{Key}
use Rattle.session.specs.declared.Lodgement.{Lodgement}
use Rattle.session.specs.declared.Session.{Session}
use Rattle.judge_loads.specs.Loads.{marked, load_in}
use Rattle.judge_loads.proofs.MarkLaws.{load-keep}
use Rattle.message.specs.View.{fields_in}
use Rattle.message.specs.declared.Fields.{Fields}
use Rattle.lodge_keys.specs.Keys.{key_for, hiding}
use Rattle.lodge_keys.specs.Beside.{counts, beside_marks, marks_for}

-- nothing hides a normal one
unhidden : (m : Lodgement) (k : Key) → k.default ≡ false → hiding k m ≡ false
unfolding L.hides
unhidden m k d = and_none (L.same_but_default (key_in m.key) (key_in k)) (not m.key.default) k.default d
  where
    and_none : (a b c : Bool) → c ≡ false → (a && b && c) ≡ false
    and_none true true c e = e
    and_none true false c e = refl
    and_none false b c e = refl

pub normal_unhidden : (ls : List Lodgement) (k : Key) → k.default ≡ false → list_any (hiding k) ls ≡ false
normal_unhidden ls k d = sym (any-list (hiding k) ls) ∙ of-any-false (hiding k) (all-every (λ m. unhidden m k d) ls)

-- The loop that notes their indices

module _ (k : Key) (l : List Lodgement) where
  -- beside a default lodgement there are none
  pub none-of-all : k.default ≡ true → [] ≡ marked (beside_marks l k) (from 0 (length l))
  unfolding beside_marks marked
  none-of-all h = rw h refl

  pub mark-of : (d : Lodgement) (i : ℕ) → k.default ≡ false → i < length l → get_or (beside_marks l k) i false ≡ counts l k (get_or l i d)
  unfolding beside_marks
  mark-of d i h m = ap (λ t. get_or (cond t [] (map (counts l k) l)) i false) h ∙ get_or-map (counts l k) d false l i m

-- The book's lodgements

module _ (k : Key) (ls : List L.Lodgement) where
  abbrev laid : L.Lodgement → Bool
  laid l = counts (map lodgement_as ls) k (lodgement_as l)

  swap : (a b c : Bool) → (a && (b && not c)) ≡ (not c && (a && b))
  swap true true true = refl
  swap true true false = refl
  swap true false true = refl
  swap true false false = refl
  swap false b true = refl
  swap false b false = refl

  hidden-as : (l : L.Lodgement) → list_any (hiding (key_as l.key)) (map lodgement_as ls) ≡ L.is_hidden ls l
  unfolding L.is_hidden
  hidden-as l = sym (any-list (hiding (key_as l.key)) (map lodgement_as ls)) ∙ any-map lodgement_as (hiding (key_as l.key)) ls

  counts-as : (l : L.Lodgement) → laid l ≡ (not (L.is_hidden ls l) && (eqb l.key.unit k.unit && not (beq l.key.execution k.execution)))
  unfolding counts
  counts-as l = rw (hidden-as l) (swap (eqb l.key.unit k.unit) (not (beq l.key.execution k.execution)) (L.is_hidden ls l))

  beside-as : keep laid ls ≡ L.beside ls (key_in k)
  unfolding L.beside L.unhidden
  beside-as = keep_same laid _ (all-every counts-as ls) ∙ sym (keep-keep (λ l. not (L.is_hidden ls l)) _ ls)

  module _ (own : List ℕ) (h : ℕ) where
    abbrev load : List Bool → ℕ
    load bs = load_in own bs (map energies_as ls) h

    marks : Bool → List Bool
    marks t = cond t [] (map (counts (map lodgement_as ls) k) (map lodgement_as ls))

    either_way : (t : Bool) → load (marks t) ≡ hourly own h + cond t 0 (sum_of (λ l. L.energy_at l h) (L.beside ls (key_in k)))
    unfolding marked load_in marks sum_of sum
    either_way true = refl
    either_way false = load-keep own (marks false) ls h laid all ∙ ap (λ xs. hourly own h + sum_of (λ l. L.energy_at l h) xs) beside-as
      where
        all : take (length ls) (marks false) ≡ map laid ls
        all = take_all (length ls) (marks false) (omega (arith, length-map (map lodgement_as ls) (counts (map lodgement_as ls) k), length-map ls lodgement_as)) ∙ map-map (counts (map lodgement_as ls) k) lodgement_as ls

    load-marks : load (beside_marks (map lodgement_as ls) k) ≡ hourly own h + cond k.default 0 (sum_of (λ l. L.energy_at l h) (L.beside ls (key_in k)))
    unfolding load_in beside_marks marks
    load-marks = either_way k.default

-- the energy that a message is judged by
pub load-as : (s : Session) (b : Book) → s ≡ image b → (m : Fields) (h : ℕ)
    → load_in m.energies (marks_for s m) (take s.standing s.energies) h ≡ L.judged_at b.standing (fields_in m) h
unfolding load_in L.judged_at
load-as s b e m h = rw (lodgements-as s b e, energies-as s b e) (load-marks (key_for m) b.standing m.energies h)

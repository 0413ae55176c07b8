-- Whether an index is taken in a class.
use Prim.Native.Nat.{ℕ, ◌<◌}
use mathlib.Core.Path.{◌≡◌, refl, sym, ap, ◌∙◌}
use mathlib.Core.Bool.{Bool, true, false, not, ◌&&◌}
use mathlib.Core.List.{List, [], ◌∷◌}
use lib.ListN.{get_or, take}
use borrow.Author.Tests.{eq-eqb, ne_eqb}
use Rattle.std.specs.List.{list_any}
use Rattle.rules.specs.Lists.{any}
use Rattle.rules.proofs.ListLaws.{any-list}
use Rattle.rules.specs.Message as M
use Rattle.rules.specs.Lodging as L
use Rattle.rules.specs.Book.{Book}
use Rattle.rules.specs.Demands.{class_of}
use Rattle.rules.proofs.ClosingLaws.{class-is}
use Rattle.session.specs.Image.{image, lodgement_as, no_lodgement}
use Rattle.session.specs.declared.Lodgement.{Lodgement}
use Rattle.session.specs.declared.Session.{Session}
use Rattle.session.proofs.ImageLaws.{lodgements-as}
use Rattle.session.proofs.LaidLaws.{any-map}
use Rattle.judge_loads.proofs.LoadLaws.{and-false}
use Rattle.lodge_keys.specs.Keys.{hiding}
use Rattle.close_judge.specs.Classes.{standing_at, is_taken}
use Rattle.close_judge.proofs.StandingLaws.{lodgement-at}
use Rattle.close_order.specs.Passes.{class_in, number_of, TakesAt}
use Rattle.close_order.specs.declared.Class.{Class}
use Rattle.close_order.specs.declared.Class.TheVariants.{Normal, Default, Offers}
use Rattle.rules.proofs.BoolLaws.{by_bool}
use native.Mathlib.Omega.{arith}

module _ (s : Session) (b : Book) (e : s ≡ image b) (i : ℕ) (h : i < s.standing) where
  class-at : (d : Lodgement) → number_of (class_in (get_or s.lodgements i d).key) ≡ class_of (standing_at b i)
  unfolding class_in
  class-at d =
      rw (lodgement-at s b e i h d, class-is (standing_at b i))
      (by_bool (standing_at b i).key.execution (λ x. rw x (by_bool (standing_at b i).key.default (λ y. rw y) (λ y. rw y))) (λ x. rw x))

  hidden_at : (d : Lodgement) → any (hiding (get_or s.lodgements i d).key) (take s.standing s.lodgements) ≡ L.is_hidden b.standing (standing_at b i)
  unfolding L.is_hidden
  hidden_at d = rw (lodgement-at s b e i h d, lodgements-as s b e) (any-map lodgement_as (hiding (lodgement_as (standing_at b i)).key) b.standing)

-- Whether an index is taken

-- classes of one number are one
number-same : (c d : Class) → number_of c ≡ number_of d → c ≡ d
number-same Normal Normal e = refl
number-same Normal Default e = absurd (omega arith)
number-same Normal Offers e = absurd (omega arith)
number-same Default Normal e = absurd (omega arith)
number-same Default Default e = refl
number-same Default Offers e = absurd (omega arith)
number-same Offers Normal e = absurd (omega arith)
number-same Offers Default e = absurd (omega arith)
number-same Offers Offers e = refl

-- a normal lodgement is hidden by none
hides-normal : (a k : M.Key) → k.default ≡ false → L.hides a k ≡ false
unfolding L.hides
hides-normal a k e = and-false (L.same_but_default a k && not a.default) k.default e

shown-normal : (ls : List L.Lodgement) (k : M.Key) → k.default ≡ false → any (λ (l : L.Lodgement). L.hides l.key k) ls ≡ false
unfolding any
shown-normal [] k e = refl
shown-normal (l ∷ ls) k e = rw (hides-normal l.key k e) (shown-normal ls k e)

module _ (s : Session) (class : Class) (l : Lodgement) (i : ℕ) (h : i < s.standing) (here : l ≡ get_or s.lodgements i no_lodgement) where
  class-here : {t : Class} → t ≡ class_in l.key → (b : Book) → s ≡ image b → number_of t ≡ class_of (standing_at b i)
  class-here q b e = ap number_of (q ∙ ap (λ (x : Lodgement). class_in x.key) here) ∙ class-at s b e i h no_lodgement

  pub takes-other : {t : Class} → t ≡ class_in l.key → (t ≡ class → ⊥) → TakesAt s (number_of class) i false
  unfolding is_taken
  takes-other {t} q n b e = rw (ne_eqb (class_of (standing_at b i)) (number_of class) (λ k. n (number-same t class (class-here q b e ∙ k))))

  pub takes-normal : {t : Class} → t ≡ class_in l.key → t ≡ class → l.key.default ≡ false → TakesAt s (number_of class) i true
  unfolding is_taken L.is_hidden
  takes-normal q n d b e =
      let k : (standing_at b i).key.default ≡ false = ap (λ (x : Lodgement). x.key.default) (sym (lodgement-at s b e i h no_lodgement) ∙ sym here) ∙ d in
      rw (eq-eqb (class_of (standing_at b i)) (number_of class) (sym (class-here q b e) ∙ ap number_of n), shown-normal b.standing (standing_at b i).key k)

  pub takes-shown : {t : Class} {r : Bool} → t ≡ class_in l.key → t ≡ class → r ≡ list_any (hiding l.key) (take s.standing s.lodgements) → TakesAt s (number_of class) i (not r)
  unfolding is_taken
  takes-shown q n k b e =
      rw (eq-eqb (class_of (standing_at b i)) (number_of class) (sym (class-here q b e) ∙ ap number_of n), k ∙ sym (any-list (hiding l.key) (take s.standing s.lodgements)) ∙ ap (λ (x : Lodgement). any (hiding x.key) (take s.standing s.lodgements)) here ∙ hidden_at s b e i h no_lodgement)

-- One index of a class: the verdicts and the room that they leave, before it and after.
use Prim.Native.Nat.{ℕ, ◌+◌, ◌≤◌, ◌<◌}
use mathlib.Core.Path.{◌≡◌, refl, sym, ap, ◌∙◌}
use mathlib.Core.Bool.{Bool, true, false}
use mathlib.Core.List.{List, [], append-nil}
use Rattle.std.specs.List.{refill}
use mathlib.Core.Option.{none}
use native.Mathlib.Omega.{arith}
use lib.ListN.{length, get_or, take, set, length-take, length-set, drop_of_length-le}
use lib.Seq.{get_or-take, set-get_or, take_all}
use Rattle.std.specs.Prelude.{None}
use Rattle.std.specs.declared.option.Option as O
use Rattle.std.proofs.lemmas.Option.{none-some}
use Rattle.rules.specs.Book.{Book}
use Rattle.session.specs.Bare.{bare_energies}
use Rattle.session.specs.Image.{image, Sound, no_lodgement}
use Rattle.session.specs.Parts.{Within, unit_index}
use Rattle.session.specs.declared.Session.{Session}
use Rattle.session.specs.declared.Energies.{Energies}
use Rattle.session.specs.declared.Verdict.{Verdict}
use Rattle.session.proofs.ImageLaws.{standing-as}
use Rattle.close_order.specs.Room.{Admitted}
use Rattle.close_order.proofs.FitLaws.{held, admitted-taken, admitted-left}
use Rattle.close_judge.specs.Classes.{is_taken, HoldersOf, JudgesAt, verdict_by}
use Rattle.close_judge.proofs.ClassLaws.{reached-past, reached-taken}
use Rattle.close_judge.proofs.JudgeLaws.{unit-indexed, unit-found, units-full}
use Rattle.close_order.specs.Passes.{TakesAt, ClosingAt}
use Rattle.close_order.proofs.RoomLaws.{Owns, closing_at, reached-at, kept-refused, kept-accepted, not_yet, admitted, refused}

-- the energies that are lent
pub owns : (s : Session) (i : ℕ) (es : List Energies) (own : List ℕ) → es ≡ take s.standing s.energies → own ≡ take s.hours (get_or es i bare_energies).energies → i < s.standing → length own ≡ s.hours → Owns s i own
owns s i es own e f h l = record {
  long = l;
  at = λ x m. ap (λ (k : List ℕ). get_or k x 0) f ∙ (get_or-take s.hours (get_or es i bare_energies).energies x 0 m ∙ ap (λ (k : Energies). get_or k.energies x 0) (ap (λ (k : List Energies). get_or k i bare_energies) e ∙ get_or-take s.standing s.energies i bare_energies h));
}

pub energies-full : (s : Session) (es : List Energies) → es ≡ take s.standing s.energies → length es ≡ s.standing → s.standing ≤ length s.energies
energies-full s es e l = omega (arith, ap length e, length-take s.standing s.energies)

-- a row written in the whole
pub put-back : (rows : List (List ℕ)) (p : ℕ) (row : List ℕ) → refill (length rows) rows (set rows p row) ≡ set rows p row
put-back rows p row = let e : length (set rows p row) ≡ length rows = length-set rows p row in
    rw (drop_of_length-le rows {i = length (set rows p row)} (omega (arith, e)), append-nil (set rows p row)) (take_all (length rows) (set rows p row) (omega (arith, e)))

module _ (s : Session) (class at : ℕ) (given : List Verdict) (room : List (List ℕ)) (in_List : at < s.standing) where
  abbrev pub Next : List Verdict → List (List ℕ) → Type 0
  Next vs after = (b : Book) → Sound b → s ≡ image b → ClosingAt s b class (at + 1) given room → ClosingAt s b class at vs after

  pub next-past : (t : Bool) → TakesAt s class at t → t ≡ false → Next given room
  next-past t k q b sound e a =
      closing_at (reached-past b sound.ranges.standing.rising class at given (omega (arith, standing-as s b e)) (sym (k b e) ∙ q) (reached-at a)) a.left

  -- no call leaves a lodgement without its unit
  pub next-absent : (hs : List (O.Option ℕ)) → HoldersOf s hs → get_or hs at None ≡ None → Next given room
  next-absent hs held n b sound e a = absurd (none-some _ (sym n ∙ unit-found s hs held b sound e at in_List))

  -- the room after a lodgement is taken
  module _ (t : Bool) (k : TakesAt s class at t) (q : t ≡ true) (long : at < length given) (w : Within s) (full : s.standing ≤ length s.energies) (own : List ℕ) (o : Owns s at own) (p : ℕ) (holder : p ≡ unit_index s (get_or s.lodgements at no_lodgement).key.unit) (v : Verdict) (row : List ℕ) (r : Bool) (m : Admitted own (get_or room p []) row r) where
    indexed : Admitted own (get_or room (unit_index s (get_or s.lodgements at no_lodgement).key.unit) []) row r
    indexed = rw (← holder) m

    pub next-admitted : r ≡ true → v ≡ verdict_by none → p < length room → Next (set given at v) (set room p row)
    unfolding verdict_by
    next-admitted y ev inside b sound e g =
        let x : is_taken b class at ≡ true = sym (k b e) ∙ q in
        let d = admitted-taken _ _ _ indexed y in
        let a = reached-at g in
        rw holder (closing_at
        (reached-taken b class at given v long x (admitted s given room own at in_List o g.left v ev d.0 b class sound e a x) a)
        (kept-accepted s given room row own at v long (not_yet b class at given a x) w full o in_List g.left (ap (λ (z : Verdict). z.accepted) ev) (held _ _ d.0 refl) d.1 (rw holder at inside) (units-full s b e) (unit-indexed s at in_List b sound e)))

    pub next-refused : r ≡ false → JudgesAt s given at v → Next (set given at v) (set room p row)
    next-refused y j b sound e g =
        let x : is_taken b class at ≡ true = sym (k b e) ∙ q in
        let d = admitted-left _ _ _ indexed y in
        let a = reached-at g in
        rw (holder, d.1, set-get_or room (unit_index s (get_or s.lodgements at no_lodgement).key.unit) []) (closing_at
        (reached-taken b class at given v long x (j b class sound e a x) a)
        (kept-refused s given room at v long (not_yet b class at given a x) (refused s given room own at in_List o g.left v b class j d.0 sound e a x) g.left))

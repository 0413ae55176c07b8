-- The verdict of the lodgement at an index is the book's.
use Prim.Native.Nat.{ℕ, ◌+◌, ◌<◌}
use Rattle.std.specs.Prelude.{Some, None}
use Rattle.std.specs.declared.option.Option as O
use mathlib.Core.Path.{◌≡◌, refl, sym, ap, fun_ext, ◌∙◌}
use mathlib.Core.Bool.{Bool, true, false, not, ◌&&◌}
use mathlib.Core.List.{List, map}
use mathlib.Core.Option.{Option, some, none}
use native.Mathlib.Omega.{arith}
use lib.Dec.{eqb}
use lib.ListN.{length, get_or, take, length-map, length-take}
use lib.Seq.{ext_get_or, get_or-take, take-take}
use borrow.Author.Tests.{not-true}
use Rattle.rules.specs.Lists.{keep, any, sum_of, from, hourly}
use Rattle.rules.specs.Refusals.{Row, first_row}
use Rattle.rules.specs.Units as U
use Rattle.rules.specs.Lodging as L
use Rattle.rules.specs.Book.{Book, hours, lines_of, limits_of}
use Rattle.rules.specs.Closing as C
use Rattle.rules.specs.Demands.{class_of, taken_before, verdict_of, accepted_before, energy_with}
use Rattle.rules.proofs.BoolLaws.{both}
use Rattle.rules.proofs.ListLaws.{all-at, keep-keep}
use Rattle.rules.proofs.ClosingLaws.{verdict-with}
use Rattle.session.specs.Bare.{bare_notice, bare_energies}
use Rattle.session.specs.Image.{image, Sound, unit_of, unit_as, notice_as, verdict_as, lodgement_as, energies_as, no_unit, no_lodgement}
use Rattle.session.specs.Parts.{Within, given_by, number_is, index_of}
use Rattle.session.specs.declared.Session.{Session}
use Rattle.session.specs.declared.Unit.{Unit}
use Rattle.session.specs.declared.Notice.{Notice}
use Rattle.session.specs.declared.Lodgement.{Lodgement}
use Rattle.session.specs.declared.Energies.{Energies}
use Rattle.session.specs.declared.Verdict.{Verdict}
use Rattle.session.proofs.ImageLaws.{standing-as, hours-as, enrolled-as, units-as, capacities-as, losses-as, lodgements-as, energies-as, registered-as, unit-as, notice-as, rights-at}
use Rattle.session.proofs.IndexLaws.{indexed, get_or-map}
use Rattle.judge_loads.specs.Loads.{marked, load_in, load_by}
use Rattle.close_holders.specs.Holders.{holder_of}
use Rattle.judge_limits.specs.Limits.{judged_in}
use Rattle.judge_limits.proofs.NoticeLaws.{judged-as}
use Rattle.judge_loads.proofs.MarkLaws.{load-keep}
use Rattle.judge_limits.proofs.IndexLaws.{judged-indices}
use Rattle.close_judge.specs.Classes.{beyond, standing_at, verdict_at, class_at, is_taken, Reached, HoldersOf, JudgesAt, counts_on, counts_at, held_at, verdict_by}
use Rattle.close_judge.proofs.CountLaws.{length_from, indices-at, counted-as, indices-tell, marked-same}
use Rattle.close_judge.proofs.IndexLaws.{verdict_so_far, so_far}
use Rattle.close_judge.proofs.ClassLaws.{closing-before, taken-class, verdict-at}
use Rattle.close_judge.proofs.StandingLaws.{stands, lodgement-at, energies-at, holder-at}

-- a judgement by the limits, as a verdict
told-verdict : (o : Option Row) → verdict_by (given_by o) ≡ verdict_as (C.verdict_of_row o)
unfolding verdict_by verdict_as C.verdict_of_row given_by
told-verdict none = refl
told-verdict (some r) = refl

module _ (s : Session) (b : Book) (sound : Sound b) (e : s ≡ image b) (vs : List Verdict) (class i : ℕ) (h : i < s.standing) (r : Reached b class (i + 1) vs) (t : is_taken b class i ≡ true) where
  -- the lodgement
  abbrev l : L.Lodgement
  l = standing_at b i

  of-class : class_at b i ≡ class
  of-class = taken-class b class i t

  shown : L.is_hidden b.standing l ≡ false
  unfolding is_taken
  shown = not-true _ (both (eqb (class_of l) class) (not (L.is_hidden b.standing l)) t).1

  -- "those accepted before it on its unit"
  abbrev before : L.Lodgement → Bool
  before k = C.is_accepted (verdict_of b k) && (eqb k.key.unit l.key.unit && taken_before k l)

  counts-before : (j : ℕ) → j < length b.standing → counts_at l.key.unit vs s.lodgements j ≡ before (standing_at b j)
  unfolding counts_at counts_on verdict_so_far
  counts-before j k =
      rw (so_far (class_at b) (verdict_at b) class (i + 1) vs r j, lodgement-at s b e j (omega (arith, standing-as s b e)) no_lodgement, closing-before b sound.ranges.standing.rising class i j (stands s b e i h) k of-class, verdict-at b j k)
      (counted-as (taken_before (standing_at b j) l) (verdict_of b (standing_at b j)) (eqb (standing_at b j).key.unit l.key.unit))

  -- the marks of those that are counted
  abbrev marks : List Bool
  marks = map (counts_at l.key.unit vs s.lodgements) (from 0 128)

  marks-before : take (length b.standing) marks ≡ map before b.standing
  marks-before =
      let room = sound.ranges.standing.room in
      let long : length marks ≡ 128 = length-map (from 0 128) (counts_at l.key.unit vs s.lodgements) ∙ length_from 0 128 in
      ext_get_or false (take (length b.standing) marks) (map before b.standing) (omega (arith, length-take (length b.standing) marks, length-map b.standing before))
      (λ j k.
      let in_list : j < length b.standing = omega (arith, length-take (length b.standing) marks) in
      get_or-take (length b.standing) marks j false in_list ∙ indices-at (counts_at l.key.unit vs s.lodgements) 128 false j (omega arith) ∙ counts-before j in_list
      ∙ sym (get_or-map before beyond false b.standing j in_list))

  accepted-before : keep before b.standing ≡ accepted_before b l
  unfolding accepted_before C.accepted_at verdict_of
  accepted-before = sym (keep-keep (λ k. C.is_accepted (verdict_of b k)) (λ k. eqb k.key.unit l.key.unit && taken_before k l) b.standing)

  -- "its energy, plus that of those accepted before it on its unit"
  load-with : load_in l.energies marks (take s.standing s.energies) ≡ energy_with b l
  unfolding energy_with L.energy_at
  load-with =
      fun_ext (λ h. ap (λ (es : List Energies). load_in l.energies marks es h) (energies-as s b e)
      ∙ load-keep l.energies marks b.standing h before marks-before
      ∙ ap (λ (ls : List L.Lodgement). hourly l.energies h + sum_of (λ k. hourly k.energies h) ls) accepted-before)

  -- the book's verdict, by the limits of its unit
  verdict-is : verdict_at b i ≡ C.verdict_of_row (first_row (L.limit_rows (hours b) l.energies (energy_with b l) (limits_of b l.key.unit)))
  verdict-is = verdict-at b i (stands s b e i h) ∙ all-at i beyond (verdict-with b sound.ranges.standing.rising) (stands s b e i h) shown

  -- and the code's
  judged-is : (u : Unit) (n g : Notice) (own : List ℕ) → u ≡ unit_as (U.unit_of b.units l.key.unit).unit → n ≡ notice_as (U.unit_of b.units l.key.unit).available → g ≡ notice_as (U.unit_of b.units l.key.unit).rights → own ≡ l.energies
      → verdict_by (judged_in u n g s.capacities s.losses false s.hours own (load_in own marks (take s.standing s.energies))) ≡ verdict_as (verdict_at b i)
  unfolding L.judged_by limits_of
  judged-is u n g own eu en eg eo =
      rw (eo, load-with, ← hours-as s b e, verdict-is)
      (ap verdict_by (judged-as (U.unit_of b.units l.key.unit) (lines_of b) (hours b) l.energies (energy_with b l) u n g s.capacities s.losses false eu en eg (capacities-as s b e) (sym (losses-as s b e)))
      ∙ told-verdict _)

-- The code's ways out

module _ (s : Session) (i : ℕ) (h : i < s.standing) where
  abbrev unit_here : ℕ
  unit_here = (get_or s.lodgements i no_lodgement).key.unit

  unit-here : (b : Book) → s ≡ image b → unit_here ≡ (standing_at b i).key.unit
  unit-here b e = ap (λ (l : Lodgement). l.key.unit) (lodgement-at s b e i h no_lodgement)

  -- no call leaves a lodgement without its unit
  pub unit-indexed : (b : Book) → Sound b → s ≡ image b → index_of (number_is unit_here) (take s.enrolled s.units) < s.enrolled
  unit-indexed b sound e =
      let m : any (number_is unit_here) (take s.enrolled s.units) ≡ true = sym (registered-as s b e unit_here) ∙ ap (U.is_registered b.units) (unit-here b e) ∙ (all-at i beyond sound.ranges.standing.holders (stands s b e i h)).registered in
      omega (arith, indexed (number_is unit_here) (take s.enrolled s.units) m, length-take s.enrolled s.units)

pub units-full : (s : Session) (b : Book) → s ≡ image b → length (take s.enrolled s.units) ≡ s.enrolled
units-full s b e = ap length (units-as s b e) ∙ length-map b.units unit_of ∙ enrolled-as s b e

-- the index of a lodgement's unit
pub unit-found : (s : Session) (hs : List (O.Option ℕ)) → HoldersOf s hs → (b : Book) → Sound b → s ≡ image b → (i : ℕ) → i < s.standing
    → get_or hs i None ≡ Some (index_of (number_is (get_or s.lodgements i no_lodgement).key.unit) (take s.enrolled s.units))
unit-found s hs held b sound e i h = holder-at s hs held i b e h (omega (arith, unit-indexed s i h b sound e, units-full s b e))

module _ (s : Session) (vs : List Verdict) (i : ℕ) (h : i < s.standing) (p : ℕ) (at : p ≡ index_of (number_is (get_or s.lodgements i no_lodgement).key.unit) (take s.enrolled s.units)) where
  abbrev number_here : ℕ
  number_here = (get_or s.lodgements i no_lodgement).key.unit

  abbrev own_here : List ℕ
  own_here = (get_or s.energies i bare_energies).energies

  pub judge-given : (ms : List Bool) (j : Option (ℕ × ℕ)) (v : Verdict) → p < s.enrolled
      → ms ≡ map (counts_at number_here vs s.lodgements) (from 0 128)
      → j ≡ judged_in (get_or s.units p no_unit) (get_or s.notices p bare_notice) (get_or s.rights p bare_notice) s.capacities s.losses false s.hours own_here (load_in own_here ms (take s.standing s.energies))
      → v ≡ verdict_by j → JudgesAt s vs i v
  judge-given ms j v k em ej ev b class sound e r t =
      let q = unit-here s i h b e in
      let here : p ≡ index_of (number_is (standing_at b i).key.unit) (take s.enrolled s.units) = rw q at at in
      ev ∙ ap verdict_by ej ∙ rw (em, q)
      (judged-is s b sound e vs class i h r t (get_or s.units p no_unit) (get_or s.notices p bare_notice) (get_or s.rights p bare_notice) own_here
      (unit-as s b e (standing_at b i).key.unit p here k no_unit) (notice-as s b e (standing_at b i).key.unit p here k bare_notice) (rights-at s b e (standing_at b i).key.unit p here k bare_notice) (ap (λ (x : Energies). x.energies) (energies-at s b e i h bare_energies)))

  -- one counts by the index of its unit as by the unit's number
  held-counts : (hs : List (O.Option ℕ)) → Within s → HoldersOf s hs → (b : Book) → Sound b → s ≡ image b → (x : ℕ) → x < s.standing → held_at p vs hs x ≡ counts_at number_here vs s.lodgements x
  unfolding held_at counts_at counts_on
  held-counts hs w held b sound e x l =
      rw (unit-found s hs held b sound e x l, at, indices-tell (take s.enrolled s.units) number_here (get_or s.lodgements x no_lodgement).key.unit (omega (arith, at, unit-indexed s i h b sound e, units-full s b e)))

  -- by the indices of those that are accepted on the unit
  pub judge-held : (hs : List (O.Option ℕ)) (ps : List ℕ) (es : List Energies) (j : Option (ℕ × ℕ)) (v : Verdict) → Within s → HoldersOf s hs
      → ps ≡ marked (map (held_at p vs hs) (from 0 128)) (from 0 (length hs))
      → es ≡ take s.standing s.energies
      → j ≡ judged_in (get_or s.units p no_unit) (get_or s.notices p bare_notice) (get_or s.rights p bare_notice) s.capacities s.losses false s.hours (get_or es i bare_energies).energies (load_by (get_or es i bare_energies).energies es ps)
      → v ≡ verdict_by j → JudgesAt s vs i v
  judge-held hs ps es j v w held ep ee ej ev b class sound e r t =
      judge-given counts j v indexed refl
      ((rw (ee, get_or-take s.standing s.energies i bare_energies h) at ej)
      ∙ judged-indices (get_or s.units p no_unit) (get_or s.notices p bare_notice) (get_or s.rights p bare_notice) s.capacities s.losses false s.hours own_here ps counts s.standing (take s.standing s.energies) (omega (arith, energies-full)) (ep ∙ same)
      ∙ ap (λ es. judged_in (get_or s.units p no_unit) (get_or s.notices p bare_notice) (get_or s.rights p bare_notice) s.capacities s.losses false s.hours own_here (load_in own_here counts es)) (take-take s.standing s.standing s.energies (omega arith)))
      ev b class sound e r t
    where
      counts : List Bool
      counts = map (counts_at number_here vs s.lodgements) (from 0 128)

      indexed : p < s.enrolled
      indexed = omega (arith, at, unit-indexed s i h b sound e)

      energies-full : length (take s.standing s.energies) ≡ s.standing
      energies-full = ap length (energies-as s b e) ∙ length-map b.standing energies_as ∙ standing-as s b e

      lodgements-full : length hs ≡ s.standing
      lodgements-full =
          ap length held ∙ length-map (take s.standing s.lodgements) (holder_of (take s.enrolled s.units)) ∙ ap length (lodgements-as s b e) ∙ length-map b.standing lodgement_as ∙ standing-as s b e

      same : marked (map (held_at p vs hs) (from 0 128)) (from 0 (length hs)) ≡ marked counts (from 0 s.standing)
      same = rw lodgements-full (marked-same (map (held_at p vs hs) (from 0 128)) counts (from 0 s.standing)
          (length-map (from 0 128) (held_at p vs hs) ∙ sym (length-map (from 0 128) (counts_at number_here vs s.lodgements)))
          (λ x l. let m : x < s.standing = omega (arith, length_from 0 s.standing) in
          indices-at (held_at p vs hs) 128 false x (omega (arith, w.standing)) ∙ held-counts hs w held b sound e x m ∙ sym (indices-at (counts_at number_here vs s.lodgements) 128 false x (omega (arith, w.standing)))))

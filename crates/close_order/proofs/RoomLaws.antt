-- The room under the ceilings, as verdicts are given.
use Prim.Native.Nat.{ℕ, suc, ◌+◌, ◌-◌, ◌≤◌, ◌<◌}
use mathlib.Core.Path.{◌≡◌, refl, sym, ap, subst, ◌∙◌}
use mathlib.Core.Bool.{Bool, true, false}
use mathlib.Core.List.{List, [], map}
use native.Mathlib.Omega.{arith}
use lib.Dec.{eqb}
use lib.ListN.{length, get_or, set, take, replicate, length-map, length-set, length-replicate, get_or-replicate}
use lib.Seq.{ext_get_or, get_or-take, get_or-set_same, get_or-set_other, length-take-le}
use borrow.Author.Tests.{eqb-true, eqb-false, eq-eqb}
use Rattle.rules.specs.Lists.{from, sum, sum_of}
use Rattle.rules.specs.Book.{Book}
use Rattle.rules.proofs.BoolLaws.{by_bool}
use Rattle.rules.proofs.ListLaws.{hourly-suc}
use Rattle.session.specs.Bare.{bare_notice, bare_energies}
use Rattle.session.specs.Image.{image, Sound, no_unit, no_verdict, no_lodgement}
use Rattle.session.specs.Parts.{Within, unit_index}
use Rattle.session.specs.declared.Lodgement.{Lodgement}
use Rattle.session.specs.declared.Energies.{Energies}
use Rattle.session.specs.declared.Verdict.{Verdict}
use mathlib.Core.Option.{Option, none}
use Rattle.session.specs.declared.Session.{Session}
use Rattle.judge_loads.specs.Loads.{marked, energy_in, load_in}
use Rattle.judge_loads.proofs.MarkLaws.{sum-mark, marked-nothing}
use Rattle.judge_limits.specs.Limits.{judged_in}
use Rattle.close_ceilings.specs.Ceilings.{ceiling_at, CeilingsOf}
use Rattle.close_ceilings.proofs.JudgedLaws.{Refuses, refuses, judged-under, judged-over}
use Rattle.close_order.specs.Room.{Fits, lacks, Left}
use Rattle.close_order.proofs.FitLaws.{held}
use Rattle.close_judge.specs.Classes.{verdict_at, class_at, is_taken, Reached, JudgesAt, counts_on, counts_at, verdict_by}
use Rattle.close_judge.proofs.CountLaws.{length_from, indices-at, indices-differ}
use Rattle.close_judge.proofs.IndexLaws.{by-not-yet}
use Rattle.close_judge.proofs.ClassLaws.{taken-class}
use Rattle.close_judge.proofs.JudgeLaws.{unit-indexed, judge-given}
use Rattle.close_order.specs.Passes.{room_on, accepted_on, ceiling_on, ClosingAt}

-- A closing that stands somewhere: its verdicts, and the room that they leave

abbrev pub Kept : Session → List Verdict → List (List ℕ) → Type 0
Kept s vs room = (unit h : ℕ) → unit_index s unit < s.enrolled → h < s.hours → room_on s room unit h + accepted_on s vs unit h ≡ ceiling_on s unit h

module _ {s : Session} {b : Book} {class i : ℕ} {vs : List Verdict} {room : List (List ℕ)} where
  pub closing_at : Reached b class i vs → Kept s vs room → ClosingAt s b class i vs room
  closing_at r k = record { passed = r.passed; waiting = r.waiting; left = k }

  pub reached-at : ClosingAt s b class i vs room → Reached b class i vs
  reached-at a = record { passed = a.passed; waiting = a.waiting }

-- Marks of what is accepted on a unit

module _ (ls : List Lodgement) (unit : ℕ) where
  abbrev marks : List Verdict → List Bool
  marks vs = map (counts_at unit vs ls) (from 0 128)

  marks-length : (vs : List Verdict) → length (marks vs) ≡ 128
  marks-length vs = length-map (from 0 128) (counts_at unit vs ls) ∙ length_from 0 128

  marks-at : (vs : List Verdict) (j : ℕ) → j < 128 → get_or (marks vs) j false ≡ counts_at unit vs ls j
  marks-at vs j h = indices-at (counts_at unit vs ls) 128 false j h

  module _ (vs : List Verdict) (i : ℕ) (v : Verdict) (h : i < length vs) where
    counts-here : counts_at unit (set vs i v) ls i ≡ counts_on unit v (get_or ls i no_lodgement)
    unfolding counts_at
    counts-here = ap (λ x. counts_on unit x (get_or ls i no_lodgement)) (get_or-set_same vs i v no_verdict h)

    counts-other : (j : ℕ) → (j ≡ i → ⊥) → counts_at unit (set vs i v) ls j ≡ counts_at unit vs ls j
    unfolding counts_at
    counts-other j n = ap (λ x. counts_on unit x (get_or ls j no_lodgement)) (get_or-set_other vs i j v no_verdict n)

    -- one more counts
    marks-more : i < 128 → counts_on unit v (get_or ls i no_lodgement) ≡ true → marks (set vs i v) ≡ set (marks vs) i true
    marks-more k e =
        ext_get_or false (marks (set vs i v)) (set (marks vs) i true) (marks-length (set vs i v) ∙ sym (marks-length vs) ∙ sym (simp length-set))
        (λ j m. let in_List : j < 128 = omega (arith, marks-length (set vs i v)) in
        marks-at (set vs i v) j in_List ∙ by_bool (eqb j i)
        (λ t. let q = eqb-true j i t in rw (q, get_or-set_same (marks vs) i true false (omega (arith, marks-length vs))) (counts-here ∙ e))
        (λ t. counts-other j (eqb-false j i t) ∙ sym (get_or-set_other (marks vs) i j true false (eqb-false j i t) ∙ marks-at vs j in_List)))

    -- one that counts neither before nor after
    marks-same : counts_on unit v (get_or ls i no_lodgement) ≡ false → counts_at unit vs ls i ≡ false → marks (set vs i v) ≡ marks vs
    marks-same e f =
        ext_get_or false (marks (set vs i v)) (marks vs) (marks-length (set vs i v) ∙ sym (marks-length vs))
        (λ j m. let in_List : j < 128 = omega (arith, marks-length (set vs i v)) in
        marks-at (set vs i v) j in_List ∙ by_bool (eqb j i)
        (λ t. let q = eqb-true j i t in rw q (counts-here ∙ e ∙ sym f))
        (λ t. counts-other j (eqb-false j i t)) ∙ sym (marks-at vs j in_List))

-- What is accepted, when a verdict is given

module _ (s : Session) (vs : List Verdict) (i : ℕ) (v : Verdict) (h : i < length vs) (blank : (get_or vs i no_verdict).accepted ≡ false) where
  uncounted : (unit : ℕ) → counts_at unit vs s.lodgements i ≡ false
  unfolding counts_at counts_on
  uncounted unit = rw blank

  used-same : (unit x : ℕ) → counts_on unit v (get_or s.lodgements i no_lodgement) ≡ false → accepted_on s (set vs i v) unit x ≡ accepted_on s vs unit x
  unfolding accepted_on
  used-same unit x e = ap (λ ms. sum_of (energy_in (suc x)) (marked ms (take s.standing s.energies))) (marks-same s.lodgements unit vs i v h e (uncounted unit))

  module _ (w : s.standing ≤ 128) (room : s.standing ≤ length s.energies) (in_List : i < s.standing) where
    energy-here : (x : ℕ) → energy_in (suc x) (get_or (take s.standing s.energies) i bare_energies) ≡ get_or (get_or s.energies i bare_energies).energies x 0
    energy-here x = hourly-suc (get_or (take s.standing s.energies) i bare_energies).energies x ∙ ap (λ (e : Energies). get_or e.energies x 0) (get_or-take s.standing s.energies i bare_energies in_List)

    used-more : (unit x : ℕ) → counts_on unit v (get_or s.lodgements i no_lodgement) ≡ true
        → accepted_on s (set vs i v) unit x ≡ get_or (get_or s.energies i bare_energies).energies x 0 + accepted_on s vs unit x
    unfolding accepted_on
    used-more unit x e =
        ap (λ ms. sum_of (energy_in (suc x)) (marked ms (take s.standing s.energies))) (marks-more s.lodgements unit vs i v h (omega arith) e)
        ∙ sum-mark (energy_in (suc x)) (marks s.lodgements unit vs) (take s.standing s.energies) i bare_energies (omega (arith, marks-length s.lodgements unit vs))
        (omega (arith, length-take-le s.standing s.energies room)) (marks-at s.lodgements unit vs i (omega arith) ∙ uncounted unit)
        ∙ ap (λ n. n + sum_of (energy_in (suc x)) (marked (marks s.lodgements unit vs) (take s.standing s.energies))) (energy-here x)

-- The room, when a verdict is given

-- a refusal takes nothing
pub kept-refused : (s : Session) (vs : List Verdict) (room : List (List ℕ)) (i : ℕ) (v : Verdict) → i < length vs → (get_or vs i no_verdict).accepted ≡ false → v.accepted ≡ false
    → Kept s vs room → Kept s (set vs i v) room
unfolding counts_on
kept-refused s vs room i v h blank e k = λ unit x p m. rw (used-same s vs i v h blank unit x (rw e)) (k unit x p m)

-- the energies of a lodgement in the hours of the day
pub record Owns (s : Session) (i : ℕ) (own : List ℕ) : Type 0 where
  pub long : length own ≡ s.hours
  pub at : (x : ℕ) → x < s.hours → get_or own x 0 ≡ get_or (get_or s.energies i bare_energies).energies x 0

-- what is accepted takes its energies
module _ (s : Session) (vs : List Verdict) (room : List (List ℕ)) (row own : List ℕ) (i : ℕ) (v : Verdict) (h : i < length vs) (blank : (get_or vs i no_verdict).accepted ≡ false) (w : Within s) (full : s.standing ≤ length s.energies) (owns : Owns s i own) (in_List : i < s.standing) (k : Kept s vs room) (yes : v.accepted ≡ true) where
  abbrev unit_here : ℕ
  unit_here = (get_or s.lodgements i no_lodgement).key.unit

  abbrev place : ℕ
  place = unit_index s unit_here

  module _ (f : (x : ℕ) → x < length own → get_or own x 0 ≤ get_or (get_or room place []) x 0) (r : Left own (get_or room place []) row) (inside : place < length room) where
    -- on its own unit
    left_here : (x : ℕ) → x < s.hours → place < s.enrolled → room_on s (set room place row) unit_here x + accepted_on s (set vs i v) unit_here x ≡ ceiling_at s.units s.notices s.rights s.capacities s.losses place x
    unfolding counts_on
    left_here x m p =
        let used = used-more s vs i v h blank w.standing full in_List unit_here x (rw (yes, eq-eqb unit_here unit_here refl)) in
        let q : x < length own = omega (arith, owns.long) in
        rw (get_or-set_same room place row [] inside) (omega (arith, r.named x q, used, owns.at x m, f x q, k unit_here x p m))

    module _ (whole : length (take s.enrolled s.units) ≡ s.enrolled) (q : place < s.enrolled) where
      left_other : (unit x : ℕ) → eqb unit_here unit ≡ false → unit_index s unit < s.enrolled → x < s.hours
          → room_on s (set room place row) unit x + accepted_on s (set vs i v) unit x ≡ ceiling_at s.units s.notices s.rights s.capacities s.losses (unit_index s unit) x
      unfolding counts_on
      left_other unit x e p m =
          let other : unit_index s unit ≡ place → ⊥ = λ z. eqb-false unit_here unit e (sym (indices-differ (take s.enrolled s.units) unit_here unit (omega arith) z)) in
          rw (get_or-set_other room place (unit_index s unit) row [] other, used-same s vs i v h blank unit x (rw (yes, e))) (k unit x p m)

      pub kept-accepted : Kept s (set vs i v) (set room place row)
      kept-accepted = λ unit x p m.
          by_bool (eqb unit_here unit)
          (λ t. subst (λ u. unit_index s u < s.enrolled → room_on s (set room place row) u x + accepted_on s (set vs i v) u x ≡ ceiling_at s.units s.notices s.rights s.capacities s.losses (unit_index s u) x) (eqb-true unit_here unit t) (left_here x m) p)
          (λ t. left_other unit x t p m)

-- nothing is accepted at the start
marks-none : (ls : List Lodgement) (unit : ℕ) → marks ls unit (replicate 128 no_verdict) ≡ replicate 128 false
unfolding counts_at counts_on
marks-none ls unit =
    ext_get_or false (marks ls unit (replicate 128 no_verdict)) (replicate 128 false) (marks-length ls unit (replicate 128 no_verdict) ∙ sym (length-replicate 128 false))
    (λ j m. let in_List : j < 128 = omega (arith, marks-length ls unit (replicate 128 no_verdict)) in
    marks-at ls unit (replicate 128 no_verdict) j in_List ∙ rw (get_or-replicate 128 j no_verdict no_verdict in_List, get_or-replicate 128 j false false in_List))

kept-start : (s : Session) (blank : Verdict) (room : List (List ℕ)) → Within s → blank ≡ no_verdict
    → ((p h : ℕ) → p < s.enrolled → h < 25 → get_or (get_or room p []) h 0 ≡ ceiling_at s.units s.notices s.rights s.capacities s.losses p h) → Kept s (replicate 128 blank) room
unfolding accepted_on sum_of sum
kept-start s blank room w e f = λ unit x p m.
    rw (e, marks-none s.lodgements unit, marked-nothing 128 (take s.standing s.energies)) (omega (arith, f (unit_index s unit) x p (omega (arith, w.hours))))

pub kept-of : (s : Session) (blank : Verdict) (room : List (List ℕ)) → Within s → blank ≡ no_verdict → length (take s.enrolled s.units) ≡ s.enrolled
    → CeilingsOf (take s.enrolled s.units) (take s.enrolled s.notices) (take s.enrolled s.rights) s.capacities s.losses room → Kept s (replicate 128 blank) room
unfolding ceiling_at
kept-of s blank room w e l f =
    kept-start s blank room w e
    (λ p h i k. f p h (omega (arith, l)) k ∙ rw (get_or-take s.enrolled s.units p no_unit i, get_or-take s.enrolled s.notices p bare_notice i, get_or-take s.enrolled s.rights p bare_notice i))

-- an index that is taken has no verdict yet
pub not_yet : (b : Book) (class i : ℕ) (vs : List Verdict) → Reached b class (i + 1) vs → is_taken b class i ≡ true → (get_or vs i no_verdict).accepted ≡ false
not_yet b class i vs r t = ap (λ (v : Verdict). v.accepted) (by-not-yet (class_at b) (verdict_at b) class i vs r (taken-class b class i t))

-- What the room says of a lodgement

refused-verdict : {j : Option (ℕ × ℕ)} → Refuses j → (verdict_by j).accepted ≡ false
unfolding verdict_by
refused-verdict (refuses r) = refl

module _ (s : Session) (vs : List Verdict) (room : List (List ℕ)) (row : List ℕ) (i : ℕ) (h : i < s.standing) (owns : Owns s i row) (k : Kept s vs room) where
  abbrev holder : ℕ
  holder = (get_or s.lodgements i no_lodgement).key.unit

  abbrev own : List ℕ
  own = (get_or s.energies i bare_energies).energies

  abbrev load : ℕ → ℕ
  load = load_in own (marks s.lodgements holder vs) (take s.standing s.energies)

  abbrev judged : Option (ℕ × ℕ)
  judged = judged_in (get_or s.units (unit_index s holder) no_unit) (get_or s.notices (unit_index s holder) bare_notice) (get_or s.rights (unit_index s holder) bare_notice) s.capacities s.losses false s.hours own load

  load_is : (x : ℕ) → load (suc x) ≡ get_or own x 0 + accepted_on s vs holder x
  unfolding load_in accepted_on
  load_is x = ap (λ n. n + sum_of (energy_in (suc x)) (marked (marks s.lodgements holder vs) (take s.standing s.energies))) (hourly-suc own x)

  module _ (q : unit_index s holder < s.enrolled) where
    judged-fits : ((x : ℕ) → x < length row → get_or row x 0 ≤ get_or (get_or room (unit_index s holder) []) x 0) → judged ≡ none
    unfolding ceiling_at
    judged-fits f =
        judged-under (get_or s.units (unit_index s holder) no_unit) (get_or s.notices (unit_index s holder) bare_notice) (get_or s.rights (unit_index s holder) bare_notice) s.capacities s.losses s.hours own load
        (λ x a b. let e : suc (x - 1) ≡ x = omega arith in rw e at (under (x - 1) (omega arith)))
      where
        under : (x : ℕ) → x < s.hours → load (suc x) ≤ ceiling_at s.units s.notices s.rights s.capacities s.losses (unit_index s holder) x
        under x m = omega (arith, load_is x, owns.at x m, f x (omega (arith, owns.long)), k holder x q m)

    judged-lacks : (x : ℕ) → x < length row → get_or (get_or room (unit_index s holder) []) x 0 < get_or row x 0 → Refuses judged
    unfolding ceiling_at
    judged-lacks x n l =
        let m : x < s.hours = omega (arith, owns.long) in
        let own_is = owns.at x m in
        judged-over (get_or s.units (unit_index s holder) no_unit) (get_or s.notices (unit_index s holder) bare_notice) (get_or s.rights (unit_index s holder) bare_notice) s.capacities s.losses s.hours own load (suc x) (omega arith) m
        (λ z. absurd (omega (arith, hourly-suc own x))) (omega (arith, load_is x, k holder x q m))

  -- what the room holds is accepted
  pub admitted : (v : Verdict) → v ≡ verdict_by none → Fits (get_or room (unit_index s holder) []) row true → JudgesAt s vs i v
  admitted v e f b class sound x r t =
      let q = unit-indexed s i h b sound x in
      judge-given s vs i h (unit_index s holder) refl (marks s.lodgements holder vs) none v q refl (sym (judged-fits q (held (get_or room (unit_index s holder) []) row f refl))) e b class sound x r t

  -- and another is not
  pub refused : (v : Verdict) (b : Book) (class : ℕ) → JudgesAt s vs i v → Fits (get_or room (unit_index s holder) []) row false → Sound b → s ≡ image b → Reached b class (i + 1) vs → is_taken b class i ≡ true → v.accepted ≡ false
  refused v b class g (lacks y m l) sound x r t =
      let q = unit-indexed s i h b sound x in
      let z = judge-given s vs i h (unit_index s holder) refl (marks s.lodgements holder vs) judged (verdict_by judged) q refl refl refl b class sound x r t in
      ap (λ (d : Verdict). d.accepted) (g b class sound x r t ∙ sym z) ∙ refused-verdict (judged-lacks q y m l)

-- Closing: a lodgement is refused exactly when its energy with that accepted before it passes the ceiling, and what is accepted keeps within it.
use Prim.Native.Nat.{ℕ, ◌+◌, ◌≤◌, zero-le}
use mathlib.Core.Path.{◌≡◌, ap, sym, ◌∙◌, fun_ext}
use mathlib.Core.Logic.{◌↔◌}
use mathlib.Core.Bool.{true, false, cond, not}
use mathlib.Core.List.{List}
use native.Mathlib.Omega.{arith}
use lib.Dec.{eqb}
use borrow.Author.Tests.{eqb-true}
use Rattle.rules.specs.Lists.{All, keep, sum_of}
use Rattle.rules.specs.Refusals.{first_row}
use Rattle.rules.specs.Lodging.{Lodgement, energy_at, is_hidden, unhidden, limit_rows}
use Rattle.rules.specs.Book.{Book, hours, limits_of, ceiling_of}
use Rattle.rules.specs.Judging.{Verdict, hidden, limit, is_accepted, verdict_of_row, class_by}
use Rattle.rules.specs.Closing.{closing_classes, closing_order, load_at, judge, judgements, accepted_at}
use Rattle.rules.specs.Sound.{Numbered}
use Rattle.rules.specs.Demands.{verdict_of, class_of, taken_before, accepted_before, energy_with, Passes, ChosenAt, Judgement}
use Rattle.rules.proofs.BoolLaws.{by_bool}
use Rattle.rules.proofs.ListLaws.{all_map}
use Rattle.rules.proofs.ElementLaws.{all_both, all-every}
use Rattle.rules.proofs.LimitLaws.{verdict-shown, refused-exactly, accepted-under, refused-chosen}
use Rattle.rules.proofs.JudgingLaws.{Placed, Fits, hidden-verdicts, all_placed, within-top}
use Rattle.rules.proofs.CeilingLaws.{over-ceiling}

-- "normal executions, default executions, offers": the classes by number
pub class-is : (l : Lodgement) → class_of l ≡ cond l.key.execution (cond l.key.default 1 0) 2
unfolding class_of class_by closing_classes
class-is l = by_bool l.key.execution (λ e. by_bool l.key.default (λ d. rw (e, d)) (λ d. rw (e, d))) (λ e. rw e)

-- the energy in an hour of those of a unit
abbrev pub energy_on : ℕ → ℕ → List Lodgement → ℕ
energy_on u h ls = sum_of (λ k. energy_at k h) (keep (λ k. eqb k.key.unit u) ls)

module _ (b : Book) (numbered : Numbered b.standing) where
  -- the verdict by a unit's limits and a load
  abbrev verdict_by : Lodgement → (ℕ → ℕ) → Verdict
  verdict_by l load = verdict_of_row (first_row (limit_rows (hours b) l.energies load (limits_of b l.key.unit)))

  -- one that was taken is judged by its energy with that accepted before it on its unit
  placed-with : (l : Lodgement) → Placed (λ l. l.number) (judge b) closing_classes (λ l. not (is_hidden b.standing l)) b.standing numbered l
      → verdict_of b l ≡ verdict_by l (energy_with b l)
  unfolding verdict_of judgements closing_order unhidden judge load_at energy_with accepted_before taken_before accepted_at
  placed-with l t =
      t.verdict ∙ ap (verdict_by l) (fun_ext (λ h. ap (λ n. energy_at l h + n) (t.sums (λ k. energy_at k h) (λ k. eqb k.key.unit l.key.unit))))

  -- an unhidden one's verdict is that of its limits against its energy with that accepted before it on its unit
  pub verdict-with : All (λ l. is_hidden b.standing l ≡ false → verdict_of b l ≡ verdict_by l (energy_with b l)) b.standing
  verdict-with = all_map (λ l t e. placed-with l (t (ap not e))) (all_placed (λ l. l.number) (judge b) closing_classes (λ l. not (is_hidden b.standing l)) b.standing numbered)

  -- a hidden one's is hidden
  hidden-with : All (λ l. is_hidden b.standing l ≡ true → verdict_of b l ≡ hidden) b.standing
  unfolding verdict_of judgements closing_order unhidden
  hidden-with = all_map (λ l t e. t (ap not e)) (hidden-verdicts (λ l. l.number) (judge b) closing_classes (λ l. not (is_hidden b.standing l)) b.standing numbered)

  module _ (l : Lodgement) (t : is_hidden b.standing l ≡ false → verdict_of b l ≡ verdict_by l (energy_with b l)) (k : is_hidden b.standing l ≡ true → verdict_of b l ≡ hidden) where
    -- it is refused exactly when it passes the ceiling
    exactly : is_hidden b.standing l ≡ false → (is_accepted (verdict_of b l) ≡ false) ↔ ((h : ℕ) × Passes b l h)
    exactly e =
        let x = refused-exactly (hours b) l.energies (energy_with b l) (ceiling_of b l.key.unit) (limits_of b l.key.unit) (over-ceiling b l.key.unit) in
        ((λ q. x.0 (ap is_accepted (sym (t e)) ∙ q)), (λ q. ap is_accepted (t e) ∙ x.1 q))

    -- by the first limit passed, in its lowest hour; no hidden one has a limit
    chosen : (n h : ℕ) → verdict_of b l ≡ limit n h → ChosenAt b l n h
    chosen n h q =
        by_bool (is_hidden b.standing l) (λ e. let y = k e in let z : ◌≡◌ {A = ℕ} 0 1 = cc in absurd (omega arith))
        (λ e. refused-chosen (hours b) l.energies (energy_with b l) (limits_of b l.key.unit) n h (sym (t e) ∙ q))

    shown : verdict_of b l ≡ hidden → is_hidden b.standing l ≡ true
    shown q = by_bool (is_hidden b.standing l) (λ e. e) (λ e. absurd (verdict-shown _ (sym (t e) ∙ q)))

    judgement : Judgement b l
    judgement = record { exactly = exactly; chosen = chosen; hiding = (shown, k) }

  -- closing gives each standing lodgement its verdict as demand 3 says
  pub closing-exactly : All (Judgement b) b.standing
  closing-exactly = all_both judgement verdict-with hidden-with

  -- an accepted one keeps within the ceiling of its unit, with those before it
  fits : (u h : ℕ) → 1 ≤ h → h ≤ hours b → (x : Lodgement) → Fits (λ l. l.number) (judge b) (λ k. energy_at k h) (λ k. eqb k.key.unit u) 0 (ceiling_of b u h) x
  unfolding judge load_at energy_at
  fits u h low high x before a e n =
      let q : x.key.unit ≡ u = eqb-true _ _ e in
      let w = accepted-under (hours b) x.energies (load_at before x) (ceiling_of b x.key.unit) (limits_of b x.key.unit) (over-ceiling b x.key.unit) a h low high n in
      omega (arith, w, ap (λ v. energy_on v h before) q, ap (λ v. ceiling_of b v h) q)

  -- "no unit's energy passes its ceiling": in each hour the energies of a unit's accepted lodgements sum to at most its ceiling
  pub accepted-within : (u h : ℕ) → 1 ≤ h → h ≤ hours b → energy_on u h (accepted_at b) ≤ ceiling_of b u h
  unfolding accepted_at judgements closing_order unhidden
  accepted-within u h low high =
      omega (
        arith,
        within-top (λ l. l.number) (judge b) closing_classes (λ l. not (is_hidden b.standing l)) b.standing numbered
            (λ k. energy_at k h) (λ k. eqb k.key.unit u) 0 (ceiling_of b u h) (all-every (fits u h low high) b.standing) zero-le,
      )

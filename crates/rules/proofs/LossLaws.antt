-- When a loss is accepted; after every list of calls a border's loss is the last that was, and exports alone count by it; where all are 0 no unit has one.
use Prim.Native.Nat.{ℕ, zero, suc, ◌≤◌, ◌<◌}
use mathlib.Core.Path.{◌≡◌, refl, ap, sym, ◌∙◌}
use mathlib.Core.Bool.{true, false, cond, beq}
use mathlib.Core.List.{List, [], ◌∷◌}
use mathlib.Core.Option.{Option, some, none as nothing}
use native.Mathlib.Omega.{arith}
use lib.Dec.{eqb, ltb}
use lib.ListN.{length, get_or, set, replicate}
use lib.Seq.{get_or-set_same, get_or-set_other}
use borrow.Author.Tests.{ltb-true, ltb-false, le-ltb, ne_eqb, eqb-true, eqb-false}
use Rattle.rules.specs.Refusals.{Row, row, first_row}
use Rattle.rules.specs.Hours.{Date}
use Rattle.rules.specs.Units.{TradingUnit, bad_loss, loss_of, unit_loss, unit_of}
use Rattle.rules.specs.Book.{Book, fresh}
use Rattle.rules.specs.Borders.{runs}
use Rattle.rules.specs.Clearing.{holder_of}
use Rattle.rules.specs.DayBook.{Call, register, capacity, available, rights, loss, lodge, annul, close, clear, change_row, gate_row, call_rows, rows_of, with_units, with_capacities, with_standing, with_stage, with_losses, applied, effect_of, effect, after, opening}
use Rattle.rules.specs.Sound.{Sound}
use Rattle.rules.specs.Demands.{opened}
use Rattle.rules.specs.Rights.{unless_refused}
use Rattle.rules.specs.Losses.{LossAccepted, loss_after, last_loss, LossesLast, LodgementsCounted}
use Rattle.rules.proofs.BoolLaws.{by_bool, neither, of-neither, both, beq-true}
use Rattle.rules.proofs.ListLaws.{all_head, all_tail}
use Rattle.rules.proofs.RefusalLaws.{accepted-rows}
use Rattle.rules.proofs.CrossingLaws.{at-loss, plain-at}
use Rattle.rules.proofs.BookLaws.{effect-sound, opening-fresh, opening-sound, sound-after}

-- "Each border 1 to 4 gets a loss l, 0 to 2,000 [..] set before closing"
pub loss-accepted : LossAccepted
unfolding rows_of gate_row change_row call_rows row bad_loss first_row
loss-accepted b border l = (
  (λ h. let a = accepted-rows (rows_of b (loss border l)) h in
      let k = neither _ _ (all_head (all_tail a)) in
      let n = neither _ _ k.0 in
      (all_head a, some-border (eqb-false border 0 n.0), ltb-false 4 border n.1, ltb-false 2000 l k.1)),
  (λ h. rw (h.0, of-neither (of-neither (ne_eqb border 0 (λ z. omega (arith, h.1))) (le-ltb 4 border h.2)) (le-ltb 2000 l h.3)) refl),
)
  where
    some-border : {n : ℕ} → (n ≡ 0 → ⊥) → 1 ≤ n
    some-border {n} f = by_bool (ltb 0 n) (λ t. omega (arith, ltb-true 0 n t)) (λ t. absurd (f (omega (arith, ltb-false 0 n t))))

zeros : (n i : ℕ) → get_or {A = ℕ} (replicate n 0) i 0 ≡ 0
zeros zero i = refl
zeros (suc n) zero = refl
zeros (suc n) (suc i) = zeros n i

-- a border's loss after one was set
set-loss : (losses : List ℕ) (k l border : ℕ) → k < length losses → loss_of (set losses k l) border ≡ cond (eqb k border) l (loss_of losses border)
unfolding loss_of
set-loss losses k l border h =
    by_bool (eqb k border)
    (λ e. rw (e, ← eqb-true k border e) (get_or-set_same losses k l 0 h))
    (λ e. rw e (get_or-set_other losses k border l 0 (λ q. eqb-false k border e (sym q))))

module _ (border : ℕ) where
  -- an accepted call
  applied-loss : (b : Book) (c : Call) → Sound b → first_row (rows_of b c) ≡ nothing → loss_of (applied b c).losses border ≡ loss_after border c (loss_of b.losses border)
  unfolding applied loss_after with_units with_capacities with_standing with_stage with_losses rows_of call_rows row bad_loss
  applied-loss b (loss k l) s h =
      let a = neither _ _ (all_head (all_tail (accepted-rows (rows_of b (loss k l)) h))) in
      set-loss b.losses k l border (omega (arith, ltb-false 4 k (neither _ _ a.0).1, s.losses.count))
  applied-loss b (register u) s h = refl
  applied-loss b (capacity cs) s h = refl
  applied-loss b (available n es) s h = refl
  applied-loss b (rights agent purchase es) s h = refl
  applied-loss b (lodge bytes) s h = refl
  applied-loss b (annul k) s h = refl
  applied-loss b close s h = refl
  applied-loss b clear s h = refl

  -- any call, and every list
  effect-loss : (b : Book) (c : Call) → Sound b
      → loss_of (effect b c).book.losses border ≡ unless_refused (first_row (rows_of b c)) (loss_after border c (loss_of b.losses border)) (loss_of b.losses border)
  unfolding effect effect_of unless_refused
  effect-loss b c s = go (first_row (rows_of b c)) refl
    where
      go : (r : Option Row) → first_row (rows_of b c) ≡ r
          → loss_of (effect_of b c r).book.losses border ≡ unless_refused r (loss_after border c (loss_of b.losses border)) (loss_of b.losses border)
      go nothing e = applied-loss b c s e
      go (some r) e = refl

  after-loss : (b : Book) (cs : List Call) → Sound b → loss_of (after b cs).losses border ≡ last_loss border b cs (loss_of b.losses border)
  unfolding after last_loss
  after-loss b [] s = refl
  after-loss b (c ∷ cs) s = after-loss (effect b c).book cs (effect-sound b c s) ∙ ap (last_loss border (effect b c).book cs) (effect-loss b c s)

  -- "it starts at 0"
  opening-loss : (d : Date) → loss_of (opening d).book.losses border ≡ 0
  unfolding loss_of fresh
  opening-loss d = rw (opening-fresh d).2 (zeros 5 border)

pub losses-last : LossesLast
losses-last d cs border = after-loss border (opening d).book cs (opening-sound d) ∙ ap (last_loss border (opening d).book cs) (opening-loss border d)

-- a purchase unit has the loss of its border, a sale unit none
purchase-loss : (losses : List ℕ) (u : TradingUnit) → u.purchase ≡ true → unit_loss losses u ≡ loss_of losses u.border
unfolding unit_loss
purchase-loss losses u e = rw e refl

sale-loss : (losses : List ℕ) (u : TradingUnit) → u.purchase ≡ false → unit_loss losses u ≡ 0
unfolding unit_loss
sale-loss losses u e = rw e refl

-- "A lodgement's export": imports and domestic energies count for themselves
pub lodgements-counted : LodgementsCounted
unfolding holder_of runs
lodgements-counted d cs l border e =
    let b = after (opening d).book cs in
    let u = (unit_of b.units l.key.unit).unit in
    let x = holder_of b.units b.losses l in
    let s = sound-after (opened d) cs in
    record {
      exported = λ r. let k = both (eqb u.border border) (beq u.purchase true) r in
          at-loss x (loss_of b.losses border) (purchase-loss b.losses u (beq-true u.purchase true k.1) ∙ ap (loss_of b.losses) (eqb-true u.border border k.0)) e;
      imported = λ r. plain-at x (sale-loss b.losses u (beq-true u.purchase false (both (eqb u.border border) (beq u.purchase false) r).1)) e;
      domestic = λ z. plain-at x (by_bool u.purchase
          (λ p. purchase-loss b.losses u p ∙ ap (loss_of b.losses) z ∙ s.losses.domestic) (λ p. sale-loss b.losses u p)) e;
    }

-- where all losses are 0 no unit has one: its energies count for themselves and its border sum stays
-- (`plain-at`, `plain-kept`, `increased-plain` of CrossingLaws)
pub unit-plain : (losses : List ℕ) → ((border : ℕ) → loss_of losses border ≡ 0) → (u : TradingUnit) → unit_loss losses u ≡ 0
unfolding unit_loss
unit-plain losses z u = by_bool u.purchase (λ e. rw (e, z u.border)) (λ e. rw e)

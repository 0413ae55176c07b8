-- The test of an hour's units and what it stands for.
use mathlib.Core.Path.{◌≡◌}
use mathlib.Core.Bool.{true, false, not, ◌||◌, beq}
use mathlib.Core.List.{map}
use lib.Dec.{ltb, eqb}
use lib.ListN.{length}
use borrow.Author.Tests.{leb-true, le-leb, le-ltb, ltb-false, eqb-true, eqb-false, eq-eqb, ne_eqb, not-true, not-false}
use Rattle.rules.specs.Units.{max_energy, passes, increased_sum}
use Rattle.rules.specs.Borders.{Execution}
use Rattle.rules.proofs.BoolLaws.{by_bool, both, neither, of-neither, beq-true, of-beq}
use Rattle.rules.proofs.ListLaws.{all_map, any_false, of-any-false}
use Rattle.rules.proofs.ElementLaws.{all_both, pairwise_map, pairwise-weaken}
use Rattle.hour.specs.declared.Hour.{Hour}
use Rattle.hour.specs.View.{hour_in}
use Rattle.hour.specs.Units.{lodgement_of, lodgements_of, unit_energy, line_in, last_ones, same_unit, other_unit, other_loss, clash, beyond, is_over, lodgements_possible}
use Rattle.hour.specs.Ready.{SameUnit, Ready, units_possible, is_ready}
use Rattle.hour.proofs.PairLaws.{pair-none, of-pair-none, all-last, of-all-last, pairwise_both}
use Rattle.hour.proofs.RangeLaws.{range-holds, range-told, pairwise-unmapped}

-- Two lodgements that do not clash

-- have two numbers
no-number : (x y : Execution) → clash x y ≡ false → eqb x.holder.number y.holder.number ≡ false
unfolding clash
no-number x y t = (neither (eqb x.holder.number y.holder.number) (other_unit x y || other_loss x y) t).0

clash-units : (x y : Execution) → clash x y ≡ false → (other_unit x y ≡ false) × (other_loss x y ≡ false)
unfolding clash
clash-units x y t = neither (other_unit x y) (other_loss x y) (neither (eqb x.holder.number y.holder.number) (other_unit x y || other_loss x y) t).1

-- where they are of one unit one border, side and mark
one_unit : (x y : Execution) → clash x y ≡ false → x.holder.unit ≡ y.holder.unit → SameUnit x.holder y.holder
unfolding other_unit
one_unit x y t u =
    let k = (clash-units x y t).0 in
    let p = neither (not (eqb x.holder.border y.holder.border)) (not (beq x.holder.purchase y.holder.purchase) || not (beq x.holder.legacy y.holder.legacy)) (rw (eq-eqb x.holder.unit y.holder.unit u) at k) in
    let q = neither (not (beq x.holder.purchase y.holder.purchase)) (not (beq x.holder.legacy y.holder.legacy)) p.1 in
    record {
      border = eqb-true _ _ (not-false _ p.0);
      purchase = beq-true _ _ (not-false _ q.0);
      legacy = beq-true _ _ (not-false _ q.1);
    }

of-one-unit : (x y : Execution) → (x.holder.unit ≡ y.holder.unit → SameUnit x.holder y.holder) → other_unit x y ≡ false
unfolding other_unit
of-one-unit x y f =
    by_bool (eqb x.holder.unit y.holder.unit)
    (λ t. let s = f (eqb-true _ _ t) in
    rw (t, eq-eqb x.holder.border y.holder.border s.border, of-beq x.holder.purchase y.holder.purchase s.purchase, of-beq x.holder.legacy y.holder.legacy s.legacy))
    (λ t. rw t)

-- where they are of one border and side one loss
abbrev OneLoss : Execution → Execution → Type 0
OneLoss x y = x.holder.border ≡ y.holder.border → x.holder.purchase ≡ y.holder.purchase → x.holder.loss ≡ y.holder.loss

one_loss : (x y : Execution) → clash x y ≡ false → OneLoss x y
unfolding other_loss
one_loss x y t b p =
    eqb-true x.holder.loss y.holder.loss
    (not-false _ (rw (eq-eqb x.holder.border y.holder.border b, of-beq x.holder.purchase y.holder.purchase p) at (clash-units x y t).1))

of-one-loss : (x y : Execution) → OneLoss x y → other_loss x y ≡ false
unfolding other_loss
of-one-loss x y f =
    by_bool (eqb x.holder.border y.holder.border)
    (λ t. rw t (by_bool (beq x.holder.purchase y.holder.purchase)
    (λ s. rw (s, eq-eqb x.holder.loss y.holder.loss (f (eqb-true _ _ t) (beq-true _ _ s)))) (λ s. rw s)))
    (λ t. rw t)

-- two that have these do not clash
no-clash : (x y : Execution) → (x.holder.number ≡ y.holder.number → ⊥) → (x.holder.unit ≡ y.holder.unit → SameUnit x.holder y.holder) × OneLoss x y → clash x y ≡ false
unfolding clash
no-clash x y n f = of-neither (ne_eqb x.holder.number y.holder.number n) (of-neither (of-one-unit x y f.0) (of-one-loss x y f.1))

-- an hour that passes the test is ready
pub ready-holds : (h : Hour) → is_ready h ≡ true → Ready h
unfolding is_ready units_possible lodgements_possible is_over beyond same_unit
ready-holds h e =
    let xs = lodgements_of (hour_in h) in
    let z = both _ _ e in
    let a = both _ _ z.1 in
    let b = both _ _ a.1 in
    let c = both _ _ b.1 in
    let apart = pair-none clash xs (not-true _ c.0) in
    let over = any_false _ _ (not-true _ c.1) in
    record {
      ranges = range-holds h z.0;
      units = record {
        numbers = pairwise-weaken (λ x y n. eqb-false _ _ (no-number x y n)) apart;
        agree = pairwise-weaken one_unit apart;
        losses = pairwise-weaken one_loss apart;
        single = pairwise-weaken (λ x y n. eqb-false _ _ n) (pairwise-unmapped lodgement_of (hour_in h).offers (all-last same_unit (map lodgement_of (hour_in h).offers) (eqb-true _ _ a.0)));
        few = leb-true _ _ b.0;
        maxima = all_map (λ x n. ltb-false _ _ (neither (ltb max_energy (unit_energy xs x.holder.unit)) (passes (unit_energy xs x.holder.unit) (increased_sum x.holder.loss (line_in (hour_in h).capacities x.holder.border))) n).0) over;
        lines = all_map (λ x n. (neither (ltb max_energy (unit_energy xs x.holder.unit)) (passes (unit_energy xs x.holder.unit) (increased_sum x.holder.loss (line_in (hour_in h).capacities x.holder.border))) n).1) over;
      };
    }

-- an hour that is ready passes it
pub ready-told : (h : Hour) → Ready h → is_ready h ≡ true
unfolding is_ready units_possible lodgements_possible is_over beyond same_unit
ready-told h r =
    rw (
      range-told h r.ranges,
      eq-eqb _ _ (of-all-last same_unit (pairwise_map lodgement_of (λ o p n. ne_eqb _ _ n) r.units.single)),
      le-leb (length (last_ones same_unit (lodgements_of (hour_in h)))) 64 r.units.few,
      of-pair-none clash (pairwise_both no-clash r.units.numbers (pairwise_both (λ x y f g. (f, g)) r.units.agree r.units.losses)),
      of-any-false (is_over (hour_in h).capacities (lodgements_of (hour_in h))) (all_both (λ x m l. of-neither (le-ltb _ _ m) l) r.units.maxima r.units.lines),
    )

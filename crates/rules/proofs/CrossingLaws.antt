-- How much an energy counts for at its border, and how much is left when some is taken. The laws of flows, steps and cuts
-- rest on the facts here: of this crate only this file opens `at_border` and `keeps`.
use Prim.Native.Nat.{ℕ, zero, suc, ◌+◌, ◌*◌, ◌-◌, ◌/◌, ◌≤◌, ◌<◌, min}
use mathlib.Core.Path.{◌≡◌, refl}
use mathlib.Core.Logic.{◌↔◌}
use native.Mathlib.Omega.{arith}
use native.Mathlib.Nat.{le_refl, div-mul-le_self, div-lt_iff_lt-mul, le-div_iff_mul-le}
use lib.Dec.{leb, ltb}
use borrow.Author.Tests.{leb-true, leb-false, ltb-true, ltb-false}
use Rattle.rules.specs.Lists.{keep, sum, sum_of, round_up}
use Rattle.rules.specs.Units.{increased, IncreasedRounded}
use Rattle.rules.specs.Match.{Holder}
use Rattle.rules.specs.Borders.{runs, border_figure, FigureRounded, FigureWithin, kept_energy, Largest, KeptLargest, at_border, keeps, flow, FiguresAdded}
use Rattle.rules.proofs.BoolLaws.{by_bool}
use Rattle.rules.proofs.SplitLaws.{round-up-le}

-- Figures, at a loss of l

-- a quotient rounded up is at most k only where the number is at most k divisors
of-round-up-le : (a d k : ℕ) → 0 < d → round_up a d ≤ k → a ≤ k * d
unfolding round_up
of-round-up-le a d k p h = omega (arith, (div-lt_iff_lt-mul {k = d} {x = a + (d - 1)} {y = suc k} p).0 (omega arith))

-- "rounded up"
pub figure-rounded : FigureRounded
unfolding border_figure
figure-rounded l e f = ((λ h. of-round-up-le (e * 10000) (10000 + l) f (omega arith) h), (λ h. round-up-le (e * 10000) (10000 + l) f h))

-- "rounded down"
pub increased-rounded : IncreasedRounded
unfolding increased
increased-rounded l s n = le-div_iff_mul-le {k = 10000} {x = n} {y = s * (10000 + l)} (omega arith)

-- an export is within the increased sum exactly where its border figure is within the sum
pub figure-within : FigureWithin
figure-within l e s =
    let f = figure-rounded l e s in let n = increased-rounded l s e in ((λ h. n.1 (f.0 h)), (λ h. f.1 (n.0 h)))

module _ (l : ℕ) where
  -- the largest energy whose figure is at most g
  abbrev largest : ℕ → ℕ
  largest g = g * (10000 + l) / 10000

  figure-le : (e g : ℕ) → (border_figure l e ≤ g) ↔ (e ≤ largest g)
  unfolding increased
  figure-le e g = figure-within l e g

  -- m figures more are at least m energies more
  largest-up : (g m : ℕ) → largest g + m ≤ largest (g + m)
  largest-up g m =
      (le-div_iff_mul-le {k = 10000} {x = largest g + m} {y = (g + m) * (10000 + l)} (omega arith)).1 (omega (arith, div-mul-le_self (g * (10000 + l)) 10000))

  largest-lt : {g h : ℕ} → g < h → largest g < largest h
  largest-lt {g} {h} k = let e : g + (h - g) ≡ h = omega arith in omega (arith, rw e at (largest-up g (h - g)))

  -- an energy is at most the largest with its figure
  largest-le : (e : ℕ) → e ≤ largest (border_figure l e)
  largest-le e = (figure-le e (border_figure l e)).0 (le_refl _)

  -- a figure is at most its energy
  pub figure-self : (e : ℕ) → border_figure l e ≤ e
  figure-self e = (figure-le e e).1 ((le-div_iff_mul-le {k = 10000} {x = e} {y = e * (10000 + l)} (omega arith)).1 (omega arith))

  -- and that of some energy is above 0
  figure-some : {e : ℕ} → 0 < e → 0 < border_figure l e
  figure-some {e} h =
      by_bool (ltb 0 (border_figure l e)) (λ t. ltb-true 0 (border_figure l e) t)
      (λ t. absurd (omega (arith, (figure-le e 0).0 (ltb-false 0 (border_figure l e) t), div-mul-le_self (0 * (10000 + l)) 10000)))

  -- every figure up to that of e is met, by the lesser of e and the largest energy with it
  figure-met : (e g : ℕ) → g ≤ border_figure l e → border_figure l (min e (largest g)) ≡ g
  figure-met e g h =
      let m = min e (largest g) in
      let f = border_figure l m in
      by_bool (ltb f g)
      (λ t. let k = ltb-true f g t in
      absurd (by_bool (leb e (largest g))
      (λ u. omega (arith, k, (figure-le e f).1 (omega (arith, largest-le m, leb-true e (largest g) u))))
      (λ u. omega (arith, largest-le m, largest-lt k, leb-false e (largest g) u))))
      (λ t. omega (arith, (figure-le m g).1 (omega arith), ltb-false f g t))

  -- as much as is taken is gone from the energy
  kept-under : (e k : ℕ) → k ≤ border_figure l e → kept_energy l e k + k ≤ e
  unfolding kept_energy
  kept-under e zero h = omega arith
  kept-under e (suc k) h =
      let f = border_figure l e in
      let q : (f - suc k) + k ≡ f - 1 = omega arith in
      let up = rw q at (largest-up (f - suc k) k) in
      by_bool (leb e (largest (f - 1)))
      (λ t. absurd (omega (arith, h, (figure-le e (f - 1)).1 (leb-true e (largest (f - 1)) t))))
      (λ t. omega (arith, up, leb-false e (largest (f - 1)) t))

-- "the largest energy, no more than was matched or executed, that has the border figure left to it"
pub kept-largest : KeptLargest
unfolding kept_energy
kept-largest l e k =
    record {
      most = omega arith;
      figure = figure-met l e (border_figure l e - k) (omega arith);
      none_above = λ j h q. let m = (figure-le l j (border_figure l e - k)).0 (omega arith) in omega arith;
    }

-- Without a loss everything is as before K2

-- an energy counts for itself
pub figure-plain : (e : ℕ) → border_figure 0 e ≡ e
figure-plain e = omega (arith, figure-self 0 e, (figure-le 0 e (border_figure 0 e)).0 (le_refl _), div-mul-le_self (border_figure 0 e * 10000) 10000)

-- what is taken is subtracted
pub kept-plain : (e k : ℕ) → kept_energy 0 e k ≡ e - k
kept-plain e k = omega (arith, figure-plain e, figure-plain (kept_energy 0 e k), (kept-largest 0 e k).figure)

-- and a sum stays
pub increased-plain : (s : ℕ) → increased 0 s ≡ s
unfolding increased
increased-plain s = omega (arith, div-mul-le_self (s * 10000) 10000, (le-div_iff_mul-le {k = 10000} {x = s} {y = s * 10000} (omega arith)).1 (le_refl _))

-- an increased sum is no less
pub increased-le : (l s : ℕ) → s ≤ increased l s
unfolding increased
increased-le l s = (le-div_iff_mul-le {k = 10000} {x = s} {y = s * (10000 + l)} (omega arith)).1 (omega arith)

-- Holders

module _ (x : Holder) where
  -- an energy counts for no more than itself
  pub at-le : (e : ℕ) → at_border x e ≤ e
  unfolding at_border
  at-le e = figure-self x.loss e

  -- some energy counts for something
  pub at_some : {e : ℕ} → 0 < e → 0 < at_border x e
  unfolding at_border
  at_some h = figure-some x.loss h

  -- what is left counts for what is left
  pub kept_at : (e k : ℕ) → at_border x (keeps x e k) ≡ at_border x e - k
  unfolding at_border keeps
  kept_at e k = (kept-largest x.loss e k).figure

  -- as much as is taken is gone from the energy
  pub kept_less : (e k : ℕ) → k ≤ at_border x e → keeps x e k + k ≤ e
  unfolding at_border keeps
  kept_less e k h = kept-under x.loss e k h

  -- whatever is taken, no more is left than there was
  pub kept-le : (e k : ℕ) → keeps x e k ≤ e
  unfolding keeps
  kept-le e k = (kept-largest x.loss e k).most

  -- where nothing is taken all is left
  pub kept-all : (e : ℕ) → keeps x e 0 ≡ e
  unfolding keeps
  kept-all e = omega (arith, kept-le e 0, (kept-largest x.loss e 0).none_above e (le_refl e) (omega arith))

  -- what is left is the largest energy with the border figure that is left
  pub keeps-largest : (e k : ℕ) → Largest x.loss e (at_border x e - k) (keeps x e k)
  unfolding at_border keeps
  keeps-largest e k = kept-largest x.loss e k

  -- an energy counts by its holder's loss
  pub at-loss : (l : ℕ) → x.loss ≡ l → (e : ℕ) → at_border x e ≡ border_figure l e
  unfolding at_border
  at-loss l z e = rw z refl

  -- of a holder without loss an energy counts for itself
  pub plain-at : x.loss ≡ 0 → (e : ℕ) → at_border x e ≡ e
  unfolding at_border
  plain-at z e = rw z (figure-plain e)

  -- and what is taken is subtracted
  pub plain-kept : x.loss ≡ 0 → (e k : ℕ) → keeps x e k ≡ e - k
  unfolding keeps
  plain-kept z e k = rw z (kept-plain e k)

  -- From these

  -- no energy counts for nothing
  pub at_none : at_border x 0 ≡ 0
  at_none = omega (arith, at-le 0)

  -- where less is left something was taken
  pub kept-some : (e k : ℕ) → keeps x e k < e → 0 < k
  kept-some e zero h = absurd (omega (arith, kept-all e))
  kept-some e (suc k) h = omega arith

-- Flows

-- "each by itself, and sums add these figures"
pub figures-added : FiguresAdded
unfolding at_border flow keep sum_of sum
figures-added A holder energy border export = (refl, λ x xs. by_bool (runs border export (holder x)) (λ e. rw e refl) (λ e. rw e (omega arith)))

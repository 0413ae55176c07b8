-- Limit 12 of an hour's capacities, and a unit's energy.
use Prim.Native.Nat.{ℕ, ◌+◌, ◌-◌, ◌*◌, ◌/◌, ◌^◌, ◌≤◌, ◌<◌}
use mathlib.Core.Path.{◌≡◌, refl, sym, ap, ap₂, ◌∙◌}
use mathlib.Core.Bool.{Bool, false, cond, ◌&&◌, ◌||◌}
use mathlib.Core.List.{List, [], ◌∷◌, map}
use mathlib.Core.Option.{Option as Sum, some as sum-of, none as no-sum}
use native.Mathlib.Omega.{arith}
use lib.Dec.{eqb, ltb}
use borrow.Author.Tests.{ltb-true, ltb-false, lt-ltb, le-ltb, ne_eqb}
use Rattle.rules.proofs.BoolLaws.{by_bool}
use lib.ListN.{get_or, length}
use Rattle.std.specs.List.{list_any, sum_by}
use Rattle.std.proofs.lemmas.List.Sums.{sum_by-cons}
use Rattle.std.specs.Prelude.{is_some, Option, None}
use Rattle.rules.specs.Lists.{All, none, more, any, keep, sum, sum_of}
use Rattle.rules.specs.Units.{direction, max_energy, passes, increased, increased_sum}
use Rattle.rules.specs.Borders.{Directed, Execution, border_figure}
use Rattle.rules.proofs.ListLaws.{all_keep, any-list}
use Rattle.rules.proofs.IndexLaws.{from_all}
use Rattle.rules.proofs.SumLaws.{sum-keep}
use Rattle.rules.proofs.CrossingLaws.{figure-within}
use Rattle.hour_offers.specs.declared.Execution.{Execution as Lodgement}
use Rattle.hour_offers.specs.View.{execution_in, executions_in}
use Rattle.hour_offers.specs.Sound.{ExecutionInRange}
use Rattle.hour_borders.specs.Directions.{directed, energies_of, published_in}
use Rattle.hour_borders.proofs.DirectionLaws.{direction-small, direction-border, direction-export}
use Rattle.hour.specs.View.{energy_among}
use Rattle.session.proofs.LaidLaws.{any-map}
use Rattle.hour.specs.Units.{unit_energy, line_in, beyond, is_over}
use Rattle.hour.proofs.LaidLaws.{energy-published}

-- no direction has a border of which none of some indices is
none-elsewhere : (a : List ℕ) (b : ℕ) (e : Bool) {ds : List ℕ} → All (λ d. eqb (d / 2 + 1) b ≡ false) ds → energy_among (map (directed a) ds) b e ≡ None
unfolding energy_among directed
none-elsewhere a b e none = refl
none-elsewhere a b e (more h t) = rw h (none-elsewhere a b e t)

module _ (a : List (Option ℕ)) where
  -- of one of the four borders what is published, and none of any other
  pub capacity-abroad : (b : ℕ) (e : Bool) → 0 < b → b < 5 → energy_among (published_in a) b e ≡ get_or a (direction b e) None
  capacity-abroad b e h l =
      sym (ap₂ (energy_among (published_in a)) (direction-border b e h) (direction-export b e)) ∙ energy-published a (direction b e) (direction-small b e l)

  pub capacity-elsewhere : (b : ℕ) (e : Bool) → (0 < b → 4 < b) → energy_among (published_in a) b e ≡ None
  unfolding published_in
  capacity-elsewhere b e f = none-elsewhere (energies_of a) b e (all_keep (λ d. is_some (get_or a d None)) (from_all _ 0 8 (λ d h l. ne_eqb (d / 2 + 1) b (λ z. absurd (omega (arith, f (omega (arith, z))))))))

  pub capacity-home : (e : Bool) → energy_among (published_in a) 0 e ≡ None
  capacity-home e = capacity-elsewhere 0 e (λ l. absurd (omega arith))

-- above one of two what is left is above the other
pub sum_above : (x y n : ℕ) → (ltb x n && ltb y (n - x)) ≡ ltb (x + y) n
sum_above x y n =
    by_bool (ltb x n)
    (λ t. let k = ltb-true x n t in
    rw t (by_bool (ltb y (n - x)) (λ s. let l = ltb-true y (n - x) s in rw (s, lt-ltb (x + y) n (omega arith))) (λ s. let l = ltb-false y (n - x) s in rw (s, le-ltb (x + y) n (omega arith)))))
    (λ t. let k = ltb-false x n t in rw (t, le-ltb (x + y) n (omega arith)))

-- an energy passes the increased sum exactly where its border figure passes the sum
pub figure_passes : (l e : ℕ) (s : Sum ℕ) → passes (border_figure l e) s ≡ passes e (increased_sum l s)
unfolding passes increased_sum
figure_passes l e no-sum = refl
figure_passes l e (sum-of s) =
    by_bool (ltb s (border_figure l e))
    (λ t. let k = ltb-true s (border_figure l e) t in
    rw t (by_bool (ltb (increased l s) e) (λ u. rw u) (λ u. absurd (omega (arith, k, (figure-within l e s).1 (ltb-false (increased l s) e u))))))
    (λ t. rw (t, le-ltb (increased l s) e ((figure-within l e s).0 (ltb-false s (border_figure l e) t))))

-- The energy of a unit

module _ (u : ℕ) where
  -- one lodgement after the other
  pub energy_summed : (xs : List Lodgement) → sum_by (λ x. cond (eqb x.holder.unit u) x.energy 0) xs ≡ unit_energy (executions_in xs) u
  unfolding unit_energy sum_of sum keep
  energy_summed [] = refl
  energy_summed (x ∷ xs) =
      omega (
        arith,
        sum_by-cons (λ x. cond (eqb x.holder.unit u) x.energy 0) x xs,
        sum-keep (λ (y : Execution). y.energy) (λ y. eqb y.holder.unit u) (execution_in x) (executions_in xs),
        energy_summed xs,
      )

  -- no more than the largest energy for each
  energy_small : (xs : List Lodgement) → All ExecutionInRange (executions_in xs) → sum_by (λ x. cond (eqb x.holder.unit u) x.energy 0) xs ≤ length xs * max_energy
  energy_small [] none = omega arith
  energy_small (x ∷ xs) (more r t) =
      by_bool (eqb x.holder.unit u)
      (λ e. omega (arith, r.energy, energy_small xs t, sum_by-cons (λ x. cond (eqb x.holder.unit u) x.energy 0) x xs, ap (λ b. cond b x.energy 0) e))
      (λ e. omega (arith, energy_small xs t, sum_by-cons (λ x. cond (eqb x.holder.unit u) x.energy 0) x xs, ap (λ b. cond b x.energy 0) e))

  pub energy_fits : (xs : List Lodgement) → length xs ≤ 128 → All ExecutionInRange (executions_in xs) → sum_by (λ x. cond (eqb x.holder.unit u) x.energy 0) xs < 2 ^ 32
  energy_fits xs few a = omega (arith, few, energy_small xs a)

-- read through the code's lodgements
pub over_each : (cs : List Directed) (es : List Execution) (xs : List Lodgement) → any (is_over cs es) (executions_in xs) ≡ list_any (λ x. is_over cs es (execution_in x)) xs
over_each cs es xs = any-map execution_in (is_over cs es) xs ∙ any-list (λ x. is_over cs es (execution_in x)) xs

-- the test of a lodgement's unit: `above` of whether its energy is above the largest maximum
pub is-over : (cs : List Directed) (xs : List Lodgement) (x : Execution) (e : ℕ) (above : Bool) → e ≡ sum_by (λ y. cond (eqb y.holder.unit x.holder.unit) y.energy 0) xs → ltb max_energy e ≡ above
    → (above || passes e (increased_sum x.holder.loss (line_in cs x.holder.border))) ≡ is_over cs (executions_in xs) x
unfolding is_over beyond
is-over cs xs x e above q a =
    ap (λ b. b || passes e (increased_sum x.holder.loss (line_in cs x.holder.border))) (sym a)
    ∙ ap (beyond cs x.holder.border x.holder.loss) (q ∙ energy_summed x.holder.unit xs)

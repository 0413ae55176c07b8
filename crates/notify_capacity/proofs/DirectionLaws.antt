-- A direction of a notice.
use Prim.Native.Nat.{ℕ, ◌-◌, min}
use mathlib.Core.Path.{◌≡◌}
use mathlib.Core.Bool.{true, false, not}
use mathlib.Core.List.{List, [], ◌++◌}
use native.Mathlib.Omega.{arith}
use lib.Dec.{eqb}
use lib.ListN.{take, drop, replicate, length, length-take, length-drop, drop_of_length-le}
use Rattle.std.specs.List.{list_any}
use Rattle.std.proofs.lemmas.List.{take-take, append-nil, drop-replicate}
use Rattle.rules.specs.Units as U
use Rattle.session.specs.Laid.{pad}
use Rattle.session.specs.Image.{published_in}
use Rattle.session.specs.declared.Published.{Published}
use Rattle.session.proofs.LaidLaws.{length-counted}
use Rattle.notify_unavailability.specs.Notices.{over_limit}
use Rattle.notify_unavailability.proofs.NoticeLaws.{bad-counted, stored-pad}
use Rattle.notify_capacity.specs.Capacities.{off_hours, off_range}

module _ (p : Published) where
  pub no-hours : (H : ℕ) → p.published ≡ false → off_hours H p ≡ false
  unfolding published_in U.not_of_hours
  no-hours H h = rw h

  pub of-count : (H : ℕ) → p.published ≡ true → off_hours H p ≡ not (eqb p.count H)
  unfolding published_in U.not_of_hours
  of-count H h = rw (h, length-counted p.count p.energies)

  pub no-energies : p.published ≡ false → off_range p ≡ false
  unfolding published_in U.bad_published
  no-energies h = rw h

  pub of-energies : p.published ≡ true → off_range p ≡ list_any over_limit (take p.count p.energies)
  unfolding published_in U.bad_published
  of-energies h = rw h (bad-counted p.count p.energies)

-- its energies laid over, and 0 after those that count
pub laid-behind : (n c : ℕ) (es zs : List ℕ) → length es ≡ 25 → c ≡ min n 25 → zs ≡ replicate (25 - c) 0
    → take c es ++ (zs ++ drop (25 - c) (drop c es)) ≡ pad 25 0 (take 25 (take n es))
laid-behind n c es zs e m q =
    let rest : drop (25 - c) (drop c es) ≡ [] = drop_of_length-le (drop c es) {i = 25 - c} (omega (arith, length-drop c es)) in
    let front : take c (take n es) ≡ take c es = take-take c n es (omega arith) in
    rw (q, rest, append-nil, ← front, ← drop-replicate {X = ℕ} c 25 0) (stored-pad c (take n es) (omega (arith, length-take n es)))

pub ruleset directions = (no-hours, of-count, no-energies, of-energies)

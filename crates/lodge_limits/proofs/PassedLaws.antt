-- Limits passed in no hour, and a judgement that is clear exactly where all are: each way out.
use Prim.Native.Nat.{ℕ, zero, suc, ◌+◌, ◌-◌, ◌≤◌, ◌<◌}
use mathlib.Core.Path.{◌≡◌, refl, sym}
use mathlib.Core.Bool.{Bool, true, false, false≢true}
use mathlib.Core.List.{List}
use native.Mathlib.Omega.{arith}
use lib.Dec.{eqb, leb}
use lib.ListN.{get_or}
use borrow.Author.Tests.{ne_eqb, eqb-true, eqb-false, leb-true, leb-false}
use Rattle.rules.specs.Lists.{first, from, lowest}
use Rattle.rules.specs.Lodging.{passed_at}
use Rattle.rules.proofs.BoolLaws.{by_bool}
use Rattle.rules.proofs.ListLaws.{hourly-suc}
use Rattle.judge_loads.specs.Loads.{hour_at, laid}
use Rattle.judge_loads.proofs.LoadLaws.{unnamed, over, within}
use mathlib.Core.Option.{Option, some, none}
use Rattle.std.specs.Prelude.{Some, None}
use Rattle.std.specs.List.{list_all, range_with_len}
use Rattle.lodge_keys.specs.Sums.{load_on}
use Rattle.lodge_limits.specs.Judging.{passed_nowhere, is_clear}

-- Hour by hour

-- an hour's load: the hours are counted from 0 in the arrays
load_at : (own sums : List ℕ) (h : ℕ) → load_on own sums (suc h) ≡ get_or own h 0 + get_or sums h 0
unfolding load_on
load_at own sums h = rw (hourly-suc own h, hourly-suc sums h)

module _ (own sums limit : List ℕ) (h : ℕ) where
  -- what the others leave of the limit is less than the own energy
  over-load : get_or limit h 0 - get_or sums h 0 < get_or own h 0 → passed_at own (load_on own sums) (laid limit) (suc h) ≡ true
  over-load i = over own (load_on own sums) limit h (λ z. absurd (omega arith)) (omega (arith, load_at own sums h))

  within-load : get_or own h 0 ≤ get_or limit h 0 - get_or sums h 0 → passed_at own (load_on own sums) (laid limit) (suc h) ≡ false
  within-load i = by_bool (eqb (get_or own h 0) 0) (λ e. unnamed own (load_on own sums) limit h (omega (arith, eqb-true)))
      (λ e. let z : get_or own h 0 ≡ 0 → ⊥ = λ q. absurd (omega (arith, eqb-false)) in within own (load_on own sums) limit h (omega (arith, load_at own sums h, z)))

  -- the test of the hour at an index
  abbrev pub within_at : Bool
  within_at = leb (get_or own h 0) (get_or limit h 0 - get_or sums h 0)

-- it is passed in none of the hours
module _ (own sums limit : List ℕ) where
  all_within : (i n : ℕ) → list_all (within_at own sums limit) (range_with_len i n) ≡ eqb (first (passed_at own (load_on own sums) (laid limit)) 0 (from (suc i) n)) 0
  unfolding first from
  all_within i zero = refl
  all_within i (suc n) =
      let e : suc (suc i) ≡ suc (i + 1) = omega arith in
      by_bool (within_at own sums limit i)
      (λ t. rw (t, within-load own sums limit i (leb-true (get_or own i 0) _ t), e) (all_within (i + 1) n))
      (λ t. rw (t, over-load own sums limit i (leb-false (get_or own i 0) _ t)) (sym (ne_eqb (suc i) 0 (λ z. absurd (omega arith)))))

  pub all-within : (n : ℕ) → list_all (within_at own sums limit) (range_with_len 0 n) ≡ passed_nowhere own (load_on own sums) n limit
  unfolding passed_nowhere lowest
  all-within n = all_within 0 n

-- the hour that is found for a limit
module _ (own : List ℕ) (load : ℕ → ℕ) (H : ℕ) (limit : List ℕ) where
  abbrev low : ℕ
  low = lowest (passed_at own load (laid limit)) H

  pub passed-nowhere : passed_nowhere own load H limit ≡ true → hour_at low ≡ None
  unfolding passed_nowhere
  passed-nowhere e = rw e refl

  pub passed-somewhere : passed_nowhere own load H limit ≡ false → hour_at low ≡ Some low
  unfolding passed_nowhere
  passed-somewhere e = rw e refl

-- a clear judgement
pub is-clear : (j : Option (ℕ × ℕ)) → is_clear j ≡ true → none ≡ j
is-clear none e = refl
is-clear (some r) e = absurd (false≢true e)

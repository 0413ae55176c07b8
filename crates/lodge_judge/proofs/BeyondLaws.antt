-- The hours beyond H are the lowest bits of the map.
use Prim.Native.Nat.{ℕ, zero, suc, ◌+◌, ◌*◌, ◌-◌, ◌/◌, ◌%◌, ◌^◌, ◌≤◌, ◌<◌}
use mathlib.Core.Path.{◌≡◌, refl, sym, ap, ◌∙◌}
use mathlib.Core.Bool.{Bool, not, ◌&&◌, ◌||◌}
use native.Mathlib.Omega.{arith}
use native.Mathlib.Nat.{mod-lt}
use lib.Dec.{eqb, ltb, lit<}
use lib.Pow.{pow_pos, mod-pow-add}
use borrow.Author.Tests.{ne_eqb, eqb-true, eqb-false, lt-ltb, le-ltb}
use Rattle.rules.specs.Lists.{any, from}
use Rattle.rules.specs.Message.{names}
use Rattle.rules.specs.Lodging.{names_beyond}
use Rattle.rules.proofs.BoolLaws.{by_bool}
use Rattle.message.proofs.JudgeLaws.{named-is}

-- one bit more
bit-more : (n w : ℕ) → (eqb (n / 2 ^ w % 2) 1 || not (eqb (n % 2 ^ w) 0)) ≡ not (eqb (n % 2 ^ suc w) 0)
bit-more n w =
    let s : suc w ≡ 1 + w = omega arith in
    let q = n / 2 ^ w % 2 in
    let whole : n % 2 ^ suc w ≡ q * 2 ^ w + n % 2 ^ w = rw s (mod-pow-add n 1 w) in
    let small : q < 2 = mod-lt (n / 2 ^ w) (lit< tt) in
    let one = pow_pos w in
    let at : (b : ℕ) → q ≡ b → n % 2 ^ suc w ≡ b * 2 ^ w + n % 2 ^ w = λ b k. whole ∙ ap (λ x. x * 2 ^ w + n % 2 ^ w) k in
    by_bool (eqb q 1) (λ e. let k = at 1 (eqb-true q 1 e) in rw (e, ne_eqb (n % 2 ^ suc w) 0 (omega arith)))
    (λ e. let f = eqb-false q 1 e in let k = at 0 (omega arith) in let z : n % 2 ^ suc w ≡ n % 2 ^ w = omega arith in rw (e, z))

module _ (H map : ℕ) where
  none_left : map % 1 ≡ 0
  none_left = omega arith

  abbrev beyond : ℕ → Bool
  beyond h = ltb H h && names map h

  -- the last n hours, all of them beyond H
  late : (n i : ℕ) → i + n ≡ 25 → H ≤ i → any beyond (from (suc i) n) ≡ not (eqb (map % 2 ^ n) 0)
  unfolding any from
  late zero i e h = rw none_left
  late (suc n) i e h =
      let k : 25 - suc i ≡ n = omega arith in
      let named = named-is map (suc i) (omega arith) (omega arith) in
      rw (lt-ltb H (suc i) (omega arith), ← named, k, late n (suc i) (omega arith) (omega arith)) (bit-more map n)

  -- the last n hours, those beyond H among them
  early : (n i : ℕ) → i + n ≡ 25 → i ≤ H → H ≤ 25 → any beyond (from (suc i) n) ≡ not (eqb (map % 2 ^ (25 - H)) 0)
  unfolding any from
  early zero i e h l = let k : 25 - H ≡ 0 = omega arith in rw (k, none_left)
  early (suc n) i e h l =
      by_bool (eqb i H)
      (λ t. let q : H ≡ i = sym (eqb-true i H t) in let k : 25 - H ≡ suc n = omega arith in rw k (late (suc n) i e (omega arith)))
      (λ t. let q = eqb-false i H t in rw (le-ltb H (suc i) (omega arith)) (early n (suc i) (omega arith) (omega arith) l))

  pub beyond-bits : H ≤ 25 → not (eqb (map % 2 ^ (25 - H)) 0) ≡ names_beyond H map
  unfolding names_beyond
  beyond-bits h = sym (early 25 0 refl (omega arith) h)

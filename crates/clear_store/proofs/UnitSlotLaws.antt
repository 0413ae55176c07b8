-- A number more in the table of slots.
use Prim.Native.Nat.{ℕ, zero, suc, ◌+◌, ◌*◌, ◌/◌, ◌%◌, ◌≤◌, ◌<◌}
use mathlib.Core.Path.{◌≡◌, refl, sym, ap, ◌∙◌}
use mathlib.Core.List.{List}
use native.Mathlib.Omega.{arith}
use lib.Dec.{eqb}
use lib.ListN.{get_or, set, length, replicate}
use lib.Seq.{get_or-set_same, get_or-set_other}
use borrow.Author.Tests.{eqb-true, eqb-false}
use Rattle.rules.proofs.BoolLaws.{by_bool}
use Rattle.clear_store.specs.UnitSlots.{row_of, slot_of, Rows}

blank : (n i : ℕ) → ◌≡◌ {A = ℕ} (get_or (replicate n 0) i 0) 0
blank zero i = refl
blank (suc n) zero = refl
blank (suc n) (suc i) = blank n i

pub no-rows : (n : ℕ) → Rows 0 (replicate n 0)
no-rows n = record {
  few = λ a. rw (blank n a) (omega arith);
  own = λ a b h e. absurd (omega (arith, blank n a));
}

-- a row more, of a last byte that had none
module _ (rows : List ℕ) (end r : ℕ) (l : end < length rows) (none : get_or rows end 0 ≡ 0) where
  abbrev next : List ℕ
  next = set rows end r

  here : get_or next end 0 ≡ r
  here = get_or-set_same rows end r 0 l

  there : (a : ℕ) → (a ≡ end → ⊥) → get_or next a 0 ≡ get_or rows a 0
  there a d = get_or-set_other rows end a r 0 d

  -- those before keep their rows
  pub row-same : (a : ℕ) → 0 < get_or rows a 0 → get_or next a 0 ≡ get_or rows a 0
  row-same a h = there a (λ e. absurd (omega (arith, ap (λ i. get_or rows i 0) e, none)))

  pub row-more : (k : ℕ) → Rows k rows → k < r → Rows r next
  row-more k t h = record {
    few = λ a. by_bool (eqb a end)
        (λ q. rw (eqb-true a end q, here) (omega arith))
        (λ q. omega (arith, there a (eqb-false a end q), t.few a));
    own = λ a b p e. by_bool (eqb a end)
        (λ q. by_bool (eqb b end) (λ z. eqb-true a end q ∙ sym (eqb-true b end z))
        (λ z. absurd (omega (arith, ap (λ i. get_or next i 0) (eqb-true a end q), here, there b (eqb-false b end z), t.few b, e))))
        (λ q. by_bool (eqb b end)
        (λ z. absurd (omega (arith, ap (λ i. get_or next i 0) (eqb-true b end z), here, there a (eqb-false a end q), t.few a, e)))
        (λ z. let x = there a (eqb-false a end q) in t.own a b (omega (arith, x)) (sym x ∙ (e ∙ there b (eqb-false b end z)))));
  }

-- what was in the table stays for a larger count
pub rows-wider : (k r : ℕ) (rows : List ℕ) → Rows k rows → k ≤ r → Rows r rows
rows-wider k r rows t h = record { few = λ a. omega (arith, t.few a); own = t.own }

-- two numbers whose rows and bytes before are the same have the same two bytes
pub same-bytes : (m n : ℕ) → m % 256 ≡ n % 256 → m / 256 % 256 ≡ n / 256 % 256 → m % 65536 ≡ n % 65536
same-bytes m n a b = omega (arith, a, b)

same-cell : (r q x y : ℕ) → x < 256 → y < 256 → r * 256 + x ≡ q * 256 + y → r ≡ q
same-cell r q x y a b e = omega (arith, e)

-- a slot that is written is read, and another number's stays
module _ (rows slots : List ℕ) (n s : ℕ) where
  abbrev cell : ℕ
  cell = row_of rows n * 256 + n / 256 % 256

  pub slot-its : cell < length slots → slot_of rows (set slots cell s) n ≡ s
  unfolding slot_of
  slot-its l = get_or-set_same slots cell s 0 l

  pub slot-other : (k : ℕ) → Rows k rows → (m : ℕ) → 0 < row_of rows m → (m % 65536 ≡ n % 65536 → ⊥) → slot_of rows (set slots cell s) m ≡ slot_of rows slots m
  unfolding slot_of row_of
  slot-other k t m h d =
      get_or-set_other slots cell (row_of rows m * 256 + m / 256 % 256) s 0
      (λ e.
      let r : row_of rows m ≡ row_of rows n = same-cell (row_of rows m) (row_of rows n) (m / 256 % 256) (n / 256 % 256) (omega arith) (omega arith) e in
      let z : m / 256 % 256 ≡ n / 256 % 256 = omega (arith, e, r) in
      d (same-bytes m n (t.own (m % 256) (n % 256) h r) z))

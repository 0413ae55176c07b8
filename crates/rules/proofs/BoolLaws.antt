-- Laws of Booleans: cases that keep the equation, taking `||` and `&&` apart, tests of equality.
use Prim.Native.Nat.{ℕ, zero, suc}
use mathlib.Core.Path.{◌≡◌, refl, sym, ◌∙◌}
use mathlib.Core.Logic.{◌⊎◌, inl, inr}
use mathlib.Core.Bool.{Bool, true, false, ◌&&◌, ◌||◌, beq, true≢false, false≢true}
use lib.Dec.{eqb, eqb-zero-suc, eqb-suc-zero, eqb-suc-suc}

-- two cases, each with its equation
pub by_bool : (b : Bool) {C : Type 0} → (b ≡ true → C) → (b ≡ false → C) → C
by_bool true f g = f refl
by_bool false f g = g refl

-- no Boolean is both
pub not-both : {b : Bool} {C : Type 0} → b ≡ true → b ≡ false → C
not-both h k = absurd (true≢false (sym h ∙ k))

-- one that is not true is false
pub of-not : (b : Bool) → (b ≡ true → ⊥) → b ≡ false
of-not b f = by_bool b (λ e. absurd (f e)) (λ e. e)

-- a false `||`: both are false
pub neither : (a b : Bool) → (a || b) ≡ false → (a ≡ false) × (b ≡ false)
neither true b h = absurd (true≢false h)
neither false b h = (refl, h)

-- and the other way
pub of-neither : {a b : Bool} → a ≡ false → b ≡ false → (a || b) ≡ false
of-neither h k = rw (h, k)

-- a true `||`: one of them is true
pub either : (a b : Bool) → (a || b) ≡ true → (a ≡ true) ⊎ (b ≡ true)
either true b h = inl refl
either false b h = inr h

-- a true `&&`: both are true
pub both : (a b : Bool) → (a && b) ≡ true → (a ≡ true) × (b ≡ true)
both true b h = (refl, h)
both false b h = absurd (false≢true h)

-- both true: a true `&&`
pub of-both : {a b : Bool} → a ≡ true → b ≡ true → (a && b) ≡ true
of-both h k = rw (h, k)

-- Booleans that the test finds equal are
pub beq-true : (a b : Bool) → beq a b ≡ true → a ≡ b
beq-true true true h = refl
beq-true true false h = absurd (false≢true h)
beq-true false true h = absurd (false≢true h)
beq-true false false h = refl

-- and the other way
pub of-beq : (a b : Bool) → a ≡ b → beq a b ≡ true
of-beq a b h = rw (← h) (self a)
  where
    self : (a : Bool) → beq a a ≡ true
    self true = refl
    self false = refl

-- the test of equal numbers does not look at their order
pub eqb-sym : (m n : ℕ) → eqb m n ≡ eqb n m
eqb-sym zero zero = refl
eqb-sym zero (suc n) = eqb-zero-suc n ∙ sym (eqb-suc-zero n)
eqb-sym (suc m) zero = eqb-suc-zero m ∙ sym (eqb-zero-suc m)
eqb-sym (suc m) (suc n) = eqb-suc-suc m n ∙ eqb-sym m n ∙ sym (eqb-suc-suc n m)

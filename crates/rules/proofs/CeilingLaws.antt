-- The ceiling is passed exactly when one of the limits is.
use Prim.Native.Nat.{ℕ, min}
use mathlib.Core.Path.{◌≡◌, refl, ap, sym, ◌∙◌}
use mathlib.Core.Bool.{Bool, true, false, ◌||◌, or_assoc}
use mathlib.Core.List.{List, [], ◌∷◌, map}
use mathlib.Core.Option.{Option, some, none as nothing}
use lib.Dec.{ltb, eqb}
use native.Mathlib.Nat.{min-le_left, min-le_right, le-min}
use native.Mathlib.Omega.{arith}
use borrow.Author.Tests.{lt-ltb, le-ltb, ltb-true, ltb-false}
use Rattle.rules.specs.Lists.{All, none, more, any}
use Rattle.rules.specs.Units.{Registered, Lines, Limit, maximum_limit, available_limit, own_limits, border_limit, rights_limit, border_limits, limits, passes, least_of, ceiling, unit_of}
use Rattle.rules.specs.Book.{Book, lines_of, limits_of, ceiling_of}
use Rattle.rules.proofs.BoolLaws.{by_bool}

-- the lesser of two is passed exactly when one of them is
pub ltb-min : (a b e : ℕ) → ltb (min a b) e ≡ (ltb a e || ltb b e)
ltb-min a b e =
    by_bool (ltb a e)
    (λ p. rw p (lt-ltb (min a b) e (omega (arith, min-le_left a b, ltb-true a e p))))
    (λ p. rw p (by_bool (ltb b e)
    (λ q. rw q (lt-ltb (min a b) e (omega (arith, min-le_right a b, ltb-true b e q))))
    (λ q. rw q (le-ltb (min a b) e (le-min (ltb-false a e p) (ltb-false b e q))))))

least-passed : (e n : ℕ) (ls : List (Option ℕ)) → ltb (least_of n ls) e ≡ (any (passes e) ls || ltb n e)
unfolding least_of any passes
least-passed e n [] = refl
least-passed e n (nothing ∷ ls) = least-passed e n ls
least-passed e n (some l ∷ ls) = ltb-min l (least_of n ls) e ∙ rw (least-passed e n ls) (sym (or_assoc (ltb l e) (any (passes e) ls) (ltb n e)))

again : (a b : Bool) → (a || b || a) ≡ (a || b)
again true b = refl
again false true = refl
again false false = refl

any_at : (e h : ℕ) (ls : List Limit) → any (passes e) (map (λ l. l.at h) ls) ≡ any (λ l. passes e (l.at h)) ls
unfolding any
any_at e h [] = refl
any_at e h (l ∷ ls) = ap (λ t. passes e (l.at h) || t) (any_at e h ls)

-- Limits whose least is a ceiling: an energy passes it exactly when it passes one of them.
abbrev pub Bound : (ℕ → ℕ) → List Limit → Type 0
Bound top ls = (h e : ℕ) → ltb (top h) e ≡ any (λ l. passes e (l.at h)) ls

-- the least of some limits of which the first applies in every hour, whatever the others are
pub over-least : (most : ℕ → ℕ) (l : Limit) (ls : List Limit) → ((h : ℕ) → l.at h ≡ some (most h))
    → Bound (λ h. least_of (most h) (map (λ k. k.at h) (l ∷ ls))) (l ∷ ls)
unfolding any passes
over-least most l ls applies h e =
    least-passed e (most h) (map (λ k. k.at h) (l ∷ ls))
    ∙ rw (applies h) (again (ltb (most h) e) (any (passes e) (map (λ k. k.at h) ls)) ∙ ap (λ t. ltb (most h) e || t) (any_at e h ls))

-- an energy passes the ceiling exactly when it passes one of the limits
pub over-limits : (ls : Lines) (r : Registered) → Bound (ceiling ls r) (limits ls r)
unfolding ceiling limits own_limits maximum_limit
over-limits ls r = over-least (λ h. r.unit.maximum) (maximum_limit r) (available_limit r ∷ border_limits ls r) (λ h. refl)

-- none has the number 0, which stands for no refusal
pub limits-numbered : (ls : Lines) (r : Registered) → All (λ l. eqb l.number 0 ≡ false) (limits ls r)
unfolding limits own_limits border_limits maximum_limit available_limit border_limit rights_limit
limits-numbered ls r = more refl (more refl (more refl (more refl none)))

-- by the book
pub over-ceiling : (b : Book) (u : ℕ) → Bound (ceiling_of b u) (limits_of b u)
unfolding ceiling_of limits_of
over-ceiling b u = over-limits (lines_of b) (unit_of b.units u)

-- Judging one after the other: the order in which some are taken, and each one's verdict by those accepted before it.
use Rattle.std.specs.Prelude.{ℕ, suc, Bool, true, false, cond, not, ◌&&◌, ◌||◌, List, [], ◌∷◌, ◌++◌, ltb, eqb}
use Rattle.std.proofs.Math.Option.{Option, some, none}
use Rattle.rules.specs.Lists.{keep}
use Rattle.rules.specs.Refusals.{Row}

-- "a lodging number's verdict (accepted, hidden, or the limit's number and hour, chosen as below)"
pub data Verdict : Type 0 where
  accepted : Verdict
  hidden : Verdict
  limit : ℕ → ℕ → Verdict

unfoldable pub is_accepted : Verdict → Bool
is_accepted accepted = true
is_accepted hidden = false
is_accepted (limit n h) = false

-- accepted, unless a limit is passed
unfoldable pub verdict_of_row : Option Row → Verdict
verdict_of_row none = accepted
verdict_of_row (some r) = limit r.number r.hour

-- The order

-- by a list of tests: those that pass the first, of the others those that pass the second, and so on; last those that pass none
unfoldable pub by_class : {A : Type 0} → List (A → Bool) → List A → List A
by_class [] xs = xs
by_class (p ∷ ps) xs = keep p xs ++ by_class ps (keep (λ x. not (p x)) xs)

-- the class in which one is taken: the place of the first test that it passes
unfoldable pub class_by : {A : Type 0} → List (A → Bool) → A → ℕ
class_by [] x = 0
class_by (p ∷ ps) x = cond (p x) 0 (suc (class_by ps x))

-- one is taken before another: in an earlier class, or "within each, latest number first"
unfoldable pub is_before : {A : Type 0} → List (A → Bool) → (A → ℕ) → A → A → Bool
is_before classes number x y = ltb (class_by classes x) (class_by classes y) || (eqb (class_by classes x) (class_by classes y) && ltb (number y) (number x))

-- One after the other

-- one that was taken, by its number, with its verdict
pub record Judged : Type 0 where
  pub number : ℕ
  pub verdict : Verdict

-- each is judged with those accepted before it
unfoldable pub judge_each : {A : Type 0} → (A → ℕ) → (List A → A → Verdict) → List A → List A → List Judged
judge_each number judge before [] = []
judge_each number judge before (x ∷ xs) =
    let v = judge before x in
    record { number = number x; verdict = v } ∷ judge_each number judge (cond (is_accepted v) (x ∷ before) before) xs

-- the verdict of a number among those judged; one that was not taken is hidden
unfoldable pub verdict_among : List Judged → ℕ → Verdict
verdict_among [] n = hidden
verdict_among (j ∷ js) n = cond (eqb j.number n) j.verdict (verdict_among js n)

unfoldable pub unfold_judging : Unit {0}
unfolding is_accepted verdict_of_row by_class class_by is_before judge_each verdict_among
unfold_judging = tt

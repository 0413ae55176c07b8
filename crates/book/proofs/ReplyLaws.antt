-- What the queries respond, on a session that stands for a book.
use Prim.Native.Nat.{ℕ, ◌≤◌}
use mathlib.Core.Path.{◌≡◌, refl, sym, ap, ◌∙◌}
use mathlib.Core.Bool.{true, false, cond, ◌||◌, false≢true}
use mathlib.Core.List.{List, [], ◌∷◌}
use native.Mathlib.Omega.{arith}
use lib.Dec.{eqb, ltb}
use lib.IntN.{ℤ, pos}
use borrow.Author.Tests.{eq-eqb, ne_eqb, le-ltb}
use Rattle.rules.specs.Lists.{All, none, more, Pairwise, empty, ahead, any, first, sum, sum_of}
use Rattle.rules.specs.Refusals.{given, row, first_row, unless, outcome}
use Rattle.rules.specs.Hours.{not_an_hour}
use Rattle.rules.specs.Units.{Registered, has_number, unit_of, is_registered, bad_number, bad_unit}
use Rattle.rules.specs.Book.{Book, hours}
use Rattle.rules.specs.Closing as C
use Rattle.rules.specs.Borders.{positive, market_balance, execution_balance}
use Rattle.rules.specs.Clearing.{figures_at}
use Rattle.rules.specs.Queries as Q
use Rattle.rules.proofs.BoolLaws.{by_bool, neither, of-neither}
use Rattle.rules.proofs.ListLaws.{all_map}
use Rattle.rules.proofs.ElementLaws.{all_both}
use Rattle.answer.specs.Told.{shown, value_told, verdict_told, hidden, limit}
use Rattle.answer.specs.declared.Response.{Response}
use Rattle.book.specs.Demand3.{energy_in, is_acceptance}

-- What a response shows

module _ (r : Response) where
  pub number_of : (z : ℤ) → r ≡ shown (given (Q.number z)) → r.value ≡ z
  unfolding shown value_told
  number_of z e = ap (λ (x : Response). x.value) e

  pub energy-of : (n : ℕ) → r ≡ shown (given (Q.number (pos n))) → energy_in r ≡ n
  unfolding energy_in positive
  energy-of n e = rw (number_of (pos n) e)

acceptance-as : (v : C.Verdict) → is_acceptance (verdict_told v) ≡ C.is_accepted v
unfolding is_acceptance verdict_told C.is_accepted
acceptance-as C.accepted = refl
acceptance-as C.hidden = refl
acceptance-as (C.limit n h) = refl

-- a verdict is found again
abbrev verdict_of : Response → C.Verdict
verdict_of r = cond (eqb r.kind 0) C.accepted (cond (eqb r.kind 5) (C.limit r.row r.hour) C.hidden)

verdict-back : (v : C.Verdict) → verdict_of (verdict_told v) ≡ v
unfolding verdict_told
verdict-back C.accepted = refl
verdict-back C.hidden = refl
verdict-back (C.limit n h) = refl

module _ (r : Response) (v : C.Verdict) (e : r ≡ shown (given (Q.judged v))) where
  as-told : r ≡ verdict_told v
  unfolding shown value_told
  as-told = e

  pub acceptance-of : is_acceptance r ≡ C.is_accepted v
  acceptance-of = ap is_acceptance as-told ∙ acceptance-as v

  pub limit-of : (n h : ℕ) → r ≡ limit n h → v ≡ C.limit n h
  limit-of n h q = sym (verdict-back v) ∙ ap verdict_of (sym as-told ∙ q)

  pub hidden-of : r ≡ hidden → v ≡ C.hidden
  hidden-of q = sym (verdict-back v) ∙ ap verdict_of (sym as-told ∙ q)

  pub of_hidden : v ≡ C.hidden → r ≡ hidden
  unfolding verdict_told
  of_hidden q = as-told ∙ ap verdict_told q

pub told-limit : (r : Response) (v : C.Verdict) → r ≡ shown (given (Q.judged v)) → C.is_accepted v ≡ false → (v ≡ C.hidden → ⊥) → (n : ℕ) × (h : ℕ) × (r ≡ limit n h)
unfolding C.is_accepted shown value_told verdict_told
told-limit r C.accepted e a h = absurd (false≢true (sym a))
told-limit r C.hidden e a h = absurd (h refl)
told-limit r (C.limit n k) e a h = (n, k, e)

-- Elements of a list by their number

eqb-self : (n : ℕ) → eqb n n ≡ true
eqb-self n = eq-eqb n n refl

module _ {A : Type 0} (number : A → ℕ) where
  any-ahead : (n : ℕ) (x : A) (xs : List A) → any (λ y. eqb (number y) n) xs ≡ true → any (λ y. eqb (number y) n) (x ∷ xs) ≡ true
  unfolding any
  any-ahead n x xs h = by_bool (eqb (number x) n) (λ e. rw e) (λ e. rw (e, h))

  -- each is found
  pub all_found : (xs : List A) → All (λ x. any (λ y. eqb (number y) (number x)) xs ≡ true) xs
  unfolding any
  all_found [] = none
  all_found (x ∷ xs) = more {x = x} (rw (eqb-self (number x))) (all_map (λ y h. any-ahead (number y) x xs h) (all_found xs))

-- the entry of each unit's number is that unit
pub all-entries : {us : List Registered} → Pairwise (λ r s. r.unit.number ≡ s.unit.number → ⊥) us → All (λ r. unit_of us r.unit.number ≡ r) us
unfolding unit_of first has_number
all-entries empty = none
all-entries (ahead {x = x} {xs = xs} h t) =
    more {x = x} (rw (eqb-self x.unit.number)) (all_both (λ r k e. rw (ne_eqb x.unit.number r.unit.number k) e) h (all-entries t))

pub sum_same : {A : Type 0} {f g : A → ℕ} {xs : List A} → All (λ x. f x ≡ g x) xs → sum_of f xs ≡ sum_of g xs
unfolding sum_of sum
sum_same none = refl
sum_same {f = f} {g = g} (more {x} {xs} h t) = omega (arith, h, sum_same {f = f} {g = g} t)

-- What a query gives where no row refuses it

module _ (b : Book) where
  pub verdict-given : (n : ℕ) → b.closed ≡ true → Q.is_standing b n ≡ true → Q.query b (Q.verdict n) ≡ given (Q.judged (C.verdict_among (C.judgements b) n))
  unfolding Q.query Q.query_rows Q.shown outcome unless first_row row
  verdict-given n c s = rw (s, c)

  module _ (h : ℕ) (cleared : b.cleared ≡ true) (low : 1 ≤ h) (high : h ≤ hours b) where
    hour-good : not_an_hour (hours b) h ≡ false
    unfolding not_an_hour
    hour-good = of-neither (ne_eqb h 0 (λ e. absurd (omega arith))) (le-ltb (hours b) h high)

    pub matched-given : (u : ℕ) → bad_number u ≡ false → is_registered b.units u ≡ true → Q.query b (Q.matched u h) ≡ given (Q.number (pos (Q.matched_at b u h)))
    unfolding Q.query Q.query_rows Q.figure_rows Q.unit_rows Q.shown outcome unless first_row row
    matched-given u n r = rw (hour-good, n, r, cleared)

    pub executed-given : (u : ℕ) → bad_number u ≡ false → is_registered b.units u ≡ true → Q.query b (Q.executed u h) ≡ given (Q.number (pos (Q.executed_at b u h)))
    unfolding Q.query Q.query_rows Q.figure_rows Q.unit_rows Q.shown outcome unless first_row row
    executed-given u n r = rw (hour-good, n, r, cleared)

    module _ (border : ℕ) (first : 1 ≤ border) (last : border ≤ 4) where
      border-good : (eqb border 0 || ltb 4 border) ≡ false
      border-good = of-neither (ne_eqb border 0 (λ e. absurd (omega arith))) (le-ltb 4 border last)

      pub market-given : Q.query b (Q.market border h) ≡ given (Q.number (market_balance border (figures_at b h).offers))
      unfolding Q.query Q.query_rows Q.figure_rows Q.border_rows Q.shown outcome unless first_row row
      market-given = rw (hour-good, border-good, cleared)

      pub bilateral-given : Q.query b (Q.bilateral border h) ≡ given (Q.number (execution_balance border (figures_at b h).executions))
      unfolding Q.query Q.query_rows Q.figure_rows Q.border_rows Q.shown outcome unless first_row row
      bilateral-given = rw (hour-good, border-good, cleared)

-- a unit within its ranges has a number in its range
pub number-good : (r : Registered) → bad_unit r.unit ≡ false → bad_number r.unit.number ≡ false
unfolding bad_unit
number-good r h = (neither _ _ (neither _ _ (neither _ _ (neither _ _ (neither _ _ h).0).0).0).0).0

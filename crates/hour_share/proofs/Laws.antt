-- The loops of Share give the rules' Share.
use Rattle.std.proofs.Common.{◌≡◌, cond, eqb, ltb, min, ℕ, zero, suc, ◌+◌, ◌*◌, ◌-◌, ◌/◌, ◌≤◌, ◌<◌, List, [], ◌∷◌, ◌++◌, map, length, get_or, take, drop, set, replicate, refl, sym, ap, ap₂, ◌∙◌, append-nil, arith, add-one, drop-cons}
use native.Mathlib.Nat.{zero-mul, div-zero, zero-div}
use lib.ListN.{drop_of_length-le}
use lib.Seq.{take-suc, take-suc-set, take_all, append_snoc, drop-set-lt}
use Rattle.std.specs.List.{sum as fold_sum, refill}
use Rattle.std.proofs.lemmas.List.Recursion.{is_sum_by}
use Rattle.rules.specs.Lists.{sum, add_each, from}
use Rattle.rules.specs.Units.{max_energy}
use Rattle.rules.proofs.ShareLaws.{pro-rata-le, share-le, share-length}
use Rattle.rules.proofs.IndexLaws.{map-small}
use Rattle.rules.specs.Share.{pro_rata, hand_out, share}
use Rattle.rules.proofs.SumLaws.{cond-le}
use Rattle.rules.proofs.IndexLaws.{from_next}
use borrow.Author.Tests.{lt-ltb, le-ltb}
use mathlib.Core.Bool.{false≢true}
use Rattle.std.specs.Prelude.{Some, None, position}
use Rattle.std.specs.Option.{option_eq}
use Rattle.std.specs.List.{position_or_len}
use Rattle.std.proofs.lemmas.Option.{none-some}
use Rattle.std.proofs.lemmas.List.{take_rest, length-drop, length-replicate}
use Rattle.std.proofs.lemmas.Bool.{ltb-true, ltb-false}
use Rattle.std.proofs.lemmas.List.Sums.{fails_before_first}
use Rattle.std.proofs.lemmas.List.Quantifiers.{position-Some}
use Rattle.rules.proofs.BoolLaws.{by_bool}
use Rattle.hour_share.specs.declared.Amount.{Amount}
use Rattle.hour_share.specs.Deductions.{Ranged, AmountInRange, energy_in, deductions_in, deductions_over, deductions_from}

-- "G 0 loses nothing", and so does an amount of 0
pub none_held : (r g m : ℕ) → m ≡ 0 → 0 ≡ pro_rata r g m
unfolding pro_rata
none_held r g m z = let o : r * 0 ≡ 0 = omega arith in rw (z, o) (sym (zero-div g))

pub none-deducted : (r g m : ℕ) → g ≡ 0 → 0 ≡ pro_rata r g m
unfolding pro_rata
none-deducted r g m z = rw z (sym (div-zero (r * m)))

-- "R × m / G rounded down"
pub deducted : (r g m : ℕ) → r * m / g ≡ pro_rata r g m
unfolding pro_rata
deducted r g m = refl

-- the library's sum and the rules'
pub sum-is : (xs : List ℕ) → fold_sum xs ≡ sum xs
unfolding sum
sum-is xs = sym (is_sum_by sum (λ x. x) refl (λ _ _. refl) xs)

pub sum-small : (b : ℕ) (xs : List ℕ) → ((i : ℕ) → get_or xs i 0 ≤ b) → sum xs ≤ b * length xs
unfolding sum
sum-small b [] h = omega arith
sum-small b (x ∷ xs) h = omega (arith, h 0, sum-small b xs (λ i. h (suc i)))

-- One more amount passed, as the leftover goes out

hand-one : (k m : ℕ) (ms : List ℕ) → 0 < k → 0 < m → hand_out k (m ∷ ms) ≡ 1 ∷ hand_out (k - 1) ms
unfolding hand_out
hand-one zero m ms h g = absurd (omega arith)
hand-one (suc k) zero ms h g = absurd (omega arith)
hand-one (suc k) (suc m) ms h g = let o : suc k - 1 ≡ k = omega arith in rw o

hand-none : (k m : ℕ) (ms : List ℕ) → (0 < m → k ≤ 0) → hand_out k (m ∷ ms) ≡ 0 ∷ hand_out k ms
unfolding hand_out
hand-none zero m ms h = refl
hand-none (suc k) zero ms h = refl
hand-none (suc k) (suc m) ms h = absurd (omega (arith, h (omega arith)))

module _ (ds ms : List ℕ) (i k : ℕ) (e : length ds ≡ length ms) (h : i < length ms) where
  pub one_out : 0 < get_or ms i 0 → 0 < k
      → (let after = set ds i (get_or ds i 0 + 1) in
      take (i + 1) after ++ add_each (drop (i + 1) after) (hand_out (k - 1) (drop (i + 1) ms)) ≡ take i ds ++ add_each (drop i ds) (hand_out k (drop i ms)))
  unfolding add_each
  one_out m p =
      rw (
        add-one i,
        take-suc-set ds i (get_or ds i 0 + 1) (omega arith),
        drop-set-lt (suc i) ds i (get_or ds i 0 + 1) (omega arith),
        append_snoc (take i ds),
        drop-cons ds i 0 (omega arith),
        drop-cons ms i 0 h,
        hand-one k (get_or ms i 0) (drop (suc i) ms) p m,
      )

  pub none_out : (0 < get_or ms i 0 → k ≤ 0)
      → take (i + 1) ds ++ add_each (drop (i + 1) ds) (hand_out k (drop (i + 1) ms)) ≡ take i ds ++ add_each (drop i ds) (hand_out k (drop i ms))
  unfolding add_each
  none_out n =
      let o : get_or ds i 0 + 0 ≡ get_or ds i 0 = omega arith in
      rw (
        add-one i,
        take-suc ds i 0 (omega arith),
        append_snoc (take i ds),
        drop-cons ds i 0 (omega arith),
        drop-cons ms i 0 h,
        hand-none k (get_or ms i 0) (drop (suc i) ms) n,
        o,
      )

-- no unit goes to the first i
pub passed_out : (ds ms : List ℕ) (i k : ℕ) → length ds ≡ length ms → i ≤ length ms → ((j : ℕ) → j < i → 0 < get_or ms j 0 → k ≤ 0)
    → take i ds ++ add_each (drop i ds) (hand_out k (drop i ms)) ≡ add_each ds (hand_out k ms)
passed_out ds ms zero k e h f = refl
passed_out ds ms (suc i) k e h f =
    let n = none_out ds ms i k e (omega arith) (f i (omega arith)) in
    (rw (add-one i) at n) ∙ passed_out ds ms i k e (omega arith) (λ j l. f j (omega arith))

pub all_out : (ds ms : List ℕ) (i k : ℕ) {x : List ℕ} → length ds ≡ length ms → length ms ≤ i → take i ds ++ add_each (drop i ds) (hand_out k (drop i ms)) ≡ x → ds ≡ x
unfolding add_each hand_out
all_out ds ms i k e h p =
    sym (append-nil ds) ∙ (rw (take_all i ds (omega arith), drop_of_length-le ds {i = i} (omega arith), drop_of_length-le ms {i = i} h) at p)

-- the lowest index with an amount above 0: before it, and everywhere where there is none, they are 0
before-none : (ms : List ℕ) → position (ltb 0) ms ≡ None → (j : ℕ) → j < length ms → 0 < get_or ms j 0 → ⊥
before-none ms e j h g =
    by_bool (ltb (position_or_len (ltb 0) ms) (length ms))
    (λ t. absurd (none-some (position_or_len (ltb 0) ms) (sym e ∙ rw t refl)))
    (λ t. false≢true (sym (fails_before_first (ltb 0) ms j 0 (omega (arith, ltb-false _ _ t))) ∙ lt-ltb 0 (get_or ms j 0) g))

-- no amount takes a unit
pub none-takes : (ds ms : List ℕ) (k : ℕ) → length ds ≡ length ms → position (ltb 0) ms ≡ None → ds ≡ add_each ds (hand_out k ms)
none-takes ds ms k e n =
    all_out ds ms (length ms) k e (omega arith) (passed_out ds ms (length ms) k e (omega arith) (λ j l g. absurd (before-none ms n j l g)))

-- no unit is left
pub none-left : (ds ms : List ℕ) → length ds ≡ length ms → ds ≡ add_each ds (hand_out 0 ms)
none-left ds ms e = all_out ds ms (length ms) 0 e (omega arith) (passed_out ds ms (length ms) 0 e (omega arith) (λ j l g. omega arith))

-- one goes to the lowest, and the rest over the higher numbers: parts of both slices, as the code has them
pub one-taken : (ds ms : List ℕ) (k i : ℕ) {xs : List ℕ} → length ds ≡ length ms → 0 < k → position (ltb 0) ms ≡ Some i
    → (let after = set ds i (get_or ds i 0 + 1) in
    xs ≡ add_each (take (length after - (i + 1)) (drop (i + 1) after)) (hand_out (k - 1) (take (length ms - (i + 1)) (drop (i + 1) ms)))
    → take (i + 1) after ++ (xs ++ drop (length after - (i + 1)) (drop (i + 1) after)) ≡ add_each ds (hand_out k ms))
one-taken ds ms k i {xs} e p s q =
    let f = position-Some (ltb 0) ms i 0 s in
    let after = set ds i (get_or ds i 0 + 1) in
    rw (
      drop_of_length-le (drop (i + 1) after) {i = length after - (i + 1)} (omega (arith, length-drop (i + 1) after)),
      append-nil xs,
      q,
      take_rest after (i + 1),
      take_rest ms (i + 1),
    ) (one_out ds ms i k e f.0 (ltb-true 0 (get_or ms i 0) f.1) p)
    ∙ passed_out ds ms i k e (omega (arith, f.0)) (λ j l g. absurd (false≢true (sym (f.2 j l) ∙ lt-ltb 0 (get_or ms j 0) g)))

-- Rows of deductions added, in any order

pub add-comm : (ks ls : List ℕ) → add_each ks ls ≡ add_each ls ks
unfolding add_each
add-comm [] [] = refl
add-comm [] (l ∷ ls) = refl
add-comm (k ∷ ks) [] = refl
add-comm (k ∷ ks) (l ∷ ls) = let o : k + l ≡ l + k = omega arith in rw o (ap (λ x. (l + k) ∷ x) (add-comm ks ls))

add-assoc : (ks ls ms : List ℕ) → add_each (add_each ks ls) ms ≡ add_each ks (add_each ls ms)
unfolding add_each
add-assoc [] ls ms = refl
add-assoc (k ∷ ks) [] ms = refl
add-assoc (k ∷ ks) (l ∷ ls) [] = refl
add-assoc (k ∷ ks) (l ∷ ls) (m ∷ ms) = let o : k + l + m ≡ k + (l + m) = omega arith in rw o (ap (λ x. (k + (l + m)) ∷ x) (add-assoc ks ls ms))

-- An excess of 0 takes nothing

none-handed : (G k : ℕ) → k ≡ 0 → (ms : List ℕ) → add_each (map (pro_rata 0 G) ms) (hand_out k ms) ≡ map (λ m. 0) ms
unfolding add_each hand_out pro_rata
none-handed G k z [] = refl
none-handed G k z (m ∷ ms) = rw z (ap₂ (λ (n : ℕ) (l : List ℕ). n ∷ l) (rw (zero-mul m, zero-div G)) (none-handed G 0 refl ms))

pub share_none : (ms : List ℕ) → share 0 ms ≡ map (λ m. 0) ms
unfolding share
share_none ms = none-handed (sum ms) (0 - sum (map (pro_rata 0 (sum ms)) ms)) (omega arith) ms

pub add_none : {A : Type 0} (xs : List A) (ls : List ℕ) → length ls ≡ length xs → add_each (map (λ x. 0) xs) ls ≡ ls
unfolding add_each
add_none [] ls h = refl
add_none (x ∷ xs) [] h = absurd (omega arith)
add_none (x ∷ xs) (l ∷ ls) h = ap₂ (λ (n : ℕ) (r : List ℕ). n ∷ r) (omega arith) (add_none xs ls (omega arith))

pub unshared : (r : ℕ) (ms ds : List ℕ) → r ≡ 0 → length ds ≡ length ms → ds ≡ add_each (share r ms) ds
unshared r ms ds z e = rw (z, share_none ms) (sym (add_none ms ds e))

-- The pro rata deductions are within their amounts, and come to r at most

module _ (r g : ℕ) (ms : List ℕ) (h : r ≤ g) where
  pub floors-ranged : Ranged ms → Ranged (map (pro_rata r g) ms)
  floors-ranged k i = map-small max_energy (pro_rata r g) ms (λ m. pro-rata-le r g m h) k i

-- the leftover handed out over them
pub share-said : (r : ℕ) (ms ds : List ℕ) {g s : ℕ} {l x : List ℕ} → g ≡ sum ms → s ≡ sum (map (pro_rata r g) ms) → l ≡ add_each ds (map (pro_rata r g) ms)
    → x ≡ add_each l (hand_out (r - s) ms) → x ≡ add_each (share r ms) ds
unfolding share
share-said r ms ds {g} {s} eg es el ex =
    let fs = map (pro_rata r g) ms in
    ex ∙ ap (λ k. add_each k (hand_out (r - s) ms)) el ∙ add-assoc ds fs (hand_out (r - s) ms) ∙ add-comm ds (add_each fs (hand_out (r - s) ms)) ∙ rw (es, eg) refl

pub refilled : (ds xs : List ℕ) → length xs ≡ length ds → refill (length ds) ds xs ≡ xs
refilled ds xs e = rw (drop_of_length-le ds {i = length xs} (omega arith), append-nil xs) (take_all (length ds) xs (omega arith))

-- added to zeros, each row stays as it is
add_zeros : (n : ℕ) (ks : List ℕ) → length ks ≡ n → add_each ks (replicate n 0) ≡ ks
unfolding add_each
add_zeros zero [] h = refl
add_zeros (suc n) [] h = absurd (omega arith)
add_zeros zero (k ∷ ks) h = absurd (omega arith)
add_zeros (suc n) (k ∷ ks) h = ap₂ (λ (m : ℕ) (r : List ℕ). m ∷ r) (omega arith) (add_zeros n ks (omega arith))

-- Share added to zeros, and written over them
pub shared-alone : (r : ℕ) (ms : List ℕ) {ds xs : List ℕ} → r ≤ sum ms → ds ≡ replicate (length ms) 0 → xs ≡ add_each (share r ms) ds → refill (length ds) ds xs ≡ share r ms
shared-alone r ms {ds} {xs} h e q =
    let l = share-length r ms h in
    let x : xs ≡ share r ms = q ∙ ap (add_each (share r ms)) e ∙ add_zeros (length ms) (share r ms) l in
    refilled ds xs (ap length x ∙ l ∙ sym (length-replicate (length ms) 0) ∙ sym (ap length e)) ∙ x

-- One more amount passed, as the pro rata deductions are added

module _ (f : ℕ → ℕ) (ds ms : List ℕ) (i : ℕ) where
  pub floor-next : length ds ≡ length ms → i < length ms
      → (let after = set ds i (get_or ds i 0 + f (get_or ms i 0)) in
      take (i + 1) after ++ add_each (drop (i + 1) after) (map f (drop (i + 1) ms)) ≡ take i ds ++ add_each (drop i ds) (map f (drop i ms)))
  unfolding add_each
  floor-next e h =
      rw (
        add-one i,
        take-suc-set ds i (get_or ds i 0 + f (get_or ms i 0)) (omega arith),
        drop-set-lt (suc i) ds i (get_or ds i 0 + f (get_or ms i 0)) (omega arith),
        append_snoc (take i ds),
        drop-cons ds i 0 (omega arith),
        drop-cons ms i 0 h,
      )

  pub floor-sum : i < length ms → sum (map f (drop i ms)) ≡ f (get_or ms i 0) + sum (map f (drop (i + 1) ms))
  unfolding sum
  floor-sum h = rw (add-one i, drop-cons ms i 0 h)

  pub floors-end : {x : List ℕ} → length ds ≡ length ms → length ms ≤ i → take i ds ++ add_each (drop i ds) (map f (drop i ms)) ≡ x → ds ≡ x
  unfolding add_each
  floors-end e h p =
      sym (append-nil ds) ∙ (rw (take_all i ds (omega arith), drop_of_length-le ds {i = i} (omega arith), drop_of_length-le ms {i = i} h) at p)

  pub floors-counted : {c t : ℕ} → length ms ≤ i → c + sum (map f (drop i ms)) ≡ t → c ≡ t
  unfolding sum
  floors-counted h p = omega (arith, rw (drop_of_length-le ms {i = i} h) at p)

-- In one direction, and in one more

module _ (over : List ℕ) (ams : List Amount) where
  pub deductions-start : (d : ℕ) → 8 ≤ d → map (λ (a : Amount). 0) ams ≡ deductions_from over ams d
  unfolding deductions_from deductions_over from
  deductions-start d h = let o : 8 - d ≡ 0 = omega arith in rw o

  deductions-here : (d : ℕ) → d < 8 → deductions_from over ams d
      ≡ cond (ltb 0 (get_or over d 0)) (add_each (deductions_in ams (get_or over d 0) d) (deductions_from over ams (d + 1))) (deductions_from over ams (d + 1))
  unfolding deductions_from deductions_over
  deductions-here d h = rw (from_next 8 d h)

  pub deductions-more : (d : ℕ) (s : List ℕ) {lost next : List ℕ} → d < 8 → 0 < get_or over d 0
      → lost ≡ deductions_in ams (get_or over d 0) d → s ≡ deductions_from over ams (d + 1) → next ≡ add_each lost s → next ≡ deductions_from over ams d
  deductions-more d s h k el es en = rw (deductions-here d h, lt-ltb 0 (get_or over d 0) k, en, el, es)

  pub deductions-same : (d : ℕ) → d < 8 → get_or over d 0 ≤ 0 → deductions_from over ams (d + 1) ≡ deductions_from over ams d
  deductions-same d h k = rw (deductions-here d h, le-ltb 0 (get_or over d 0) k)

pub zeros-of : (n i : ℕ) → get_or (replicate n 0) i 0 ≤ 0
zeros-of zero i = omega arith
zeros-of (suc n) zero = omega arith
zeros-of (suc n) (suc i) = zeros-of n i

pub zeros-map : {A : Type 0} (f : A → Amount) (xs : List A) → replicate {A = ℕ} (length xs) 0 ≡ map (λ (a : Amount). 0) (map f xs)
zeros-map f [] = refl
zeros-map f (x ∷ xs) = ap (λ (l : List ℕ). 0 ∷ l) (zeros-map f xs)

-- one energy more, in its range
pub ranged-last : (xs : List ℕ) (x : ℕ) → Ranged xs → x ≤ max_energy → Ranged (xs ++ (x ∷ []))
ranged-last [] x r h zero = h
ranged-last [] x r h (suc i) = omega arith
ranged-last (y ∷ ys) x r h zero = r 0
ranged-last (y ∷ ys) x r h (suc i) = ranged-last ys x (λ j. r (suc j)) h i

pub energy-ranged : (d : ℕ) (a : Amount) → AmountInRange a → energy_in d a ≤ max_energy
unfolding energy_in
energy-ranged d a h = omega (arith, cond-le (option_eq eqb a.direction (Some d)) a.energy, h)

-- with one row more, sums grow by the largest energy at most
pub sums-small : (b : ℕ) (xs ss : List ℕ) → Ranged xs → ((i : ℕ) → get_or ss i 0 ≤ b) → (i : ℕ) → get_or (add_each xs ss) i 0 ≤ b + max_energy
unfolding add_each
sums-small b [] ss r h i = omega (arith, h i)
sums-small b (x ∷ xs) [] r h i = omega (arith, r i)
sums-small b (x ∷ xs) (s ∷ ss) r h zero = omega (arith, r 0, h 0)
sums-small b (x ∷ xs) (s ∷ ss) r h (suc i) = sums-small b xs ss (λ j. r (suc j)) (λ j. h (suc j)) i

pub sums-length : (xs ss : List ℕ) → length xs ≡ length ss → length (add_each xs ss) ≡ length ss
unfolding add_each
sums-length [] ss e = refl
sums-length (x ∷ xs) [] e = absurd (omega arith)
sums-length (x ∷ xs) (s ∷ ss) e = ap suc (sums-length xs ss (omega arith))

-- no deduction is above its amount
pub lost-ranged : (r : ℕ) (ms : List ℕ) → r ≤ sum ms → Ranged ms → Ranged (share r ms)
lost-ranged r ms h k i = omega (arith, share-le r ms h i, k i)

-- what each loses in one direction
module _ (excess d : ℕ) (ams : List Amount) where
  pub lost-said : {x ms : List ℕ} → ms ≡ map (energy_in d) ams → x ≡ share (min excess (sum ms)) ms → x ≡ deductions_in ams excess d
  unfolding deductions_in
  lost-said em ex = rw (ex, em)

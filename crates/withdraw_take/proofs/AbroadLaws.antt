-- What is taken from all offers is what is taken from those at a border: the domestic ones give nothing and lose nothing.
use Rattle.std.proofs.Common.{ℕ, zero, suc, ◌+◌, ◌-◌, ◌≡◌, refl, sym, ◌∙◌, ap, ap₂, min, Bool, true, false, cond, ◌&&◌, List, [], ◌∷◌, map, arith}
use mathlib.Core.List.{map-map}
use Rattle.rules.specs.Lists.{Each, each0, each, any, keep, sum, add_each}
use Rattle.rules.specs.Share.{pro_rata, hand_out, share}
use Rattle.rules.specs.Match.{Offer, with_energies}
use Rattle.rules.specs.Borders.{Directed, at_border, keeps}
use Rattle.rules.specs.Withdrawal.{Group, runs_in, runs_among, in_group, gives_way, amounts, deductions, all_deductions, remain, take_from}
use Rattle.rules.proofs.BoolLaws.{by_bool, neither}
use Rattle.rules.proofs.ElementLaws.{each-refl}
use Rattle.hour_share.proofs.Laws.{none_held}
use Rattle.hour_borders.specs.Directions.{over_in}
use Rattle.withdraw_keep.specs.Abroad.{crosses, abroad_of}
use Rattle.withdraw_keep.proofs.AbroadLaws.{Homed, home-runs}
use Rattle.withdraw_take.specs.Given.{gives_in}
use Rattle.withdraw_take.proofs.GivenLaws.{gives-among, left-none}

-- the numbers of offers at a border, among those of all
only : List Offer → List ℕ → List ℕ
only [] ns = []
only (o ∷ os) [] = []
only (o ∷ os) (n ∷ ns) = cond (crosses o) (n ∷ only os ns) (only os ns)

add_none : (xs : List ℕ) → xs ≡ add_each xs []
unfolding add_each
add_none [] = refl
add_none (x ∷ xs) = refl

only-added : (os : List Offer) (xs ys : List ℕ) → only os (add_each xs ys) ≡ add_each (only os xs) (only os ys)
unfolding only add_each
only-added [] xs ys = refl
only-added (o ∷ os) [] ys = refl
only-added (o ∷ os) (x ∷ xs) [] = add_none (only (o ∷ os) (x ∷ xs))
only-added (o ∷ os) (x ∷ xs) (y ∷ ys) =
    by_bool (crosses o) (λ t. rw t (ap (λ l. (x + y) ∷ l) (only-added os xs ys))) (λ t. rw t (only-added os xs ys))

only-map : (f : Offer → ℕ) (os : List Offer) → only os (map f os) ≡ map f (abroad_of os)
unfolding only abroad_of keep
only-map f [] = refl
only-map f (o ∷ os) = by_bool (crosses o) (λ t. rw t (ap (λ l. f o ∷ l) (only-map f os))) (λ t. rw t (only-map f os))

-- a unit handed out along offers, or past one
module _ (o : Offer) (os : List Offer) (ms ns : List ℕ) (h : (k : ℕ) → only os (hand_out k ms) ≡ hand_out k ns) where
  hand-here : crosses o ≡ true → (k m : ℕ) → only (o ∷ os) (hand_out k (m ∷ ms)) ≡ hand_out k (m ∷ ns)
  unfolding only hand_out
  hand-here t zero m = rw t (ap (λ l. 0 ∷ l) (h zero))
  hand-here t (suc k) zero = rw t (ap (λ l. 0 ∷ l) (h (suc k)))
  hand-here t (suc k) (suc m) = rw t (ap (λ l. 1 ∷ l) (h k))

  hand-past : crosses o ≡ false → (k m : ℕ) → m ≡ 0 → only (o ∷ os) (hand_out k (m ∷ ms)) ≡ hand_out k ns
  unfolding only hand_out
  hand-past t zero m z = rw t (h zero)
  hand-past t (suc k) zero z = rw t (h (suc k))
  hand-past t (suc k) (suc m) z = absurd (omega arith)

sum-abroad : (f : Offer → ℕ) → ((o : Offer) → crosses o ≡ false → f o ≡ 0) → (os : List Offer) → sum (map f (abroad_of os)) ≡ sum (map f os)
unfolding abroad_of keep sum
sum-abroad f z [] = refl
sum-abroad f z (o ∷ os) = by_bool (crosses o) (λ t. rw t (ap (λ n. f o + n) (sum-abroad f z os))) (λ t. let i : sum (map f (keep crosses os)) ≡ sum (map f os) = sum-abroad f z os in rw (t, z o t) (omega (arith, i)))

module _ (f : Offer → ℕ) (z : (o : Offer) → crosses o ≡ false → f o ≡ 0) where
  hand-abroad : (os : List Offer) (k : ℕ) → only os (hand_out k (map f os)) ≡ hand_out k (map f (abroad_of os))
  unfolding abroad_of keep hand_out only
  hand-abroad [] k = refl
  hand-abroad (o ∷ os) k =
      by_bool (crosses o)
      (λ t. rw t (hand-here o os (map f os) (map f (keep crosses os)) (hand-abroad os) t k (f o)))
      (λ t. rw t (hand-past o os (map f os) (map f (keep crosses os)) (hand-abroad os) t k (f o) (z o t)))

  share-abroad : (r : ℕ) (os : List Offer) → only os (share r (map f os)) ≡ share r (map f (abroad_of os))
  unfolding share
  share-abroad r os =
      let g = sum (map f os) in
      let h : Offer → ℕ = λ o. pro_rata r g (f o) in
      let e : sum (map f (abroad_of os)) ≡ g = sum-abroad f z os in
      let m : map (pro_rata r g) (map f os) ≡ map h os = map-map (pro_rata r g) f os in
      let n : map (pro_rata r g) (map f (abroad_of os)) ≡ map h (abroad_of os) = map-map (pro_rata r g) f (abroad_of os) in
      let s : sum (map h (abroad_of os)) ≡ sum (map h os) = sum-abroad h (λ o t. sym (none_held r g (f o) (z o t))) os in
      rw (e, m, n, s) (only-added os (map h os) (hand_out (r - sum (map h os)) (map f os)) ∙ ap₂ add_each (only-map h os) (hand-abroad os (r - sum (map h os))))

module _ (g : Group) where
  -- what is taken in one direction
  lost-abroad : (d : Directed) → ((o : Offer) → crosses o ≡ false → runs_in d o ≡ false) → (os : List Offer) → only os (deductions g os d) ≡ deductions g (abroad_of os) d
  unfolding deductions amounts gives_way
  lost-abroad d h os =
      let f : Offer → ℕ = λ o. cond (runs_in d o && in_group g o) (at_border o.holder o.matched) 0 in
      let z : (o : Offer) → crosses o ≡ false → f o ≡ 0 = λ o t. rw (h o t) refl in
      rw (sum-abroad f z os) (share-abroad f z (min d.energy (sum (map f os))) os)

  -- and in all
  all-abroad : (ds : List Directed) → ((o : Offer) → crosses o ≡ false → runs_among ds o ≡ false) → (os : List Offer) → only os (all_deductions g os ds) ≡ all_deductions g (abroad_of os) ds
  unfolding all_deductions runs_among any
  all-abroad [] h os = only-map (λ o. 0) os
  all-abroad (d ∷ ds) h os =
      only-added os (deductions g os d) (all_deductions g os ds)
      ∙ ap₂ add_each (lost-abroad d (λ o t. (neither (runs_in d o) (runs_among ds o) (h o t)).0) os) (all-abroad ds (λ o t. (neither (runs_in d o) (runs_among ds o) (h o t)).1) os)

remain-abroad : (p : Offer → Bool) (ks : List ℕ) (os : List Offer) → abroad_of (remain p ks os) ≡ remain p (only os ks) (abroad_of os)
unfolding abroad_of keep remain only crosses with_energies
remain-abroad p [] [] = refl
remain-abroad p (k ∷ ks) [] = refl
remain-abroad p [] (o ∷ os) = sym (left-none p (keep crosses (o ∷ os)))
remain-abroad p (k ∷ ks) (o ∷ os) = by_bool (crosses o) (λ t. rw t (ap (λ (l : List Offer). with_energies (cond (p o) (keeps o.holder o.matched k) o.offered) o.matched o ∷ l) (remain-abroad p ks os))) (λ t. rw t (remain-abroad p ks os))

homed : (o : Offer) → Homed o o
homed o = record { same = refl; home = λ t. refl }

remain-homed : (p : Offer → Bool) → ((o : Offer) → crosses o ≡ false → p o ≡ false) → (ks : List ℕ) (os : List Offer) → Each Homed os (remain p ks os)
unfolding remain crosses with_energies
remain-homed p h [] [] = each0
remain-homed p h (k ∷ ks) [] = each0
remain-homed p h [] (o ∷ os) = each-refl homed (o ∷ os)
remain-homed p h (k ∷ ks) (o ∷ os) = each {x = o} (record { same = refl; home = λ t. rw (h o t) refl }) (remain-homed p h ks os)

module _ (g : Group) (over : List ℕ) where
  -- 3. and 4. of the offers at a border, and of all
  pub take-abroad : (os : List Offer) → abroad_of (take_from g (over_in over) os) ≡ take_from g (over_in over) (abroad_of os)
  unfolding take_from
  take-abroad os =
      remain-abroad (gives_in g (over_in over)) (all_deductions g os (over_in over)) os
      ∙ ap (λ ks. remain (gives_in g (over_in over)) ks (abroad_of os)) (all-abroad g (over_in over) (home-runs over) os)

  pub take-homed : (os : List Offer) → Each Homed os (take_from g (over_in over) os)
  unfolding take_from
  take-homed os = remain-homed (gives_in g (over_in over)) (λ o t. rw (gives-among g (over_in over) o, home-runs over o t) refl) (all_deductions g os (over_in over)) os

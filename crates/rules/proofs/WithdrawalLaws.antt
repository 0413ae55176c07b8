-- A withdrawal step: no offer offers more after it, holders and prices stay, and what it takes is gone from what is offered.
use Prim.Native.Nat.{ℕ, pred, ◌+◌, ◌-◌, ◌≤◌, ◌<◌, min, zero-le}
use mathlib.Core.Path.{◌≡◌, refl, ap, sym, ◌∙◌}
use mathlib.Core.Bool.{Bool, true, false, cond, not, ◌&&◌}
use mathlib.Core.List.{List, [], ◌∷◌, map}
use native.Mathlib.Omega.{arith}
use native.Mathlib.Nat.{le_trans, le_refl}
use lib.ListN.{length, length-map}
use Rattle.rules.specs.Lists.{none, more, Each3, three0, three, keep, any, sum, sum_of}
use Rattle.rules.specs.Match.{Offer, with_energies, matched_of, match_all}
use Rattle.rules.specs.Borders.{Directed, runs, at_border, keeps, Largest, flow}
use Rattle.rules.specs.Withdrawal.{runs_in, runs_among, keep_matched, Group, in_group, gives_way, amounts, deductions, DeductionsCounted, all_deductions, remain, take_from, TakenLargest, group_of, step, step_bound}
use Rattle.rules.proofs.BoolLaws.{by_bool, both}
use Rattle.rules.proofs.ListLaws.{all_map, all-mapped}
use Rattle.rules.proofs.ElementLaws.{all-every, Some, here, there, some-map, empty, ahead, Each, each0, each, each_map, each-trans, each-pairwise}
use Rattle.rules.proofs.ShareLaws.{Under, under0, under, under-length, each-sum, add-length, share-sum, share-under}
use Rattle.rules.proofs.SumLaws.{cond-le, masked, zeros-under, under-add}
use Rattle.rules.proofs.MatchLaws.{Rising, Within}
use Rattle.rules.proofs.DirectionLaws.{Once, runs_none}
use Rattle.rules.proofs.CrossingLaws.{kept_less, kept-le, keeps-largest}

-- An offer against what it was before: the same holder and price, and it offers no more.
pub record Lowered (before after : Offer) : Type 0 where
  pub holder : after.holder ≡ before.holder
  pub price : after.price ≡ before.price
  pub offered : after.offered ≤ before.offered

-- an offer against itself
pub lowered-refl : (o : Offer) → Lowered o o
lowered-refl o = record { holder = refl; price = refl; offered = le_refl o.offered }

-- an offer against what it was before two changes
pub lowered-trans : (a b c : Offer) → Lowered a b → Lowered b c → Lowered a c
lowered-trans a b c h k =
    record { holder = k.holder ∙ h.holder; price = k.price ∙ h.price; offered = le_trans k.offered h.offered }

-- numbers still rise
pub lowered-rising : {os ps : List Offer} → Each Lowered os ps → Rising os → Rising ps
lowered-rising = each-pairwise (λ a b x y r s h. rw (r.holder, s.holder) h)

-- no more is offered in all
pub lowered-total : {os ps : List Offer} → Each Lowered os ps → step_bound ps ≤ step_bound os
unfolding step_bound sum_of sum
lowered-total each0 = zero-le
lowered-total (each h t) = omega (arith, h.offered, lowered-total t)

-- 1. "keep only what is matched"

-- what is kept is between what is matched and what was offered
kept-between : (b : Bool) {m e : ℕ} → m ≤ e → (m ≤ cond b m e) × (cond b m e ≤ e)
kept-between true {m} h = (le_refl m, h)
kept-between false {e} h = (h, le_refl e)

module _ (ds : List Directed) where
  -- then no offer offers more
  pub kept-lowered : {os : List Offer} → Within os → Each Lowered os (map (keep_matched ds) os)
  unfolding keep_matched with_energies
  kept-lowered w =
      each_map (keep_matched ds) (all_map (λ o h. record { holder = refl; price = refl; offered = (kept-between (runs_among ds o && not o.holder.legacy) h).1 }) w)

  -- and each still offers what it has matched
  pub kept-within : {os : List Offer} → Within os → Within (map (keep_matched ds) os)
  unfolding keep_matched with_energies
  kept-within w = all-mapped (keep_matched ds) (all_map (λ o h. (kept-between (runs_among ds o && not o.holder.legacy) h).0) w)

-- 3. and 4. "is taken by Share"

-- what an offer's matched energy counts for at its border
abbrev counted : Offer → ℕ
counted o = at_border o.holder o.matched

-- who gives way in a direction runs in it
gives-runs : (g : Group) (d : Directed) (o : Offer) → gives_way g d o ≡ true → runs d.border d.export o.holder ≡ true
unfolding gives_way runs_in
gives-runs g d o h = (both (runs d.border d.export o.holder) (in_group g o) h).0

module _ (g : Group) (os : List Offer) where
  -- no offer that gives way in a direction loses more than its matched energy counts for
  pub deductions-under : (d : Directed) → Under (deductions g os d) (amounts g d os)
  unfolding deductions
  deductions-under d = share-under _ _ (omega arith)

  -- "the lesser of the excess and the matched [..] energy"
  pub deductions-sum : (d : Directed) → sum (deductions g os d) ≡ min d.energy (sum (amounts g d os))
  unfolding deductions
  deductions-sum d = share-sum _ _ (omega arith)

  -- in all directions together too no offer loses more than that
  pub all_under : {ds : List Directed} → Once ds → Under (all_deductions g os ds) (masked (λ o. any (λ d. gives_way g d o) ds) counted os)
  unfolding all_deductions any amounts
  all_under empty = zeros-under os
  all_under (ahead {x = d} {xs = ds} a t) =
      under-add counted (gives_way g d) (λ o. any (λ e. gives_way g e o) ds) (runs_none (λ o. o.holder) (gives_way g) (gives-runs g) a) os (deductions-under d) (all_under t)

  -- each offer has a deduction
  all-length : (ds : List Directed) → length (all_deductions g os ds) ≡ length os
  unfolding all_deductions amounts
  all-length [] = length-map os _
  all-length (d ∷ ds) =
      add-length (deductions g os d) (all_deductions g os ds) (under-length (deductions-under d) ∙ length-map os _ ∙ sym (all-length ds)) ∙ all-length ds

  -- a deduction in one direction is a deduction
  all-some : {ds : List Directed} → Some (λ d. 0 < sum (deductions g os d)) ds → 0 < sum (all_deductions g os ds)
  unfolding all_deductions
  all-some (here {x = d} {xs = ds} h) = omega (arith, each-sum (deductions g os d) (all_deductions g os ds))
  all-some (there {x = d} {xs = ds} s) = omega (arith, each-sum (deductions g os d) (all_deductions g os ds), all-some s)

-- what the offers of a group that run in a direction count for there
group-flow : (g : Group) (d : Directed) (os : List Offer)
    → sum (amounts g d os) ≡ flow (λ o. o.holder) (λ o. o.matched) d.border d.export (keep (in_group g) os)
unfolding amounts gives_way runs_in flow keep sum_of sum
group-flow g d [] = refl
group-flow g d (o ∷ os) =
    by_bool (in_group g o)
    (λ e. by_bool (runs d.border d.export o.holder) (λ r. rw (e, r) (omega (arith, group-flow g d os))) (λ r. rw (e, r) (omega (arith, group-flow g d os))))
    (λ e. by_bool (runs d.border d.export o.holder) (λ r. rw (e, r) (omega (arith, group-flow g d os))) (λ r. rw (e, r) (omega (arith, group-flow g d os))))

-- no deduction is above what its offer counts for
none-above : (p : Offer → Bool) {ks : List ℕ} (os : List Offer) → Under ks (masked p counted os) → Each (λ k o. k ≤ counted o) ks os
none-above p [] under0 = each0
none-above p (o ∷ os) (under h u) = each (le_trans h (cond-le (p o) (counted o))) (none-above p os u)

pub deductions-counted : DeductionsCounted
unfolding amounts
deductions-counted g os d =
    record { lesser = deductions-sum g os d ∙ ap (min d.energy) (group-flow g d os); no_more = none-above (gives_way g d) os (deductions-under g os d) }

-- what is left is at most what was offered
left_le : (o : Offer) (b : Bool) (k : ℕ) → o.matched ≤ o.offered → cond b (keeps o.holder o.matched k) o.offered ≤ o.offered
left_le o true k h = le_trans (kept-le o.holder o.matched k) h
left_le o false k h = le_refl o.offered

module _ (p : Offer → Bool) where
  -- all that is taken is gone from what is offered
  remain-total : {ls : List ℕ} (os : List Offer) → Under ls (masked p counted os) → Within os → step_bound (remain p ls os) + sum ls ≤ step_bound os
  unfolding step_bound sum_of sum remain with_energies
  remain-total [] under0 none = zero-le
  remain-total (o ∷ os) (under {a = k} h u) (more w v) =
      by_bool (p o) (λ e. rw e (omega (arith, kept_less o.holder o.matched k (rw e at h), remain-total os u v)))
      (λ e. rw e (omega (arith, rw e at h, remain-total os u v)))

  -- who gives way has the largest energy with the border figure that is left
  remain-largest : (ks : List ℕ) (os : List Offer) → length ks ≡ length os
      → Each3 (λ x k y. p x ≡ true → Largest x.holder.loss x.matched (at_border x.holder x.matched - k) y.offered) os ks (remain p ks os)
  unfolding remain with_energies
  remain-largest [] [] h = three0
  remain-largest (k ∷ ks) [] h = absurd (omega arith)
  remain-largest [] (o ∷ os) h = absurd (omega arith)
  remain-largest (k ∷ ks) (o ∷ os) h = three (λ e. rw e (keeps-largest o.holder o.matched k)) (remain-largest ks os (ap pred h))

  -- and no offer offers more
  remain-lowered : {ls : List ℕ} (os : List Offer) → Under ls (masked p counted os) → Within os → Each Lowered os (remain p ls os)
  unfolding remain with_energies
  remain-lowered [] under0 none = each0
  remain-lowered (o ∷ os) (under {a = k} h u) (more w v) =
      each (record { holder = refl; price = refl; offered = left_le o (p o) k w }) (remain-lowered os u v)

module _ (g : Group) {ds : List Directed} (once : Once ds) {os : List Offer} (w : Within os) where
  -- after the taking no offer offers more
  pub take-lowered : Each Lowered os (take_from g ds os)
  unfolding take_from
  take-lowered = remain-lowered _ os (all_under g os once) w

  -- where a direction has an excess and an amount to take it from, less is offered afterwards
  pub take_less : Some (λ d. (0 < d.energy) × (0 < sum (amounts g d os))) ds → step_bound (take_from g ds os) < step_bound os
  unfolding take_from
  take_less s =
      omega (arith, remain-total (λ o. any (λ d. gives_way g d o) ds) os (all_under g os once) w, all-some g os (some-map (λ d h. omega (arith, deductions-sum g os d)) s))

pub taken-largest : TakenLargest
unfolding take_from
taken-largest g ds os = remain-largest (λ o. any (λ d. gives_way g d o) ds) (all_deductions g os ds) os (all-length g os ds)

-- 5. "Match again."

-- the match changes nothing offered
pub match-lowered : (os : List Offer) → Each Lowered os (match_all os)
unfolding match_all with_energies
match-lowered os =
    each_map (λ o. with_energies o.offered (matched_of os o) o) (all-every (λ o. record { holder = refl; price = refl; offered = le_refl o.offered }) os)

-- the whole step: no offer offers more, holders and prices stay
pub step-lowered : (ds : List Directed) (os : List Offer) → Once ds → Within os → Each Lowered os (step ds os)
unfolding step
step-lowered ds os once w =
    let kept = map (keep_matched ds) os in
    let g = group_of ds kept in
    each-trans lowered-trans (kept-lowered ds w) (each-trans lowered-trans (take-lowered g once (kept-within ds w)) (match-lowered (take_from g ds kept)))

-- One turn of the loops over the offers at a border, and their ends.
use Rattle.std.proofs.Common.{ℕ, ◌+◌, ◌≡◌, refl, sym, ◌∙◌, ap, ◌<◌, ◌≤◌, cond, List, [], ◌∷◌, ◌++◌, map, take, drop, length, get_or, set, append-nil, add-one, drop-cons, arith}
use Rattle.std.proofs.Math.Seq.{set-append_seam, append_snoc}
use Rattle.std.proofs.lemmas.List.{length-map, length-take, map-set}
use mathlib.Core.List.{map-append}
use lib.ListN.{drop_of_length-le}
use lib.Seq.{take-suc}
use borrow.Author.Tests.{eq-eqb, ne_eqb}
use Rattle.rules.specs.Lists.{keep}
use Rattle.rules.specs.Match.{Offer}
use Rattle.hour_offers.specs.declared.Offer.{Offer as Held}
use Rattle.hour_offers.specs.View.{offer_in, offers_in}
use Rattle.hour_match.specs.Orders.{nth}
use Rattle.hour_match.specs.Walks.{named}
use Rattle.hour_match.proofs.ViewLaws.{blank, read-offer}
use Rattle.withdraw_keep.specs.Abroad.{crosses, abroad_of, places_from, put_at}

-- Indices

module _ (xs : List Held) (i : ℕ) (d : Held) (h : i < length xs) (ps : List ℕ) where
  abbrev rest : List ℕ
  rest = places_from (i + 1) (offers_in (drop (i + 1) xs))

  next : places_from i (offers_in (drop i xs)) ≡ cond (crosses (offer_in (get_or xs i d))) (i ∷ rest) rest
  unfolding places_from
  next = rw (add-one i, drop-cons xs i d h)

  pub place-taken : 0 < (get_or xs i d).holder.border → (ps ++ (i ∷ [])) ++ rest ≡ ps ++ places_from i (offers_in (drop i xs))
  unfolding crosses
  place-taken b = append_snoc ps i rest ∙ sym (ap (λ l. ps ++ l) (next ∙ rw (ne_eqb (get_or xs i d).holder.border 0 (λ z. absurd (omega arith))) refl))

  pub place-left : (get_or xs i d).holder.border ≤ 0 → ps ++ rest ≡ ps ++ places_from i (offers_in (drop i xs))
  unfolding crosses
  place-left b = sym (ap (λ l. ps ++ l) (next ∙ rw (eq-eqb (get_or xs i d).holder.border 0 (omega arith)) refl))

pub places-end : (xs : List Held) (i : ℕ) (ps : List ℕ) {qs : List ℕ} → length xs ≤ i → ps ++ places_from i (offers_in (drop i xs)) ≡ qs → ps ≡ qs
unfolding places_from
places-end xs i ps h e = sym (append-nil ps) ∙ (rw (drop_of_length-le xs {i = i} h) at e)

-- What stands there

module _ (xs : List Held) (i : ℕ) (d : Held) (h : i < length xs) (bs : List Held) where
  abbrev rest-abroad : List Offer
  rest-abroad = abroad_of (offers_in (drop (i + 1) xs))

  next-abroad : abroad_of (offers_in (drop i xs)) ≡ cond (crosses (offer_in (get_or xs i d))) (offer_in (get_or xs i d) ∷ rest-abroad) rest-abroad
  unfolding abroad_of keep
  next-abroad = rw (add-one i, drop-cons xs i d h)

  pub offer-taken : 0 < (get_or xs i d).holder.border → offers_in (bs ++ (get_or xs i d ∷ [])) ++ rest-abroad ≡ offers_in bs ++ abroad_of (offers_in (drop i xs))
  unfolding crosses
  offer-taken b =
      let t : abroad_of (offers_in (drop i xs)) ≡ offer_in (get_or xs i d) ∷ rest-abroad = next-abroad ∙ rw (ne_eqb (get_or xs i d).holder.border 0 (λ z. absurd (omega arith))) refl in
      rw (map-append, t) (append_snoc (offers_in bs) (offer_in (get_or xs i d)) rest-abroad)

  pub offer-left : (get_or xs i d).holder.border ≤ 0 → offers_in bs ++ rest-abroad ≡ offers_in bs ++ abroad_of (offers_in (drop i xs))
  unfolding crosses
  offer-left b = sym (ap (λ l. offers_in bs ++ l) (next-abroad ∙ rw (eq-eqb (get_or xs i d).holder.border 0 (omega arith)) refl))

pub offers-end : (xs : List Held) (i : ℕ) (bs : List Held) {os : List Offer} → length xs ≤ i → offers_in bs ++ abroad_of (offers_in (drop i xs)) ≡ os → offers_in bs ≡ os
unfolding abroad_of keep
offers-end xs i bs h e = sym (append-nil (offers_in bs)) ∙ (rw (drop_of_length-le xs {i = i} h) at e)

-- Reading

module _ (xs : List Held) (ps : List ℕ) (k : ℕ) where
  named-more : k < length ps → named (offers_in xs) (take (k + 1) ps) ≡ named (offers_in xs) (take k ps) ++ (offer_in (get_or xs (get_or ps k 0) blank) ∷ [])
  unfolding named
  named-more h = rw (add-one k, take-suc ps k 0 h, map-append, read-offer xs (get_or ps k 0))

  named-length : k ≤ length ps → length (named (offers_in xs) (take k ps)) ≡ k
  unfolding named
  named-length h = length-map (take k ps) (nth (offers_in xs)) ∙ length-take k ps ∙ omega arith

  pub renew-more : (ys bs : List Held) → k < length ps → length bs ≡ length ps → offers_in ys ≡ named (offers_in xs) (take k ps) ++ drop k (offers_in bs)
      → offers_in (set ys k (get_or xs (get_or ps k 0) blank)) ≡ named (offers_in xs) (take (k + 1) ps) ++ drop (k + 1) (offers_in bs)
  renew-more ys bs h l e =
      let v = offer_in (get_or xs (get_or ps k 0) blank) in
      let n : k < length (offers_in bs) = omega (arith, length-map bs offer_in) in
      rw (map-set offer_in ys k (get_or xs (get_or ps k 0) blank), e, named-more h, append_snoc (named (offers_in xs) (take k ps)) v, add-one k, drop-cons (offers_in bs) k (offer_in blank) n)
      (seam (named (offers_in xs) (take k ps)) _ _ v k (named-length (omega arith)))
    where
      seam : {A : Type 0} (us : List A) (u : A) (vs : List A) (v : A) (i : ℕ) → length us ≡ i → set (us ++ u ∷ vs) i v ≡ us ++ v ∷ vs
      seam us u vs v i e = rw (← e) (set-append_seam us u vs v)

-- Writing

module _ (ps : List ℕ) (bs xs : List Held) (k : ℕ) where
  pub put-more : k < length ps → length bs ≡ length ps → put_at (drop (k + 1) ps) (drop (k + 1) bs) (set xs (get_or ps k 0) (get_or bs k blank)) ≡ put_at (drop k ps) (drop k bs) xs
  unfolding put_at
  put-more h l = let n : k < length bs = omega arith in rw (add-one k, drop-cons ps k 0 h, drop-cons bs k blank n)

  pub put-end : length ps ≤ k → put_at (drop k ps) (drop k bs) xs ≡ xs
  unfolding put_at
  put-end h = rw (drop_of_length-le ps {i = k} h)

pub map-put : {A B : Type 0} (f : A → B) (is : List ℕ) (xs os : List A) → map f (put_at is xs os) ≡ put_at is (map f xs) (map f os)
unfolding put_at
map-put f [] xs os = refl
map-put f (i ∷ is) [] os = refl
map-put f (i ∷ is) (x ∷ xs) os = map-put f is xs (set os i x) ∙ ap (put_at is (map f xs)) (map-set f os i x)

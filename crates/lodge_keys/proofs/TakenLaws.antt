-- A key's lodgement is taken out: those after it move forward. A new one is put after those that are left.
use Prim.Native.Nat.{ℕ, zero, suc, ◌+◌, ◌-◌, ◌≤◌, ◌<◌}
use mathlib.Core.Path.{◌≡◌, refl, sym, ap, ◌∙◌}
use mathlib.Core.Bool.{Bool, true, false, cond, not, ◌&&◌, beq, false≢true}
use mathlib.Core.List.{List, [], ◌∷◌, ◌++◌, map}
use native.Mathlib.Omega.{arith}
use lib.Dec.{eqb, ltb}
use lib.ListN.{take, length, set, replicate, length-map}
use lib.Seq.{set-set, length-take-le}
use borrow.Author.Tests.{eqb-true, lt-ltb, le-ltb, ltb-false}
use Rattle.rules.specs.Lists.{All, none, more, Pairwise, empty, ahead, keep, any}
use Rattle.rules.specs.Message as M
use Rattle.rules.specs.Lodging as L
use Rattle.rules.specs.Book as B
use Rattle.rules.specs.DayBook as D
use Rattle.rules.proofs.BoolLaws.{by_bool, both, beq-true}
use Rattle.rules.proofs.ListLaws.{all_map, any_false}
use Rattle.rules.proofs.ElementLaws.{pairwise-weaken}
use Rattle.session.specs.Laid.{pad}
use Rattle.session.specs.Image.{image, Sound, verdicts_in, hours_in, key_in, lodgement_as, energies_as, no_lodgement, no_energies}
use Rattle.session.specs.Parts.{index_of}
use Rattle.session_changes.specs.Changes.{moved, standing_with}
use Rattle.session.specs.declared.Key.{Key}
use Rattle.session.specs.declared.Session.{Session}
use Rattle.session.proofs.LaidLaws.{map_last, length_last, set-pad}
use Rattle.session.proofs.IndexLaws.{Once, indexed, unindexed, index-map, position-as}
use Rattle.session_changes.proofs.ChangeLaws.{moved_none}
use Rattle.session.proofs.ImageLaws.{standing-as, lodgements-as}
use Rattle.session.proofs.SoundLaws.{open-stage}
use Rattle.std.specs.Prelude.{Some, None}
use Rattle.std.specs.List.{position}
use Rattle.std.specs.declared.option.Option.{Option}
use Rattle.lodge_keys.specs.Keys.{of_key, key_index, left_of, from_at}
use Rattle.lodge_keys.proofs.KeyLaws.{lodgements-fit}

-- How many are left, by an index or the count

unfoldable pub left_at : ℕ → ℕ → ℕ
left_at n p = cond (ltb p n) (n - 1) n

left_in : (n p : ℕ) → p < n → left_at n p ≡ n - 1
unfolding left_at
left_in n p h = rw (lt-ltb p n h)

left-all : (n p : ℕ) → n ≤ p → left_at n p ≡ n
unfolding left_at
left-all n p h = rw (le-ltb p n h)

-- Lists in which at most one passes

module _ {A : Type 0} where
  -- the first taken out
  first_out : (x : A) (zs rest : List A) (y : A) → set (moved 0 (length zs) (x ∷ (zs ++ rest))) (length zs) y ≡ zs ++ (y ∷ rest)
  unfolding moved
  first_out x [] rest y = refl
  first_out x (z ∷ zs) rest y = ap (λ (t : List A). z ∷ t) (first_out z zs rest y)

  -- an empty index made empty
  set-empty : (d : A) (l : List A) (n : ℕ) → set (l ++ replicate n d) (length l) d ≡ l ++ replicate n d
  set-empty d [] zero = refl
  set-empty d [] (suc n) = refl
  set-empty d (x ∷ l) n = ap (λ (t : List A). x ∷ t) (set-empty d l n)

  keep_all : (p : A → Bool) {xs : List A} → All (λ x. p x ≡ false) xs → keep (λ x. not (p x)) xs ≡ xs
  unfolding keep
  keep_all p none = refl
  keep_all p (more h t) = rw (h, keep_all p t)

module _ {A B : Type 0} (p : A → Bool) (f : A → B) where
  abbrev others : List A → List A
  others xs = keep (λ x. not (p x)) xs

  -- one fewer
  one_fewer : {xs : List A} → Once p xs → index_of p xs < length xs → length xs ≡ suc (length (others xs))
  unfolding keep index_of
  one_fewer empty h = absurd (omega arith)
  one_fewer (ahead {x} {xs} a o) h =
      by_bool (p x) (λ e. rw (e, keep_all p (all_map (λ y g. g e) a)))
      (λ e. let m = rw e at h in rw e (ap suc (one_fewer o (omega arith))))

  -- the one that passes is taken out, and y put after the others
  head-out : (x : A) {xs : List A} → p x ≡ true → All (λ z. p x ≡ true → p z ≡ false) xs → (n : ℕ) → n ≡ length xs → (rest : List B) (y : B)
      → set (moved (index_of p (x ∷ xs)) n (map f (x ∷ xs) ++ rest)) n y ≡ map f (others (x ∷ xs)) ++ (y ∷ rest)
  unfolding keep index_of
  head-out x {xs} e a n l rest y =
      let q : n ≡ length (map f xs) = l ∙ sym (length-map xs f) in
      rw (e, keep_all p (all_map (λ z g. g e) a), q) (first_out (f x) (map f xs) rest y)

  one_out : {xs : List A} → Once p xs → (n : ℕ) → suc n ≡ length xs → index_of p xs < length xs → (rest : List B) (y : B)
      → set (moved (index_of p xs) n (map f xs ++ rest)) n y ≡ map f (others xs) ++ (y ∷ rest)
  unfolding moved keep index_of
  one_out empty n l h rest y = absurd (omega arith)
  one_out (ahead {x} {xs} a o) zero l h rest y =
      by_bool (p x) (λ e. head-out x e a zero (omega arith) rest y) (λ e. let m = rw e at h in absurd (omega arith))
  one_out (ahead {x} {xs} a o) (suc n) l h rest y =
      by_bool (p x) (λ e. head-out x e a (suc n) (omega arith) rest y)
      (λ e. let m = rw e at h in rw e (ap (λ (t : List B). f x ∷ t) (one_out o n (omega arith) (omega arith) rest y)))

  -- with q the index of the one that passes, m others are left
  module _ {xs : List A} (o : Once p xs) (q m : ℕ) (at : q ≡ index_of p xs) (left : m ≡ left_at (length xs) q) where
    pub left-count : length (others xs) ≡ m
    left-count =
        by_bool (any p xs)
        (λ e. let h = indexed p xs e in let l = left ∙ left_in (length xs) q (omega arith) in omega (arith, one_fewer o h))
        (λ e.
        let h = unindexed p xs e in
        let l = left ∙ left-all (length xs) q (omega arith) in
        rw (keep_all p (any_false p xs e)) (sym l))

    -- laid into an array, its last index made empty
    module _ (n : ℕ) (d : B) (free : m < n) where
      laid-taken : index_of p xs < length xs → set (moved q m (pad n d (map f xs))) m d ≡ pad n d (map f (others xs))
      unfolding pad
      laid-taken h =
          let l = left ∙ left_in (length xs) q (omega arith) in
          let k : n - length (others xs) ≡ suc (n - length xs) = omega (arith, one_fewer o h) in
          rw (at, length-map xs f, length-map (others xs) f, k) (one_out o m (omega arith) h (replicate (n - length xs) d) d)

      laid_same : any p xs ≡ false → set (moved q m (pad n d (map f xs))) m d ≡ pad n d (map f (others xs))
      unfolding pad
      laid_same e =
          let h : q ≡ length xs = at ∙ unindexed p xs e in
          let l : m ≡ length xs = left ∙ left-all (length xs) q (omega arith) in
          let k : m ≡ q = l ∙ sym h in
          let g : q ≡ length (map f xs) = h ∙ sym (length-map xs f) in
          rw (keep_all p (any_false p xs e), k, moved_none q (map f xs ++ replicate (n - length (map f xs)) d), g) (set-empty d (map f xs) (n - length (map f xs)))

      pub laid_out : set (moved q m (pad n d (map f xs))) m d ≡ pad n d (map f (others xs))
      laid_out = by_bool (any p xs) (λ e. laid-taken (indexed p xs e)) laid_same

      -- or one more put there
      pub laid-over : (x : A) → set (moved q m (pad n d (map f xs))) m (f x) ≡ pad n d (map f (others xs ++ (x ∷ [])))
      laid-over x =
          sym (set-set (moved q m (pad n d (map f xs))) m d (f x))
          ∙ (ap (λ (l : List B). set l m (f x)) laid_out
          ∙ (set-pad n d (map f (others xs)) m (f x) (omega (arith, left-count, length-map (others xs) f)) (omega (arith, left-count, length-map (others xs) f))
          ∙ ap (pad n d) (sym (map_last f (others xs) x))))

-- Keys

fields-same : {x y d e : Bool} {n m c k : ℕ} → x ≡ y → d ≡ e → n ≡ m → c ≡ k
    → ◌≡◌ {A = M.Key} (record { execution = x; default = d; unit = n; contract = c }) (record { execution = y; default = e; unit = m; contract = k })
fields-same p q r s = rw (p, q, r, s)

same-is : (a b : M.Key) → L.same_key a b ≡ true → a ≡ b
unfolding L.same_key L.same_but_default
same-is a b h =
    let t = both (L.same_but_default a b) (beq a.default b.default) h in
    let u = both (beq a.execution b.execution && eqb a.unit b.unit) (eqb a.contract b.contract) t.0 in
    let v = both (beq a.execution b.execution) (eqb a.unit b.unit) u.0 in
    fields-same (beq-true a.execution b.execution v.0) (beq-true a.default b.default t.1) (eqb-true a.unit b.unit v.1) (eqb-true a.contract b.contract u.1)

-- no two that stand are of one key
once-keyed : (k : M.Key) {ls : List L.Lodgement} → Pairwise (λ x y. L.same_key x.key y.key ≡ false) ls → Once (λ l. L.same_key l.key k) ls
once-keyed k h =
    pairwise-weaken
    (λ x y d e. by_bool (L.same_key y.key k) (λ g. absurd (false≢true (sym d ∙ (ap (L.same_key x.key) (same-is y.key k g) ∙ e)))) (λ g. g)) h

-- What the library's search finds

module _ {A : Type 0} (q : A → Bool) (l : List A) (n : ℕ) (fit : n ≤ length l) where
  abbrev first : ℕ
  first = index_of q (take n l)

  found-as : position q (take n l) ≡ cond (ltb first n) (Some first) None
  found-as = position-as q (take n l) ∙ ap (λ j. cond (ltb first j) (Some first) None) (length-take-le n l fit)

  most : first ≤ n
  most = by_bool (any q (take n l)) (λ e. omega (arith, indexed q (take n l) e, length-take-le n l fit)) (λ e. omega (arith, unindexed q (take n l) e, length-take-le n l fit))

  from-as : from_at n (position q (take n l)) ≡ first
  from-as =
      ap (from_at n) found-as
      ∙ by_bool (ltb first n) (λ t. ap (λ c. from_at n (cond c (Some first) None)) t)
      (λ t. ap (λ c. from_at n (cond c (Some first) None)) t ∙ omega (arith, ltb-false first n t, most))

  left-as : left_of n (position q (take n l)) ≡ left_at n first
  unfolding left_at
  left-as = ap (left_of n) found-as ∙ by_bool (ltb first n) (λ t. rw t refl) (λ t. rw t refl)

-- The session: p is the key's index, m lodgements are left without it

module _ (s : Session) (k : Key) (p m : ℕ) (at : p ≡ index_of (of_key k) (take s.standing s.lodgements)) (left : m ≡ left_at s.standing p) (free : m < 128)
    (b : B.Book) (sound : Sound b) (early : b.closed ≡ false) (e : s ≡ image b) where
  abbrev standing_left : List L.Lodgement
  standing_left = L.without (key_in k) b.standing

  abbrev has_key : L.Lodgement → Bool
  has_key l = L.same_key l.key (key_in k)

  once : Once has_key b.standing
  once = once-keyed (key_in k) sound.ranges.standing.keys

  index-book : p ≡ index_of has_key b.standing
  index-book = at ∙ rw (lodgements-as s b e) (index-map lodgement_as (of_key k) b.standing)

  left-book : m ≡ left_at (length b.standing) p
  left-book = left ∙ ap (λ n. left_at n p) (sym (standing-as s b e))

  -- an empty index after those left
  taken-at : standing_with s (record { from = p; to = m; at = m; lodgement = no_lodgement; energies = no_energies; standing = m; last = s.last }) ≡ image (D.with_standing b standing_left b.last)
  unfolding image verdicts_in hours_in D.with_standing L.without B.hours
  taken-at =
      rw (
        e,
        laid_out has_key lodgement_as once p m index-book left-book 128 no_lodgement free,
        laid_out has_key energies_as once p m index-book left-book 128 no_energies free,
        left-count has_key lodgement_as once p m index-book left-book,
        early,
        open-stage b sound early,
      )

  -- a lodgement after those left
  entered-at : (l : L.Lodgement) (last : ℕ)
      → standing_with s (record { from = p; to = m; at = m; lodgement = lodgement_as l; energies = energies_as l; standing = m + 1; last = last }) ≡ image (D.with_standing b (standing_left ++ (l ∷ [])) last)
  unfolding image verdicts_in hours_in D.with_standing L.without B.hours
  entered-at l last =
      rw (
        e,
        laid-over has_key lodgement_as once p m index-book left-book 128 no_lodgement free l,
        laid-over has_key energies_as once p m index-book left-book 128 no_energies free l,
        length_last standing_left l,
        left-count has_key lodgement_as once p m index-book left-book,
        early,
        open-stage b sound early,
      )

module _ (s : Session) (k : Key) (o : Option ℕ) (m : ℕ) (found : o ≡ key_index s k) (rest : m ≡ left_of s.standing o) (free : m < 128)
    (b : B.Book) (sound : Sound b) (early : b.closed ≡ false) (e : s ≡ image b) where
  abbrev from : ℕ
  from = from_at s.standing o

  at : from ≡ index_of (of_key k) (take s.standing s.lodgements)
  at = ap (from_at s.standing) found ∙ from-as (of_key k) s.lodgements s.standing (lodgements-fit s b e)

  left : m ≡ left_at s.standing from
  left = rest ∙ (ap (left_of s.standing) found ∙ (left-as (of_key k) s.lodgements s.standing (lodgements-fit s b e) ∙ ap (left_at s.standing) (sym at)))

  -- an empty index after those left
  pub taken-image : standing_with s (record { from = from; to = m; at = m; lodgement = no_lodgement; energies = no_energies; standing = m; last = s.last })
      ≡ image (D.with_standing b (L.without (key_in k) b.standing) b.last)
  taken-image = taken-at s k from m at left free b sound early e

  -- a lodgement after those left
  pub entered-image : (l : L.Lodgement) (last : ℕ)
      → standing_with s (record { from = from; to = m; at = m; lodgement = lodgement_as l; energies = energies_as l; standing = m + 1; last = last })
      ≡ image (D.with_standing b (L.without (key_in k) b.standing ++ (l ∷ [])) last)
  entered-image l last = entered-at s k from m at left free b sound early e l last

-- Where words begin and end.
use Prim.Native.Nat.{ℕ, zero, suc, ◌+◌, ◌≤◌, ◌<◌}
use mathlib.Core.Bool.{Bool, true, false, not, true≢false}
use mathlib.Core.Path.{◌≡◌, refl, ap, sym, ◌∙◌}
use mathlib.Core.List.{List, [], ◌∷◌}
use native.Mathlib.Omega.{arith}
use lib.Dec.{ltb}
use lib.ListN.{get_or, length, drop, drop_of_length-le}
use borrow.Author.Tests.{ltb-false}
use Rattle.std.specs.Prelude.{Option, Some, None, is_some, IsTrue}
use Rattle.std.specs.Str.{bytes_eq}
use Rattle.std.specs.List.{All, position_or_len}
use Rattle.std.proofs.lemmas.List.Quantifiers.{position-Some}
use Rattle.rules.proofs.BoolLaws.{by_bool}
use Rattle.rehearse_words.specs.Blanks.{is_blank}
use Rattle.rehearse_words.specs.Words.{word_start, from_word, first_word, behind_word, starts_with, behind_mark}

abbrev is_part : ℕ → Bool
is_part b = not (is_blank b)

-- an element before the first that passes does not pass
passed : (p : ℕ → Bool) (xs : List ℕ) (k d : ℕ) → k < position_or_len p xs → p (get_or xs k d) ≡ false
passed p [] k d h = absurd (omega arith)
passed p (x ∷ xs) zero d h = by_bool (p x) (λ e. let z : 0 < 0 = rw e at h in absurd (omega arith)) (λ e. e)
passed p (x ∷ xs) (suc k) d h =
    by_bool (p x) (λ e. let z : suc k < 0 = rw e at h in absurd (omega arith)) (λ e. let z : suc k < 1 + position_or_len p xs = rw e at h in passed p xs k d (omega arith))

not-false : (b : Bool) → not b ≡ false → b ≡ true
not-false true h = refl
not-false false h = absurd (true≢false h)

-- no word begins in blanks alone
pub blanks-none : (line : List ℕ) → word_start line ≡ None → All (λ b. IsTrue (is_blank b)) line
blanks-none line h k d l =
    by_bool (ltb (position_or_len is_part line) (length line)) (λ e. let z : Some (position_or_len is_part line) ≡ None = rw e at h in absurd (true≢false (ap is_some z)))
    (λ e. not-false _ (passed is_part line k d (omega (arith, ltb-false _ _ e))))

pub word-some : (line : List ℕ) (i : ℕ) → word_start line ≡ Some i → All (λ b. IsTrue (is_blank b)) line → ⊥
word-some line i h a = let q = position-Some is_part line i 0 h in true≢false (sym q.1 ∙ ap not (a i 0 q.0))

pub none-of-blanks : (line : List ℕ) → All (λ b. IsTrue (is_blank b)) line → word_start line ≡ None
none-of-blanks line a =
    by_bool (ltb (position_or_len is_part line) (length line)) (λ e. absurd (word-some line (position_or_len is_part line) (rw e refl) a)) (λ e. rw e refl)

pub start-inside : (line : List ℕ) (i : ℕ) → word_start line ≡ Some i → i ≤ length line
start-inside line i h = let q = (position-Some is_part line i 0 h).0 in omega arith

-- the first word of blanks alone is empty
pub first-none : (line : List ℕ) → word_start line ≡ None → first_word line ≡ []
first-none line h = let e : drop (length line) line ≡ [] = drop_of_length-le line (omega arith) in rw (h, e) refl

pub start-some : (line : List ℕ) (i : ℕ) → word_start line ≡ Some i → from_word line ≡ drop i line
start-some line i h = rw h refl

-- Whether a line starts with a word

module _ (word line : List ℕ) where
  -- not where it is blank
  pub blank-starts : All (λ b. IsTrue (is_blank b)) line → false ≡ starts_with word line
  unfolding starts_with
  blank-starts a = rw (none-of-blanks line a) refl

  some-of : (o : Option ℕ) → word_start line ≡ o → (All (λ b. IsTrue (is_blank b)) line → true ≡ false) → is_some (word_start line) ≡ true
  some-of None e h = absurd (true≢false (h (blanks-none line e)))
  some-of (Some i) e h = rw e refl

  -- else where its first word is this one
  pub word-starts : (first : List ℕ) → (All (λ b. IsTrue (is_blank b)) line → true ≡ false) → first ≡ first_word line → bytes_eq first word ≡ starts_with word line
  unfolding starts_with
  word-starts first h e = rw (some-of (word_start line) refl h, e) refl

  -- which is then taken
  pub behind-taken : true ≡ starts_with word line → behind_word line ≡ behind_mark word line
  unfolding behind_mark
  behind-taken e = rw (← e) refl

  pub behind-left : false ≡ starts_with word line → line ≡ behind_mark word line
  unfolding behind_mark
  behind-left e = rw (← e) refl

-- A lodging number looked for by halving, among rising ones.
use Rattle.std.proofs.Common.{◌≡◌, ℕ, ◌<◌, ◌≤◌, List, length, Some, None, Result, Ok, Err, refl, sym, ap, arith}
use mathlib.Core.Logic.{⊎_elim}
use borrow.Author.Tests.{eq-eqb, ne_eqb, lt-ltb, le-ltb}
use Rattle.std.specs.Result.{result_ok}
use Rattle.std.specs.List.{position, position_or_len}
use Rattle.std.specs.List.Sorted.{IsSearchInRange, IsBinarySearchResult, IsNonDecreasingBy}
use Rattle.std.specs.Ordering.{nat_cmp, ordering_index}
use Rattle.std.proofs.lemmas.Cmp.{ranked}
use Rattle.std.proofs.lemmas.Bool.{cases_lt}
use Rattle.std.proofs.lemmas.List.Sums.{position_or_len_is}
use Rattle.std.proofs.lemmas.List.Sorted.{IsNonDecreasingBy-from_default}
use Rattle.std.proofs.lemmas.Bool.Decides.{nat_tests}
use Rattle.session.specs.Image.{no_lodgement}
use Rattle.session.specs.declared.Lodgement.{Lodgement}
use Rattle.query_verdict.specs.Parts.{lodged, number_at, Rising}

module _ (ls : List Lodgement) (rising : Rising ls) (n : ℕ) where
  -- the comparisons with n rise, as a binary search asks
  comparisons_rise : IsNonDecreasingBy (λ l. ordering_index (nat_cmp l.number n)) ls
  comparisons_rise = IsNonDecreasingBy-from_default (λ l. ordering_index (nat_cmp l.number n)) ls no_lodgement (λ i j le in_range.
      let numbers_rise : number_at ls i ≤ number_at ls j = grind (arith, rising i j, λ (same : i ≡ j). ap (number_at ls) same) in
      grind (arith, nat_tests))

  -- of rising numbers, one that is found is the first
  found : (at : ℕ) → at < length ls → number_at ls at ≡ n → Some at ≡ position (lodged n) ls
  found at h q =
      let first : position_or_len (lodged n) ls ≡ at =
      position_or_len_is (lodged n) ls at no_lodgement (omega arith) (λ k l. ne_eqb _ _ (λ z. absurd (omega (arith, rising k at l h, q, z)))) (λ _. eq-eqb _ _ q)
      in
      rw (first, lt-ltb at (length ls) h) refl

  -- where no number is n, none is found
  missed : ((i : ℕ) → i < length ls → number_at ls i ≡ n → ⊥) → None ≡ position (lodged n) ls
  missed h =
      let all : position_or_len (lodged n) ls ≡ length ls =
      position_or_len_is (lodged n) ls (length ls) no_lodgement (omega arith) (λ k l. ne_eqb _ _ (h k l)) (λ l. absurd (omega arith))
      in
      rw (all, le-ltb (length ls) (length ls) (omega arith)) refl

  pub halved : (r : Result ℕ ℕ) → IsSearchInRange r (length ls) → IsBinarySearchResult (λ l. nat_cmp l.number n) ls r → result_ok r ≡ position (lodged n) ls
  halved (Ok at) in_range equal = found at in_range (ranked _ n _ (sym (equal no_lodgement)))
  halved (Err at) in_range parted =
      missed (λ i l z. ⊎_elim
      (λ below. omega (arith, ranked _ n _ (sym ((parted comparisons_rise).0 i no_lodgement (omega arith) below)), z))
      (λ above. omega (arith, ranked _ n _ (sym ((parted comparisons_rise).1 i no_lodgement above l)), z))
      (cases_lt i at))

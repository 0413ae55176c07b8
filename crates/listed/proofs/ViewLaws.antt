-- What callers read of a list in an array.
use Rattle.std.proofs.Common.{ℕ, ◌≡◌, ◌≤◌, ◌-◌, List, length, replicate, arith}
use Rattle.std.proofs.Math.Seq.{take-append_seam}
use Rattle.std.proofs.lemmas.List.{length-take}
use Rattle.listed.specs.declared.Listed.{Listed}
use Rattle.listed.specs.View.{listed, listed_as}

-- no longer than its count
pub listed-few : {A : Type 0} {n : ℕ} (l : Listed A n) → length (listed l) ≤ l.count
unfolding listed
listed-few l = omega (arith, length-take l.count l.items)

-- what is laid there is read back
pub listed-back : {A : Type 0} (n : ℕ) (blank : A) (xs : List A) → listed (listed_as n blank xs) ≡ xs
unfolding listed listed_as
listed-back n blank xs = take-append_seam xs (replicate (n - length xs) blank)

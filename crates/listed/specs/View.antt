-- The list that stands in an array.
use Rattle.std.specs.Prelude.{ℕ, ◌-◌, ◌≡◌, List, ◌++◌, take, length, replicate}
use Rattle.listed.specs.declared.Listed.{Listed}

-- the elements below the count
unfoldable pub listed : {A : Type 0} {n : ℕ} → Listed A n → List A
listed l = take l.count l.items

-- it stands there whole, so that its length is the count
abbrev pub Lists : {A : Type 0} {n : ℕ} → Listed A n → List A → Type 0
Lists l xs = (listed l ≡ xs) × (l.count ≡ length xs)

-- a list as an array of n has it, with a blank at each index behind it
unfoldable pub listed_as : {A : Type 0} (n : ℕ) → A → List A → Listed A n
listed_as n blank xs = record { items = xs ++ replicate (n - length xs) blank; count = length xs }

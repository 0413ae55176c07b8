-- A list laid into an array.
use Rattle.std.specs.Prelude.{ℕ, ◌-◌, List, ◌++◌, length, replicate, take}

-- the list, and d at every index after it
unfoldable pub pad : {A : Type 0} → ℕ → A → List A → List A
pad n d l = l ++ replicate (n - length l) d

-- the `count` numbers that an array stands for: its first ones, and 0 for those that it has no index for
unfoldable pub counted : ℕ → List ℕ → List ℕ
counted count es = pad count 0 (take count es)

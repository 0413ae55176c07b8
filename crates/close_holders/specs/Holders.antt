-- The index of a lodgement's unit.
use Rattle.std.specs.Prelude.{ℕ, ◌%◌, ◌<◌, ◌≡◌, Bool, List, None, Option, eqb, length, get_or, position}
use Rattle.session.specs.Parts.{number_is}
use Rattle.session.specs.declared.Unit.{Unit}
use Rattle.session.specs.declared.Lodgement.{Lodgement}

-- a unit whose number ends in a byte
abbrev pub ends_in : ℕ → Unit → Bool
ends_in byte u = eqb (u.number % 256) byte

-- for each byte the first that ends in it
pub record Firsts (us : List Unit) (firsts : List (Option ℕ)) : Type 0 where
  pub long : length firsts ≡ 256
  pub at : (k : ℕ) → k < 256 → get_or firsts k None ≡ position (ends_in k) us

-- the index of a lodgement's unit, if there is one
unfoldable pub holder_of : List Unit → Lodgement → Option ℕ
holder_of us l = position (number_is l.key.unit) us

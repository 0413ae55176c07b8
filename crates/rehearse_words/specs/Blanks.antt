-- White space of ASCII other than the line's end.
use Rattle.std.specs.Prelude.{ℕ, Bool, ◌||◌, ◌&&◌, eqb, leb}

abbrev pub is_blank : ℕ → Bool
is_blank b = eqb b 9 || (leb 11 b && leb b 13) || (leb 28 b && leb b 32)

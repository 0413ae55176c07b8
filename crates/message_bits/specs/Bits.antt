-- Four bytes of a message as one number.
use Rattle.std.specs.Prelude.{ℕ, ◌+◌, ◌*◌, List, get_or}

-- the four bytes from index i on, the first highest; 0 stands for a byte past the end
unfoldable pub word_at : List ℕ → ℕ → ℕ
word_at bytes i = get_or bytes i 0 * 16777216 + get_or bytes (i + 1) 0 * 65536 + get_or bytes (i + 2) 0 * 256 + get_or bytes (i + 3) 0

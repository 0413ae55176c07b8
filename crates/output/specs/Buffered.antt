-- What an output has buffered.
use Rattle.std.specs.Prelude.{ℕ, cond, leb, List, [], ◌+◌, ◌++◌, length}

-- after some bytes more: there is room for 4,096. Where they do not fit, what was buffered is written first; what is longer than the room is written too
abbrev pub buffered_after : List ℕ → List ℕ → List ℕ
buffered_after buffered bytes = cond (leb (length buffered + length bytes) 4096) (buffered ++ bytes) (cond (leb (length bytes) 4096) bytes [])

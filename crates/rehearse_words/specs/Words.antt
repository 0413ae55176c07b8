-- The words of a line, blanks between them, and what a word says.
use Rattle.std.specs.Prelude.{ℕ, Bool, not, ◌&&◌, cond, leb, List, take, drop, length, Option, Some, None, is_some}
use Rattle.std.specs.List.{position, list_all}
use Rattle.std.specs.Option.{unwrap_or}
use Rattle.std.specs.Char.{is_ascii_digit}
use Rattle.std.specs.Str.{bytes_eq}
use Rattle.std.specs.Str.Parse.{digits_value}
use Rattle.rehearse_words.specs.Blanks.{is_blank}

-- where a line's first word begins, and where a word ends
abbrev pub word_start : List ℕ → Option ℕ
word_start line = position (λ b. not (is_blank b)) line

abbrev pub word_end : List ℕ → ℕ
word_end text = unwrap_or (position is_blank text) (length text)

-- a line from its first word on
abbrev pub from_word : List ℕ → List ℕ
from_word line = drop (unwrap_or (word_start line) (length line)) line

-- its first word; that of a line of blanks is empty
abbrev pub first_word : List ℕ → List ℕ
first_word line = take (word_end (from_word line)) (from_word line)

-- the rest of the line, after the blank that ends the word
abbrev pub behind_word : List ℕ → List ℕ
behind_word line = drop 1 (drop (word_end (from_word line)) (from_word line))

-- whether a line's first word is this one, and the rest of the line where it may be left out
unfoldable pub starts_with : List ℕ → List ℕ → Bool
starts_with word line = is_some (word_start line) && bytes_eq (first_word line) word

unfoldable pub behind_mark : List ℕ → List ℕ → List ℕ
behind_mark word line = cond (starts_with word line) (behind_word line) line

-- a number has one to nine digits
abbrev pub is_number : List ℕ → Bool
is_number word = (leb 1 (length word) && leb (length word) 9) && list_all is_ascii_digit word

abbrev pub number_in : List ℕ → Option ℕ
number_in word = cond (is_number word) (Some (digits_value 10 word)) None

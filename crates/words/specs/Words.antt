-- What a person is shown of a refusal: the word at its place, and the line that the word stands on. The word is the token there, which begins
-- right at that place: at the end of the text it is empty, and of a bad token, whose end no grammar tells, it is what was most likely meant
-- as one.
use Rattle.std.specs.Prelude.{ℕ, ◌+◌, ◌-◌, Bool, ◌&&◌, ◌||◌, not, List, [], ◌∷◌, eqb, leb, length, drop}
use Rattle.definitions.specs.Basics.{when◌then◌otherwise◌, part}
use Rattle.definitions.specs.Classes.{class, goes_on, quote_class, digit_class}
use Rattle.definitions.specs.Integers.{front}
use Rattle.definitions.specs.Places.{newline, place_of}
use Rattle.definitions.specs.Refusals.{most_text}
use Rattle.definitions.specs.Tokens.{Scan, token, bad, skip, scan}

-- ---- words

-- whether a byte goes on a bad token, by the token's first byte: a string goes on to a newline or a zero byte, an integer with letters,
-- digits, `_` and `.`, a byte over 127 with others such, so that a letter of UTF-8 is whole; any other byte stands alone
unfoldable pub goes_with : ℕ → ℕ → Bool
goes_with first b =
    when eqb (class first) quote_class then (λ _. not (eqb b newline || eqb b 0)) otherwise λ _.
    when eqb (class first) digit_class then (λ _. goes_on b || eqb b 46) otherwise λ _.
    leb 128 first && leb 128 b

-- how many bytes a bad token takes
unfoldable pub bad_length : List ℕ → ℕ
bad_length [] = 0
bad_length (b ∷ bs) = 1 + front (goes_with b) bs

-- the offset after a token, in a text
unfoldable pub token_end : List ℕ → Scan → ℕ
token_end s (token t next) = next
token_end s (bad p) = p.offset + bad_length (drop p.offset s)

-- the offset after the word at an offset
unfoldable pub word_end : List ℕ → ℕ → ℕ
word_end s at = token_end s (scan s at)

-- the word at an offset, behind what separates; a text over the limit has none, and none stands past the end
unfoldable pub word : List ℕ → ℕ → List ℕ
word s at = when leb (length s) most_text && leb at (length s) then (λ _. part s (skip s at) (word_end s at)) otherwise λ _. []

-- ---- lines

-- where the line of an offset begins: the column counts back to it; past the end no line stands, and the offset is its own
unfoldable pub line_first : List ℕ → ℕ → ℕ
line_first s at = when leb at (length s) then (λ _. at + 1 - (place_of s at).column) otherwise λ _. at

-- where it ends: at its newline, or the end of the text
unfoldable pub line_end : List ℕ → ℕ → ℕ
line_end s at = at + front (λ b. not (eqb b newline)) (drop at s)

-- the line of an offset without its newline; past the end there is none
unfoldable pub line : List ℕ → ℕ → List ℕ
line s at = when leb at (length s) then (λ _. part s (line_first s at) (line_end s at)) otherwise λ _. []

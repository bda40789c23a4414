-- Words and lines, computed.
use mathlib.Core.Path.{◌≡◌, refl}
use Prim.Native.Nat.{ℕ}
use mathlib.Core.List.{List, [], ◌∷◌, ◌++◌}
use Rattle.definitions.specs.Basics.{bytes}
use Rattle.definitions.specs.Classes.{classes, class}
use Rattle.definitions.specs.Integers as integers
use Rattle.definitions.specs.Places.{newlines, behind}
use Rattle.definitions.specs.Tokens.{gap, inside, integer_scan, scan_from, skip, scan}
use Rattle.words.specs.Words.{goes_with, bad_length, token_end, word_end, word, line_first, line_end, line}

-- three lines: a name and an unended string, integers good and bad, a letter of UTF-8; the last line has no newline
abbrev text : List ℕ
text = bytes "id: \"a b" ++ (10 ∷ bytes " -012 08x.y," ++ (10 ∷ 195 ∷ 164 ∷ bytes "z"))

abbrev shown : List (List ℕ)
shown =
    word text 0  -- a name
    ∷ word text 2  -- a symbol
    ∷ word text 4  -- a string with no closing quote, to the end of its line
    ∷ word text 8  -- behind what separates
    ∷ word text 11  -- an integer
    ∷ word text 15  -- none: an `8` is no octal digit, and a letter runs on
    ∷ word text 22  -- a letter of UTF-8
    ∷ word text 25  -- the end
    ∷ word text 26
    ∷ line text 4
    ∷ line text 8  -- the newline stands on the line that it ends
    ∷ line text 15
    ∷ line text 25
    ∷ line text 26
    ∷ (line_first text 8 ∷ line_first text 9 ∷ line_first text 25 ∷ line_first text 26 ∷ [])
    ∷ []

abbrev expected : List (List ℕ)
expected =
    bytes "id"
    ∷ bytes ":"
    ∷ bytes "\"a b"
    ∷ bytes "-"
    ∷ bytes "012"
    ∷ bytes "08x.y"
    ∷ (195 ∷ 164 ∷ [])
    ∷ []
    ∷ []
    ∷ bytes "id: \"a b"
    ∷ bytes "id: \"a b"
    ∷ bytes " -012 08x.y,"
    ∷ (195 ∷ 164 ∷ bytes "z")
    ∷ []
    ∷ (0 ∷ 9 ∷ 22 ∷ 26 ∷ [])
    ∷ []

computed : shown ≡ expected
unfolding classes class integers.front integers.hex_ahead integers.integer_length integers.runs_on newlines behind gap inside integer_scan scan_from skip scan goes_with bad_length token_end word_end word line_first line_end line
computed = refl

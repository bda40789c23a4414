-- Byte classes stand in a table of 256 entries (T, H, "Tokens and grammar").
-- The classes rise so that one comparison tells what goes on a name (9 and up) and what is plain inside a string (5 and up).
use Rattle.std.specs.Prelude.{ℕ, Bool, ◌||◌, List, [], ◌∷◌, ltb, leb, eqb, get_or}
use Rattle.definitions.specs.Basics.{when◌then◌otherwise◌}
use Rattle.definitions.specs.Image.{letter, digit}

abbrev pub zero_class : ℕ
zero_class = 0

abbrev pub high_class : ℕ
high_class = 1

abbrev pub slash_class : ℕ
slash_class = 2

abbrev pub quote_class : ℕ
quote_class = 3

abbrev pub newline_class : ℕ
newline_class = 4

abbrev pub space_class : ℕ
space_class = 5

abbrev pub comment_class : ℕ
comment_class = 6

abbrev pub other_class : ℕ
other_class = 7

abbrev pub symbol_class : ℕ
symbol_class = 8

abbrev pub digit_class : ℕ
digit_class = 9

abbrev pub letter_class : ℕ
letter_class = 10

-- space, tab, vertical tab, form feed, return; the newline has a class of its own
abbrev pub is_space : ℕ → Bool
is_space b = eqb b 32 || eqb b 9 || eqb b 11 || eqb b 12 || eqb b 13

-- { } < > : - [ ] , ;
abbrev pub is_symbol : ℕ → Bool
is_symbol b =
    eqb b 123 || eqb b 125 || eqb b 60 || eqb b 62 || eqb b 58 || eqb b 45 || eqb b 91 || eqb b 93 || eqb b 44 || eqb b 59

-- the rule of the table
unfoldable pub class_rule : ℕ → ℕ
class_rule b =
    when eqb b 0 then (λ _. zero_class) otherwise λ _.
    when ltb 127 b then (λ _. high_class) otherwise λ _.
    when eqb b 92 then (λ _. slash_class) otherwise λ _.
    when eqb b 34 || eqb b 39 then (λ _. quote_class) otherwise λ _.
    when eqb b 10 then (λ _. newline_class) otherwise λ _.
    when is_space b then (λ _. space_class) otherwise λ _.
    when eqb b 35 then (λ _. comment_class) otherwise λ _.
    when is_symbol b then (λ _. symbol_class) otherwise λ _.
    when digit b then (λ _. digit_class) otherwise λ _.
    when letter b then (λ _. letter_class) otherwise λ _.
    other_class

unfoldable pub classes : List ℕ
classes =
    0 ∷ 7 ∷ 7 ∷ 7 ∷ 7 ∷ 7 ∷ 7 ∷ 7 ∷ 7 ∷ 5 ∷ 4 ∷ 5 ∷ 5 ∷ 5 ∷ 7 ∷ 7 ∷
    7 ∷ 7 ∷ 7 ∷ 7 ∷ 7 ∷ 7 ∷ 7 ∷ 7 ∷ 7 ∷ 7 ∷ 7 ∷ 7 ∷ 7 ∷ 7 ∷ 7 ∷ 7 ∷
    5 ∷ 7 ∷ 3 ∷ 6 ∷ 7 ∷ 7 ∷ 7 ∷ 3 ∷ 7 ∷ 7 ∷ 7 ∷ 7 ∷ 8 ∷ 8 ∷ 7 ∷ 7 ∷
    9 ∷ 9 ∷ 9 ∷ 9 ∷ 9 ∷ 9 ∷ 9 ∷ 9 ∷ 9 ∷ 9 ∷ 8 ∷ 8 ∷ 8 ∷ 7 ∷ 8 ∷ 7 ∷
    7 ∷ 10 ∷ 10 ∷ 10 ∷ 10 ∷ 10 ∷ 10 ∷ 10 ∷ 10 ∷ 10 ∷ 10 ∷ 10 ∷ 10 ∷ 10 ∷ 10 ∷ 10 ∷
    10 ∷ 10 ∷ 10 ∷ 10 ∷ 10 ∷ 10 ∷ 10 ∷ 10 ∷ 10 ∷ 10 ∷ 10 ∷ 8 ∷ 2 ∷ 8 ∷ 7 ∷ 10 ∷
    7 ∷ 10 ∷ 10 ∷ 10 ∷ 10 ∷ 10 ∷ 10 ∷ 10 ∷ 10 ∷ 10 ∷ 10 ∷ 10 ∷ 10 ∷ 10 ∷ 10 ∷ 10 ∷
    10 ∷ 10 ∷ 10 ∷ 10 ∷ 10 ∷ 10 ∷ 10 ∷ 10 ∷ 10 ∷ 10 ∷ 10 ∷ 8 ∷ 7 ∷ 8 ∷ 7 ∷ 7 ∷
    1 ∷ 1 ∷ 1 ∷ 1 ∷ 1 ∷ 1 ∷ 1 ∷ 1 ∷ 1 ∷ 1 ∷ 1 ∷ 1 ∷ 1 ∷ 1 ∷ 1 ∷ 1 ∷
    1 ∷ 1 ∷ 1 ∷ 1 ∷ 1 ∷ 1 ∷ 1 ∷ 1 ∷ 1 ∷ 1 ∷ 1 ∷ 1 ∷ 1 ∷ 1 ∷ 1 ∷ 1 ∷
    1 ∷ 1 ∷ 1 ∷ 1 ∷ 1 ∷ 1 ∷ 1 ∷ 1 ∷ 1 ∷ 1 ∷ 1 ∷ 1 ∷ 1 ∷ 1 ∷ 1 ∷ 1 ∷
    1 ∷ 1 ∷ 1 ∷ 1 ∷ 1 ∷ 1 ∷ 1 ∷ 1 ∷ 1 ∷ 1 ∷ 1 ∷ 1 ∷ 1 ∷ 1 ∷ 1 ∷ 1 ∷
    1 ∷ 1 ∷ 1 ∷ 1 ∷ 1 ∷ 1 ∷ 1 ∷ 1 ∷ 1 ∷ 1 ∷ 1 ∷ 1 ∷ 1 ∷ 1 ∷ 1 ∷ 1 ∷
    1 ∷ 1 ∷ 1 ∷ 1 ∷ 1 ∷ 1 ∷ 1 ∷ 1 ∷ 1 ∷ 1 ∷ 1 ∷ 1 ∷ 1 ∷ 1 ∷ 1 ∷ 1 ∷
    1 ∷ 1 ∷ 1 ∷ 1 ∷ 1 ∷ 1 ∷ 1 ∷ 1 ∷ 1 ∷ 1 ∷ 1 ∷ 1 ∷ 1 ∷ 1 ∷ 1 ∷ 1 ∷
    1 ∷ 1 ∷ 1 ∷ 1 ∷ 1 ∷ 1 ∷ 1 ∷ 1 ∷ 1 ∷ 1 ∷ 1 ∷ 1 ∷ 1 ∷ 1 ∷ 1 ∷ 1 ∷
    []

unfoldable pub class : ℕ → ℕ
class b = get_or classes b other_class

-- letters, digits, `_`
abbrev pub goes_on : ℕ → Bool
goes_on b = leb digit_class (class b)

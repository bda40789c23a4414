-- Integers (T, H, "Tokens and grammar"): decimal, octal (`0` then octal digits), hex (`0x` or `0X` then digits).
-- How many bytes one takes, what it is worth, and which values each type holds.
use Rattle.std.specs.Prelude.{ℕ, suc, ◌+◌, ◌-◌, ◌*◌, ◌%◌, ◌^◌, Bool, false, ◌&&◌, ◌||◌, List, [], ◌∷◌, leb, eqb, drop}
use Rattle.definitions.specs.Basics.{when◌then◌otherwise◌, between}
use Rattle.definitions.specs.Image.{digit}
use Rattle.definitions.specs.Nodes.{word64}
use Rattle.definitions.specs.Classes.{goes_on}

-- how many bytes at the front pass a test
unfoldable pub front : (ℕ → Bool) → List ℕ → ℕ
front p [] = 0
front p (b ∷ bs) = when p b then (λ _. suc (front p bs)) otherwise λ _. 0

abbrev pub octal_digit : ℕ → Bool
octal_digit b = between 48 55 b

abbrev pub hex_digit : ℕ → Bool
hex_digit b = digit b || between 97 102 b || between 65 70 b

-- what a digit is worth
unfoldable pub digit_value : ℕ → ℕ
digit_value b = when leb 97 b then (λ _. b - 87) otherwise λ _. when leb 65 b then (λ _. b - 55) otherwise λ _. b - 48

-- `x` or `X`, and a hex digit after it
unfoldable pub hex_ahead : List ℕ → Bool
hex_ahead [] = false
hex_ahead (x ∷ []) = false
hex_ahead (x ∷ d ∷ bs) = (eqb x 120 || eqb x 88) && hex_digit d

-- how many bytes an integer takes that begins with the digit b
unfoldable pub integer_length : ℕ → List ℕ → ℕ
integer_length b bs =
    when eqb b 48
    then (λ _. when hex_ahead bs then (λ _. 2 + front hex_digit (drop 1 bs)) otherwise λ _. 1 + front octal_digit bs)
    otherwise λ _. 1 + front digit bs

-- the bytes go on with a letter, digit, `_` or `.`
unfoldable pub runs_on : List ℕ → Bool
runs_on [] = false
runs_on (b ∷ bs) = goes_on b || eqb b 46

-- digits in a base, after what is worth n already
unfoldable pub worth : ℕ → ℕ → List ℕ → ℕ
worth base n [] = n
worth base n (b ∷ bs) = worth base (n * base + digit_value b) bs

-- what an integer's bytes are worth
unfoldable pub integer_value : List ℕ → ℕ
integer_value [] = 0
integer_value (b ∷ bs) =
    when eqb b 48
    then (λ _. when hex_ahead bs then (λ _. worth 16 0 (drop 1 bs)) otherwise λ _. worth 8 0 bs)
    otherwise λ _. worth 10 0 (b ∷ bs)

-- the greatest magnitude of a type of so many bits: unsigned, signed, and signed after a minus
unfoldable pub most_unsigned : ℕ → ℕ
most_unsigned width = 2 ^ width - 1

unfoldable pub most_signed : ℕ → Bool → ℕ
most_signed width negative = when negative then (λ _. 2 ^ (width - 1)) otherwise λ _. 2 ^ (width - 1) - 1

-- a magnitude as 64 bits in two's complement
unfoldable pub signed : Bool → ℕ → ℕ
signed negative v = when negative then (λ _. (word64 - v) % word64) otherwise λ _. v

-- Escapes (T, H, "Tokens and grammar"): what the bytes between the quotes of a string stand for.
use Rattle.std.specs.Prelude.{ℕ, zero, suc, ◌+◌, ◌*◌, min, Bool, List, [], ◌∷◌, ltb, eqb, length, take, drop, get_or}
use Rattle.std.proofs.Math.Option.{Option, none, some}
use Rattle.definitions.specs.Basics.{when◌then◌otherwise◌, find}
use Rattle.definitions.specs.Integers.{front, octal_digit, hex_digit, worth}

-- the escape letters and their bytes form one small constant table: \a \b \f \n \r \t \v \? \\ \' \"
-- eleven letters, each with its byte after it
unfoldable pub escapes : List ℕ
escapes = 97 ∷ 7 ∷ 98 ∷ 8 ∷ 102 ∷ 12 ∷ 110 ∷ 10 ∷ 114 ∷ 13 ∷ 116 ∷ 9 ∷ 118 ∷ 11 ∷ 63 ∷ 63 ∷ 92 ∷ 92 ∷ 39 ∷ 39 ∷ 34 ∷ 34 ∷ []

-- a letter's row
unfoldable pub find_escape : ℕ → Option ℕ
find_escape b = find (λ i. eqb (get_or escapes (2 * i) 0) b) 0 11

-- the first piece of a string: the byte that it stands for, and how many bytes it takes
pub data Piece : Type 0 where
  piece : (byte count : ℕ) → Piece
  bad_piece : Piece

-- at most n bytes of the front that pass a test
abbrev pub up_to : ℕ → (ℕ → Bool) → List ℕ → ℕ
up_to n p bs = min n (front p bs)

-- a value over 255 is refused
abbrev pub piece_of : ℕ → ℕ → Piece
piece_of v count = when ltb v 256 then (λ _. piece v count) otherwise λ _. bad_piece

-- one to three octal digits, from the backslash's next byte on
unfoldable pub octal_piece : List ℕ → Piece
octal_piece bs = piece_of (worth 8 0 (take (up_to 3 octal_digit bs) bs)) (1 + up_to 3 octal_digit bs)

-- one or two hex digits, from the x's next byte on
unfoldable pub hex_piece : List ℕ → Piece
hex_piece bs =
    when eqb (up_to 2 hex_digit bs) 0 then (λ _. bad_piece) otherwise λ _.
    piece_of (worth 16 0 (take (up_to 2 hex_digit bs) bs)) (2 + up_to 2 hex_digit bs)

abbrev pub letter_piece : Option ℕ → Piece
letter_piece none = bad_piece
letter_piece (some i) = piece (get_or escapes (2 * i + 1) 0) 2

-- from the backslash's next byte on; any other escape is refused
unfoldable pub escape_piece : List ℕ → Piece
escape_piece [] = bad_piece
escape_piece (b ∷ bs) =
    when octal_digit b then (λ _. octal_piece (b ∷ bs)) otherwise λ _.
    when eqb b 120 then (λ _. hex_piece bs) otherwise λ _.
    letter_piece (find_escape b)

unfoldable pub first_piece : ℕ → List ℕ → Piece
first_piece b bs = when eqb b 92 then (λ _. escape_piece bs) otherwise λ _. piece b 1

abbrev pub before : ℕ → Option (List ℕ) → Option (List ℕ)
before b none = none
before b (some bs) = some (b ∷ bs)

abbrev pub follow : Piece → (ℕ → Option (List ℕ)) → Option (List ℕ)
follow bad_piece rest = none
follow (piece b n) rest = before b (rest n)

-- piece after piece, of a string of at most so many bytes
unfoldable pub decode_f : ℕ → List ℕ → Option (List ℕ)
decode_f zero [] = some []
decode_f zero (b ∷ bs) = none
decode_f (suc f) [] = some []
decode_f (suc f) (b ∷ bs) = follow (first_piece b bs) (λ n. decode_f f (drop n (b ∷ bs)))

-- what the bytes between the quotes stand for
unfoldable pub decode : List ℕ → Option (List ℕ)
decode bs = decode_f (length bs) bs

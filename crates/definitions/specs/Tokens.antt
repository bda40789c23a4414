-- Tokens (T, H, "Tokens and grammar"). A text is a list of bytes. A token begins at a place, with line and column; where reading
-- goes on is an offset.
use Rattle.std.specs.Prelude.{ℕ, suc, ◌+◌, Bool, true, false, ◌&&◌, ◌||◌, not, List, [], ◌∷◌, eqb, drop}
use Rattle.std.proofs.Math.Option.{Option, none, some}
use Rattle.definitions.specs.declared.Token.{Token}
use Rattle.definitions.specs.declared.Place.{Place}
use Rattle.definitions.specs.Basics.{when◌then◌otherwise◌}
use Rattle.definitions.specs.Places.{place_of}
use Rattle.definitions.specs.Classes.{class, goes_on, quote_class, newline_class, space_class, comment_class, symbol_class, digit_class, letter_class}
use Rattle.definitions.specs.Integers.{front, integer_length, runs_on}

-- ---- kinds of tokens; a symbol's kind is its byte

abbrev pub end_of_text : ℕ
end_of_text = 0

abbrev pub name_token : ℕ
name_token = 1

abbrev pub integer_token : ℕ
integer_token = 2

abbrev pub string_token : ℕ
string_token = 3

abbrev pub comma : ℕ
comma = 44

abbrev pub minus : ℕ
minus = 45

abbrev pub colon : ℕ
colon = 58

abbrev pub open_angle : ℕ
open_angle = 60

abbrev pub close_angle : ℕ
close_angle = 62

abbrev pub open_brace : ℕ
open_brace = 123

abbrev pub close_brace : ℕ
close_brace = 125

-- a token with the offset after it, or a bad token's first byte
pub data Scan : Type 0 where
  token : Token → ℕ → Scan
  bad : Place → Scan

-- ---- what separates: space, tab, newline, return, vertical tab, form feed; `#` runs to the newline or end

-- how many bytes at the front separate; inside a comment, or not
unfoldable pub gap : Bool → List ℕ → ℕ
gap comment [] = 0
gap true (b ∷ bs) = suc (gap (not (eqb b 10)) bs)
gap false (b ∷ bs) =
    when eqb (class b) space_class || eqb (class b) newline_class then (λ _. suc (gap false bs)) otherwise λ _.
    when eqb (class b) comment_class then (λ _. suc (gap true bs)) otherwise λ _. 0

-- ---- strings: ended by the same quote, a backslash taking the next byte along, no newline or zero byte inside

abbrev pub one_more : Option ℕ → Option ℕ
one_more none = none
one_more (some n) = some (suc n)

-- how many bytes stand before the closing quote; after a backslash, or not
unfoldable pub inside : ℕ → Bool → List ℕ → Option ℕ
inside quote slashed [] = none
inside quote slashed (b ∷ bs) =
    when eqb b 10 || eqb b 0 then (λ _. none) otherwise λ _.
    when not slashed && eqb b quote then (λ _. some 0) otherwise λ _.
    one_more (inside quote (not slashed && eqb b 92) bs)

-- ---- the token that begins at the place p with the byte b

abbrev pub token_of : ℕ → Place → ℕ → Scan
token_of kind p next = token (record { kind = kind; start = p }) next

-- an integer directly followed by a letter, digit, `_` or `.` is bad
unfoldable pub integer_scan : Place → ℕ → List ℕ → Scan
integer_scan p b bs =
    when runs_on (drop (integer_length b bs) (b ∷ bs)) then (λ _. bad p) otherwise λ _. token_of integer_token p (p.offset + integer_length b bs)

abbrev pub string_scan : Place → Option ℕ → Scan
string_scan p none = bad p
string_scan p (some n) = token_of string_token p (p.offset + n + 2)

unfoldable pub scan_from : Place → List ℕ → Scan
scan_from p [] = token_of end_of_text p p.offset
scan_from p (b ∷ bs) =
    when eqb (class b) letter_class then (λ _. token_of name_token p (p.offset + 1 + front goes_on bs)) otherwise λ _.
    when eqb (class b) digit_class then (λ _. integer_scan p b bs) otherwise λ _.
    when eqb (class b) quote_class then (λ _. string_scan p (inside b false bs)) otherwise λ _.
    when eqb (class b) symbol_class then (λ _. token_of b p (p.offset + 1)) otherwise λ _.
    bad p

-- where the next token begins, from an offset on
unfoldable pub skip : List ℕ → ℕ → ℕ
skip s at = at + gap false (drop at s)

-- the next token from an offset on
unfoldable pub scan : List ℕ → ℕ → Scan
scan s at = scan_from (place_of s (skip s at)) (drop (skip s at) s)

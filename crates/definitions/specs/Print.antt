-- Compact and pretty print (R, "Print"): the text of the live values, its length, and what the lent buffer holds afterwards.
use Rattle.std.specs.Prelude.{ℕ, zero, suc, ◌+◌, ◌-◌, ◌*◌, ◌/◌, ◌%◌, Bool, true, false, ◌||◌, List, [], ◌∷◌, ◌++◌, ltb, eqb, length, replicate}
use Rattle.std.proofs.Math.Option.{Option, none, some}
use Rattle.definitions.specs.declared.Want.{Want}
use Rattle.definitions.specs.Basics.{when◌then◌otherwise◌, bytes, between}
use Rattle.definitions.specs.Refusals.{Answer, given, denied, unplaced, bad_table, buffer_short}
use Rattle.definitions.specs.Image.{member_name, find_number}
use Rattle.definitions.specs.Scope.{Scope, in_message, want, within, name_in, i32, i64, bool, enum}
use Rattle.definitions.specs.Nodes.{word32, word64}
use Rattle.definitions.specs.Validity.{valid}
use Rattle.definitions.specs.Live.{Val, number, run, inside, Tree, nil, node, first_unknown, meaning}
use Rattle.definitions.specs.Calls.{barred, unbarred, stored}

-- ---- numbers

-- a number's decimal digits, of which it has no more than the number itself and one
unfoldable pub digits : ℕ → ℕ → List ℕ
digits zero n = (48 + n) ∷ []
digits (suc f) n = when ltb n 10 then (λ _. (48 + n) ∷ []) otherwise λ _. digits f (n / 10) ++ ((48 + n % 10) ∷ [])

unfoldable pub decimal : ℕ → List ℕ
decimal n = digits n n

-- 64 bits in two's complement
unfoldable pub signed_decimal : ℕ → List ℕ
signed_decimal n = when ltb n (word64 / 2) then (λ _. decimal n) otherwise λ _. 45 ∷ decimal (word64 - n)

-- ---- strings and bytes stand in `"`: \n \r \t \' \" \\ as escapes, other bytes 32 to 126 as they are, the rest in octal

abbrev pub slashed : ℕ → List ℕ
slashed b = 92 ∷ b ∷ []

unfoldable pub quote_byte : ℕ → List ℕ
quote_byte b =
    when eqb b 10 then (λ _. slashed 110) otherwise λ _.
    when eqb b 13 then (λ _. slashed 114) otherwise λ _.
    when eqb b 9 then (λ _. slashed 116) otherwise λ _.
    when eqb b 39 || eqb b 34 || eqb b 92 then (λ _. slashed b) otherwise λ _.
    when between 32 126 b then (λ _. b ∷ []) otherwise λ _.
    92 ∷ (48 + b / 64) ∷ (48 + b / 8 % 8) ∷ (48 + b % 8) ∷ []

unfoldable pub quote_bytes : List ℕ → List ℕ
quote_bytes [] = []
quote_bytes (b ∷ bs) = quote_byte b ++ quote_bytes bs

unfoldable pub quoted : List ℕ → List ℕ
quoted bs = 34 ∷ (quote_bytes bs ++ (34 ∷ []))

-- ---- values

-- an enum's number by its name; an unnamed one prints `: 7` after the field's own `name: `
abbrev pub member_text : List ℕ → ℕ → Option ℕ → List ℕ
member_text s n none = bytes ": " ++ signed_decimal n
member_text s n (some i) = member_name s i

unfoldable pub number_text : List ℕ → Want → ℕ → ℕ → List ℕ
number_text s w kind n =
    when eqb kind i32 || eqb kind i64 then (λ _. signed_decimal n) otherwise λ _.
    when eqb kind bool then (λ _. when eqb n 0 then (λ _. bytes "false") otherwise λ _. bytes "true") otherwise λ _.
    when eqb kind enum then (λ _. member_text s n (find_number s w.reference (n % word32))) otherwise λ _.
    decimal n

-- a field's name; an unknown field's number stands in its place
unfoldable pub label : List ℕ → Scope → ℕ → List ℕ
label s c r = when ltb r first_unknown then (λ _. name_in s c r) otherwise λ _. decimal (r - first_unknown)

-- ---- styles

pub data Style : Type 0 where
  compact pretty : Style

-- two spaces a level
unfoldable pub indent : ℕ → List ℕ
indent d = replicate (2 * d) 32

-- before a field: compact puts one space before each but the first of its message
unfoldable pub lead : Style → ℕ → Bool → List ℕ
lead compact d true = []
lead compact d false = 32 ∷ []
lead pretty d first = indent d

-- pretty ends each field with a newline
unfoldable pub trail : Style → List ℕ
trail compact = []
trail pretty = 10 ∷ []

-- `name {` body `}`; pretty has a newline after `{`, and `}` under the name
unfoldable pub opening : Style → List ℕ
opening compact = bytes " {"
opening pretty = bytes " {" ++ (10 ∷ [])

unfoldable pub closing : Style → ℕ → List ℕ
closing compact d = 125 ∷ []
closing pretty d = indent d ++ (125 ∷ [])

-- ---- fields in order, at a depth; `first`: none stands before them in their message

abbrev pub value_text : List ℕ → Style → ℕ → Want → ℕ → Val → List ℕ → List ℕ
value_text s y d w kind (number n) body = bytes ": " ++ number_text s w kind n
value_text s y d w kind (run bs) body = bytes ": " ++ quoted bs
value_text s y d w kind inside body = opening y ++ (body ++ closing y d)

unfoldable pub render : List ℕ → Style → ℕ → Bool → Scope → Tree → List ℕ
render s y d first c nil = []
render s y d first c (node r k v kids rest) =
    lead y d first
    ++ (label s c r
    ++ (value_text s y d (want s c r) k v (render s y (d + 1) true (within (want s c r)) kids)
    ++ (trail y
    ++ render s y d false c rest)))

-- the print of a table
unfoldable pub print_text : List ℕ → Style → ℕ → List ℕ → List ℕ → List ℕ
print_text s y root w pool = render s y 0 true (in_message root) (meaning s root w pool)

-- ---- the answer: 1, 2, 15, 16

abbrev pub print_fitted : ℕ → ℕ → Answer ℕ
print_fitted room count = when ltb room count then (λ _. denied buffer_short (unplaced count)) otherwise λ _. given count

unfoldable pub print_answer : (schema : List ℕ) (y : Style) (root : ℕ) (w pool : List ℕ) (room : ℕ) → Answer ℕ
print_answer schema y root w pool room =
    unbarred (barred schema root (λ _. valid schema root w pool) bad_table)
    (λ _. print_fitted room (length (print_text schema y root w pool)))

-- what the buffer holds afterwards
unfoldable pub print_buffer : (schema : List ℕ) (y : Style) (root : ℕ) (w pool buffer : List ℕ) → List ℕ
print_buffer schema y root w pool buffer =
    stored (print_answer schema y root w pool (length buffer)) buffer (λ _. print_text schema y root w pool)

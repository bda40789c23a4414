-- The examples, by computing: (a) to (j) of document 01, one statement over a list; each refusal 1 to 18 beside its nearest
-- neighbour that is granted, one statement over a list; the places of 02 §1, one statement over a list; the limits; prints of tables that no text makes, one statement over a list; and what a
-- schema extends and what not, one statement over a list.
use mathlib.Core.Path.{◌≡◌, refl}
use Prim.Native.Nat.{ℕ}
use Prim.Native.String.{String}
use mathlib.Core.Bool.{Bool, true, false}
use mathlib.Core.List.{List, [], ◌∷◌, ◌++◌, map}
use Rattle.definitions.specs.Basics.{bytes, same, each, all, any, find}
use Rattle.definitions.specs.Refusals.{most_text, most_nodes, most_depth, most_number}
use Rattle.definitions.specs.Bits.{bit, bits}
use Rattle.definitions.specs.Image.{form, message_count, field_count, enum_count, value_count, name_count, messages_at, fields_at, enums_at, values_at, names_at, image_length, message, enumeration, field_at, field, member_at, member, identifier, name_text, field_name, member_name, name_good, total, running, type_good, field_good, member_good, distinct, fields_agree, members_agree, header_good, records_good, accepted, is_message, find_field, find_member, find_number}
use Rattle.definitions.specs.Extending.{same_field, embedded, message_extends, same_member, enum_extends, extends}
use Rattle.definitions.specs.Scope.{want, within, has_field, name_in, find_in}
use Rattle.definitions.specs.Utf8.{lead, step, steps, utf8}
use Rattle.definitions.specs.Nodes.{node_at, table_end, number_of, widen, run_of, grow, forest, tile_f, tiles, depth}
use Rattle.definitions.specs.Validity.{in_range, run_good, value_good, is_nil, unknown_good, field_fits, is_pair, forest_good, root_good, below, valid}
use Rattle.definitions.specs.Live.{rank_of, value_of, tree_of, same_val, has, key_of, has_key, sharing, replaced, insert, canon, meaning}
use Rattle.definitions.specs.Classes.{classes, class}
use Rattle.definitions.specs.Integers as integers
use Rattle.definitions.specs.Places.{newlines, behind}
use Rattle.definitions.specs.Tokens.{gap, inside, integer_scan, scan_from, skip, scan}
use Rattle.definitions.specs.Strings.{escapes, find_escape, octal_piece, hex_piece, escape_piece, first_piece, decode_f, decode}
use Rattle.definitions.specs.Calls.{barred}
use Rattle.definitions.specs.Loop.{turns, loop}
use Rattle.definitions.specs.Reading as read
use Rattle.definitions.specs.Reading.{read_answer, read_barred}
use Rattle.definitions.specs.Print as print
use Rattle.definitions.specs.Print.{compact, print_text, print_answer}
use Rattle.definitions.specs.Required.{filled, filled_in, filled_below, complete, required_answer}
use Rattle.definitions.specs.Access.{is_value, value_answer}
use Rattle.definitions.proofs.Cases.{Case, Outcome, reads, refuses, outcome, schema_e, schema_x, schema_named, field_of, member_of, schema_of, judged, Refusal, by, granted, refusal, schema_read, reading, levels, of_length}

-- the value of `id` retyped, (c) and (d)
abbrev of : ℕ → List ℕ → Case
of type text = record { schema = schema_e type; text = text }

abbrev cases : List Case
cases =
    of 1 []  -- (a)
    ∷ of 1 (bytes "id: -5 limits {value: 3 key: \"a\"}")  -- (b)
    ∷ of 2 (bytes "id: 9223372036854775807")  -- (c)
    ∷ of 2 (bytes "id: 9223372036854775808")
    ∷ of 2 (bytes "id: -9223372036854775808")
    ∷ of 1 (bytes "id: 2147483648")  -- (d)
    ∷ of 3 (bytes "id: 4294967296")
    ∷ of 1 (bytes "child {>")  -- (e)
    ∷ of 1 (bytes "child <>")
    ∷ of 1 (bytes "limits <>")
    ∷ of 1 (bytes "child: {}")  -- (f)
    ∷ of 1 (bytes "id: 1 id: 2")  -- (g)
    ∷ of 1 (bytes "limits {}")  -- (h)
    ∷ of 1 (bytes "id: 012")  -- (i)
    ∷ of 1 (bytes "id: 08")
    ∷ of 1 (bytes "limits {key: \"a\" key: \"b\"}")  -- (j)
    ∷ []

abbrev expected : List Outcome
expected =
    reads (9 ∷ 0 ∷ 0 ∷ 0 ∷ 1 ∷ []) [] [] []
    ∷ reads
    (9 ∷ 0 ∷ 0 ∷ 0 ∷ 5 ∷ 1 ∷ 0 ∷ 4294967295 ∷ 4294967291 ∷ 2 ∷ 10 ∷ 2 ∷ 0 ∷ 0 ∷ 5 ∷ 3 ∷ 1 ∷ 0 ∷ 3 ∷ 4 ∷ 6 ∷ 0 ∷ 0 ∷ 1 ∷ 5 ∷ [])
    (bytes "a")
    (bytes "id: -5 limits {key: \"a\" value: 3}")
    (bytes "id: -5\nlimits {\n  key: \"a\"\n  value: 3\n}\n")
    ∷ reads
    (9 ∷ 0 ∷ 0 ∷ 0 ∷ 2 ∷ 2 ∷ 0 ∷ 2147483647 ∷ 4294967295 ∷ 2 ∷ [])
    []
    (bytes "id: 9223372036854775807")
    (bytes "id: 9223372036854775807\n")
    ∷ refuses 9 4 1 5
    ∷ reads
    (9 ∷ 0 ∷ 0 ∷ 0 ∷ 2 ∷ 2 ∷ 0 ∷ 2147483648 ∷ 0 ∷ 2 ∷ [])
    []
    (bytes "id: -9223372036854775808")
    (bytes "id: -9223372036854775808\n")
    ∷ refuses 9 4 1 5
    ∷ refuses 9 4 1 5
    ∷ refuses 5 7 1 8
    ∷ reads (9 ∷ 0 ∷ 0 ∷ 0 ∷ 2 ∷ 9 ∷ 3 ∷ 0 ∷ 0 ∷ 2 ∷ []) [] (bytes "child {}") (bytes "child {\n}\n")
    ∷ refuses 5 7 1 8
    ∷ refuses 5 5 1 6
    ∷ reads
    (9 ∷ 0 ∷ 0 ∷ 0 ∷ 3 ∷ 1 ∷ 0 ∷ 0 ∷ 1 ∷ 2 ∷ 1 ∷ 0 ∷ 0 ∷ 2 ∷ 3 ∷ [])
    []
    (bytes "id: 2")
    (bytes "id: 2\n")
    ∷ reads
    (9 ∷ 0 ∷ 0 ∷ 0 ∷ 4 ∷ 10 ∷ 2 ∷ 0 ∷ 0 ∷ 4 ∷ 6 ∷ 0 ∷ 0 ∷ 0 ∷ 3 ∷ 3 ∷ 1 ∷ 0 ∷ 0 ∷ 4 ∷ [])
    []
    (bytes "limits {key: \"\" value: 0}")
    (bytes "limits {\n  key: \"\"\n  value: 0\n}\n")
    ∷ reads (9 ∷ 0 ∷ 0 ∷ 0 ∷ 2 ∷ 1 ∷ 0 ∷ 0 ∷ 10 ∷ 2 ∷ []) [] (bytes "id: 10") (bytes "id: 10\n")
    ∷ refuses 4 4 1 5
    ∷ refuses 8 17 1 18
    ∷ []

-- ---- refusals

-- a root with one string, `name`, of so many bytes, and so many nodes
abbrev named : ℕ → ℕ → List ℕ
named count end = 9 ∷ 0 ∷ 0 ∷ 0 ∷ end ∷ 6 ∷ 1 ∷ 0 ∷ count ∷ 2 ∷ []

abbrev refusals : List Refusal
refusals =
    schema_read []
    ∷ schema_read (schema_named 49)
    ∷ schema_read (schema_named 95)
    ∷ schema_read schema_x
    ∷ refusal (read_answer (schema_e 1) 1 [] 5 0)
    ∷ refusal (read_answer (schema_e 1) 0 [] 5 0)
    ∷ of_length (read_barred (schema_e 1) 0 1048577)
    ∷ of_length (read_barred (schema_e 1) 0 1048576)
    ∷ reading (schema_e 1) (bytes "name: 'ab")
    ∷ reading (schema_e 1) (bytes "child {  # c")
    ∷ reading (schema_e 1) (bytes "id: 1 nope 08")
    ∷ reading (schema_e 1) (bytes "limits {keys")
    ∷ reading schema_x (bytes "e: nope")
    ∷ reading schema_x (bytes "e: NEG")
    ∷ reading schema_x (bytes "mm {value {} value")
    ∷ reading schema_x (bytes "r: 4294967295 r: 0x100000000")
    ∷ reading schema_x (bytes "b: true b:")
    ∷ reading schema_x (bytes "y: '\\377' y: '\\400'")
    ∷ reading (schema_e 1) (bytes "name: '\\377'")
    ∷ levels 1 (schema_e 1) (bytes "child{}")
    ∷ levels 0 (schema_e 1) (bytes "child{}")
    ∷ levels 2 schema_x (bytes "mm{}")
    ∷ levels 1 schema_x (bytes "mm{}")
    ∷ refusal (read_answer (schema_e 1) 0 (bytes "name: 'ab'") 9 1)
    ∷ refusal (read_answer (schema_e 1) 0 (bytes "name: 'ab'") 10 1)
    ∷ refusal (read_answer (schema_e 1) 0 (bytes "name: 'ab'") 10 2)
    ∷ refusal (print_answer (schema_e 1) compact 0 (named 2 3) (bytes "ab") 10)
    ∷ refusal (print_answer (schema_e 1) compact 0 (named 3 2) (bytes "ab") 10)
    ∷ refusal (print_answer (schema_e 1) compact 0 (named 2 2) (bytes "ab") 9)
    ∷ refusal (print_answer (schema_e 1) compact 0 (named 2 2) (bytes "ab") 10)
    ∷ refusal (required_answer schema_x 0 (9 ∷ 0 ∷ 0 ∷ 0 ∷ 1 ∷ []) [])
    ∷ refusal (required_answer schema_x 0 (9 ∷ 0 ∷ 0 ∷ 0 ∷ 2 ∷ 1 ∷ 0 ∷ 0 ∷ 0 ∷ 2 ∷ []) [])
    ∷ refusal (value_answer (schema_e 1) 0 (named 2 2) (bytes "ab") 0)
    ∷ refusal (value_answer (schema_e 1) 0 (named 2 2) (bytes "ab") 1)
    ∷ refusal (value_answer (schema_e 1) 0 (named 2 2) (bytes "ab") 2)
    ∷ []

abbrev refusals_expected : List Refusal
refusals_expected =
    by 1 0 0 0  -- an empty image
    ∷ by 1 0 0 0  -- a name that starts with a digit
    ∷ granted
    ∷ granted
    ∷ by 2 0 0 0
    ∷ granted
    ∷ by 3 0 0 0
    ∷ granted
    ∷ by 4 6 1 7
    ∷ by 5 12 1 13
    ∷ by 6 6 1 7
    ∷ by 6 8 1 9  -- an entry's field that is not `key` or `value`
    ∷ by 7 3 1 4
    ∷ granted
    ∷ by 8 13 1 14
    ∷ by 9 17 1 18
    ∷ by 10 10 1 11  -- the end of the text, where a bool is wanted
    ∷ by 11 13 1 14  -- an escape over 255
    ∷ by 11 6 1 7  -- a string that is not UTF-8
    ∷ granted  -- a level left
    ∷ by 12 5 1 6  -- none left
    ∷ granted  -- one for the entry and one for its default message
    ∷ by 12 3 1 4  -- one alone, at the entry's closer
    ∷ by 13 2 0 0  -- 13 comes before 14
    ∷ by 14 2 0 0
    ∷ granted
    ∷ by 15 0 0 0  -- an end past the words
    ∷ by 15 0 0 0  -- a string past the pool
    ∷ by 16 10 0 0
    ∷ granted
    ∷ by 17 0 0 0
    ∷ granted
    ∷ by 18 0 0 0  -- the root is no string
    ∷ granted
    ∷ by 18 0 0 0  -- no such node
    ∷ []

-- ---- places: line and column (02 §1)

-- the bytes of two texts with one byte between them: 10 the newline, 13 the return, 11 and 12 the vertical tab and form feed
abbrev parted : String → ℕ → String → List ℕ
parted a b c = bytes a ++ (b ∷ bytes c)

abbrev places : List Refusal
places =
    reading schema_x (parted "q: 1" 13 "nope")
    ∷ reading schema_x (parted "q: 1" 10 "nope")
    ∷ reading schema_x (bytes "q: 1" ++ (13 ∷ parted "" 10 "nope"))
    ∷ reading schema_x (parted "q: 1" 11 "nope")
    ∷ reading schema_x (parted "q: 1" 12 "nope")
    ∷ reading schema_x (parted "q: 1" 9 "nope")
    ∷ reading schema_x (bytes "y: '" ++ (195 ∷ 169 ∷ bytes "' nope"))
    ∷ reading schema_x (parted "q:" 10 "")
    ∷ reading schema_x (bytes "m { # c")
    ∷ reading schema_x (parted "b:" 10 "" ++ (9 ∷ []))
    ∷ reading schema_x (parted "y: 'a" 10 "b' nope")
    ∷ reading schema_x (parted "# a" 10 "" ++ parted "# b" 10 " q: 08")
    ∷ reading schema_x (parted "q: -" 10 " 2147483649")
    ∷ reading schema_x (parted "mm {key: 1" 10 "key: 2}")
    ∷ levels 1 schema_x (parted "m {" 10 "m {}}")
    ∷ levels 1 schema_x (parted "mm {" 10 "}")
    ∷ []

abbrev places_expected : List Refusal
places_expected =
    by 6 5 1 6  -- a return ends no line
    ∷ by 6 5 2 1
    ∷ by 6 6 2 1  -- nor does one before a newline
    ∷ by 6 5 1 6
    ∷ by 6 5 1 6
    ∷ by 6 5 1 6
    ∷ by 6 8 1 9  -- a letter of two bytes takes two columns
    ∷ by 5 3 2 1  -- the end of the text
    ∷ by 5 7 1 8
    ∷ by 10 4 2 2
    ∷ by 4 3 1 4  -- a string with a newline, at its quote
    ∷ by 4 12 3 5  -- newlines at the end of comments
    ∷ by 9 6 2 2  -- the first digit
    ∷ by 8 11 2 1  -- the second name
    ∷ by 12 6 2 3  -- the opener
    ∷ by 12 5 2 1  -- the entry's closer, for a default message
    ∷ []

-- ---- limits

abbrev limits : List ℕ
limits = most_text ∷ most_nodes ∷ most_depth ∷ most_number ∷ []

abbrev limits_expected : List ℕ
limits_expected = 1048576 ∷ 65535 ∷ 32 ∷ 536870911 ∷ []

-- ---- prints

abbrev prints : List (List ℕ)
prints =
    -- unknown fields 9, 8 and 9 around `id`: known fields first, then unknown ones by number, stably
    print_text (schema_e 1) compact 0
    (9 ∷ 0 ∷ 0 ∷ 0 ∷ 5 ∷ 11 ∷ 9 ∷ 0 ∷ 4 ∷ 2 ∷ 13 ∷ 8 ∷ 0 ∷ 1 ∷ 3 ∷ 1 ∷ 0 ∷ 0 ∷ 7 ∷ 4 ∷ 12 ∷ 9 ∷ 1 ∷ 0 ∷ 5 ∷ [])
    (10 ∷ [])
    -- three entries with keys a, b, a: the last of equal keys is live, in its own place
    ∷ print_text (schema_e 1) compact 0
    (9 ∷ 0 ∷ 0 ∷ 0 ∷ 10 ∷
    10 ∷ 2 ∷ 0 ∷ 0 ∷ 4 ∷ 6 ∷ 0 ∷ 0 ∷ 1 ∷ 3 ∷ 3 ∷ 1 ∷ 0 ∷ 1 ∷ 4 ∷
    10 ∷ 2 ∷ 0 ∷ 0 ∷ 7 ∷ 3 ∷ 1 ∷ 0 ∷ 2 ∷ 6 ∷ 6 ∷ 0 ∷ 1 ∷ 1 ∷ 7 ∷
    10 ∷ 2 ∷ 0 ∷ 0 ∷ 10 ∷ 6 ∷ 0 ∷ 2 ∷ 1 ∷ 9 ∷ 3 ∷ 1 ∷ 0 ∷ 3 ∷ 10 ∷ [])
    (bytes "aba")
    -- an unnamed enum number, and a named one
    ∷ print_text schema_x compact 0 (9 ∷ 0 ∷ 0 ∷ 0 ∷ 2 ∷ 8 ∷ 3 ∷ 4294967295 ∷ 4294967294 ∷ 2 ∷ []) []
    ∷ print_text schema_x compact 0 (9 ∷ 0 ∷ 0 ∷ 0 ∷ 2 ∷ 8 ∷ 3 ∷ 4294967295 ∷ 4294967295 ∷ 2 ∷ []) []
    ∷ []

abbrev prints_expected : List (List ℕ)
prints_expected =
    bytes "id: 7 8: \"\\n\" 9: 4 9: 4294967296"
    ∷ bytes "limits {key: \"b\" value: 2} limits {key: \"a\" value: 3}"
    ∷ bytes "e: : -2"
    ∷ bytes "e: NEG"
    ∷ []

-- ---- extending

-- `a` u32 1, `b` message 1 2, `c` map of i32 to u32 3
abbrev field_a : List ℕ
field_a = field_of 0 1 0 0 3 0

abbrev field_b : List ℕ
field_b = field_of 1 2 0 0 9 1

abbrev field_c : List ℕ
field_c = field_of 2 3 3 1 3 0

abbrev members : List ℕ
members = member_of 0 1 ++ member_of 1 2

abbrev newer : List ℕ
newer = schema_of 3 (field_a ++ (field_b ++ field_c)) 2 members

abbrev olders : List (List ℕ)
olders =
    newer
    ∷ schema_of 2 (field_a ++ field_c) 1 (member_of 1 2)
    ∷ schema_of 0 [] 2 (member_of 1 2 ++ member_of 0 1)
    ∷ schema_of 2 (field_b ++ field_a) 2 members
    ∷ schema_of 1 (field_of 3 1 0 0 3 0) 2 members
    ∷ schema_of 1 (field_of 0 4 0 0 3 0) 2 members
    ∷ schema_of 1 (field_of 0 1 2 0 3 0) 2 members
    ∷ schema_of 1 (field_of 2 3 3 2 3 0) 2 members
    ∷ schema_of 1 (field_of 0 1 0 0 4 0) 2 members
    ∷ schema_of 1 (field_of 1 2 0 0 9 0) 2 members
    ∷ schema_of 0 [] 1 (member_of 2 2)
    ∷ schema_of 0 [] 1 (member_of 1 3)
    ∷ schema_e 1
    ∷ []

-- accepted, and extended or not
abbrev yes : List Bool
yes = true ∷ true ∷ []

abbrev no : List Bool
no = true ∷ false ∷ []

abbrev extensions_expected : List (List Bool)
extensions_expected =
    yes  -- itself
    ∷ yes  -- a field and a value less
    ∷ yes  -- values in another order
    ∷ no  -- fields in another order
    ∷ no  -- another name
    ∷ no  -- number
    ∷ no  -- label
    ∷ no  -- key type
    ∷ no  -- type
    ∷ no  -- reference
    ∷ no  -- another value's name
    ∷ no  -- number
    ∷ no  -- fields that the newer does not have
    ∷ []

computed : (map outcome cases ≡ expected) × (refusals ≡ refusals_expected) × (places ≡ places_expected) × (limits ≡ limits_expected) × (prints ≡ prints_expected) × (map (judged newer) olders ≡ extensions_expected)
unfolding same each all any find bit bits
    form message_count field_count enum_count value_count name_count messages_at fields_at enums_at values_at names_at image_length
    message enumeration field_at field member_at member identifier name_text field_name member_name name_good total running type_good
    field_good member_good distinct fields_agree members_agree header_good records_good accepted is_message find_field find_member find_number
    same_field embedded message_extends same_member enum_extends extends
    want within has_field name_in find_in lead step steps utf8 node_at table_end number_of widen run_of grow forest tile_f tiles depth in_range run_good value_good is_nil unknown_good field_fits is_pair forest_good root_good below valid
    rank_of value_of tree_of same_val has key_of has_key sharing replaced insert canon meaning classes class
    integers.front integers.digit_value integers.hex_ahead integers.integer_length integers.runs_on integers.worth integers.integer_value
    integers.most_unsigned integers.most_signed integers.signed
    newlines behind gap inside integer_scan scan_from skip scan
    escapes find_escape octal_piece hex_piece escape_piece first_piece decode_f decode barred turns loop
    read.unsigned read.negated read.signed_value read.bool_value read.enum_value read.string_value read.scalar
    read.after_name read.opened read.field read.default read.default_value read.closed read.again read.noted
    read.item read.fields read.under read.read_body read.whole read.read_barred read.read_answer
    print.digits print.decimal print.signed_decimal print.quote_byte print.quote_bytes print.quoted print.number_text print.label
    print.indent print.lead print.trail print.opening print.closing print.render print.print_text print.print_answer filled filled_in filled_below complete required_answer is_value value_answer
computed = (refl, refl, refl, refl, refl, refl)

pub examples : map outcome cases ≡ expected
examples = computed.0

pub refused : refusals ≡ refusals_expected
refused = computed.1

pub placed : places ≡ places_expected
placed = computed.2

pub limited : limits ≡ limits_expected
limited = computed.3

pub printed : prints ≡ prints_expected
printed = computed.4

pub extended : map (judged newer) olders ≡ extensions_expected
extended = computed.5

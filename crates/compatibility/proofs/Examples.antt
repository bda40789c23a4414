-- The demand, computed: texts that an older schema reads and texts that it refuses; and what goes wrong without each thing presumed.
use mathlib.Core.Path.{◌≡◌, refl, ap}
use Prim.Native.Nat.{ℕ}
use mathlib.Core.Bool.{Bool, true, false}
use mathlib.Core.List.{List, [], ◌∷◌, ◌++◌, map}
use mathlib.Core.Option.{Option, none, some}
use lib.ListN.{length}
use Rattle.definitions.specs.Basics.{bytes, same, each, all, any, find}
use Rattle.definitions.specs.Bits.{bit, bits}
use Rattle.definitions.specs.Refusals.{denied, unplaced, text_too_long}
use Rattle.definitions.specs.Image.{form, message_count, field_count, enum_count, value_count, name_count, messages_at, fields_at, enums_at, values_at, names_at, image_length, message, enumeration, field_at, field, member_at, member, identifier, name_text, field_name, member_name, name_good, total, running, type_good, field_good, member_good, distinct, fields_agree, members_agree, header_good, records_good, accepted, is_message, find_field, find_member, find_number}
use Rattle.definitions.specs.Extending.{same_field, embedded, message_extends, same_member, enum_extends, extends}
use Rattle.definitions.specs.Scope.{want, within, has_field, name_in, find_in}
use Rattle.definitions.specs.Utf8.{lead, step, steps, utf8}
use Rattle.definitions.specs.Nodes.{node_at, table_end, number_of, widen, run_of, grow, forest, tile_f, tiles, depth}
use Rattle.definitions.specs.Validity.{in_range, run_good, value_good, is_nil, unknown_good, field_fits, is_pair, forest_good, root_good, below, valid}
use Rattle.definitions.specs.Live.{rank_of, value_of, tree_of, same_val, has, key_of, has_key, sharing, replaced, insert, canon, meaning}
use Rattle.definitions.specs.Names.{name_of, value_names, names, knows}
use Rattle.definitions.specs.Classes.{classes, class}
use Rattle.definitions.specs.Integers as integers
use Rattle.definitions.specs.Places.{newlines, behind}
use Rattle.definitions.specs.Tokens.{gap, inside, integer_scan, scan_from, skip, scan}
use Rattle.definitions.specs.Strings.{escapes, find_escape, octal_piece, hex_piece, escape_piece, first_piece, decode_f, decode}
use Rattle.definitions.specs.Calls.{barred}
use Rattle.definitions.specs.Loop.{turns, loop}
use Rattle.definitions.specs.Reading as read
use Rattle.definitions.specs.Print as print
use Rattle.definitions.specs.Print.{compact, pretty}
use Rattle.compatibility.specs.Demand.{knows_all, has_name, all_named}
use Rattle.compatibility.proofs.Cases.{newer, older, older_with, extra_as, digit_name, bare, small, in_order, turned, Trip, trip, trip_of, trip_at, Result, result, Outcome, reads, refuses, holding, failing}

-- ---- the demand, in either style: entries of maps in entries, enums, a name that no live value has

abbrev demands : List Trip
demands =
    trip newer older compact (bytes "mode: ON id: 5 limits { value { steps { key: -3 value: 7 } } key: 'a' } child { mode: OFF }")
    ∷ trip newer older pretty (bytes "mode: ON id: 5 limits { value { steps { key: -3 value: 7 } } key: 'a' } child { mode: OFF }")
    ∷ trip newer older compact (bytes "mode: ECO mode: ON")
    ∷ trip newer older compact (bytes "extra: 4 id: 1")
    ∷ trip newer older compact (bytes "id: 1 mode: ECO")
    ∷ trip newer older compact (bytes "limits { key: 'a' value { hue: OFF } }")
    ∷ trip newer older pretty (bytes "limits { key: 'a' value { hue: OFF } }")
    ∷ trip newer older pretty (bytes "id: 1 child { mode: ECO }")
    ∷ []

-- all that is presumed holds
abbrev presumed : (knowing : Bool) → List ℕ → Outcome → Result
presumed knowing printed outcome = record { presumed = holding 9 []; knowing = knowing; printed = printed; outcome = outcome }

abbrev demands_expected : List Result
demands_expected =
    presumed true
    (bytes "id: 5 mode: ON limits {key: \"a\" value {steps {key: -3 value: 7}}} child {mode: OFF}")
    (reads (bytes "id: 5 mode: ON limits {key: \"a\" value {steps {key: -3 value: 7}}} child {mode: OFF}"))
    ∷ presumed true
    (bytes "id: 5\nmode: ON\nlimits {\n  key: \"a\"\n  value {\n    steps {\n      key: -3\n      value: 7\n    }\n  }\n}\nchild {\n  mode: OFF\n}\n")
    (reads (bytes "id: 5 mode: ON limits {key: \"a\" value {steps {key: -3 value: 7}}} child {mode: OFF}"))
    ∷ presumed true (bytes "mode: ON") (reads (bytes "mode: ON"))  -- a replaced value's name is not live
    ∷ presumed false (bytes "id: 1 extra: 4") (refuses 6 6 1 7)
    ∷ presumed false (bytes "id: 1 mode: ECO") (refuses 7 12 1 13)
    ∷ presumed false (bytes "limits {key: \"a\" value {hue: OFF}}") (refuses 6 24 1 25)
    ∷ presumed false (bytes "limits {\n  key: \"a\"\n  value {\n    hue: OFF\n  }\n}\n") (refuses 6 34 4 5)
    ∷ presumed false (bytes "id: 1\nchild {\n  mode: ECO\n}\n") (refuses 7 22 3 9)
    ∷ []

-- ---- without what is presumed: one thing fails, in the order of `Setting`; the length of the text comes below

abbrev breaks : List Trip
breaks =
    -- a newer schema that is not accepted: its name is read as an integer, and refused 5
    trip_of digit_name bare 3 0 0 4 []
    -- an older schema that is not accepted: a byte follows its names
    ∷ trip newer (older ++ (0 ∷ [])) compact (bytes "id: 5")
    -- an older schema with another label, another kind, another reference, another order
    ∷ trip (extra_as 2) (extra_as 0) compact (bytes "extra: 1 extra: 2")
    ∷ trip newer (older_with 3 0) compact (bytes "id: -5")
    ∷ trip newer (older_with 1 1) compact (bytes "child { id: 2 }")
    ∷ trip in_order turned compact (bytes "b: 2 a: 1")
    -- a root that the older schema does not have
    ∷ trip_at newer small 1
    -- a table that is not valid: a u32 stands for `id`
    ∷ trip_of newer older 3 0 0 4294967295 []
    -- a word over 32 bits
    ∷ trip_of newer older 2 5 4294967296 0 []
    -- a pool byte over 255
    ∷ trip_of newer older 7 6 0 1 (256 ∷ [])
    -- an unknown field prints its number, which no schema reads; an unnamed enum number prints a second colon
    ∷ trip_of newer older 11 9 0 4 []
    ∷ trip_of newer older 8 2 0 7 []
    ∷ []

abbrev unless : ℕ → ℕ → List ℕ → Outcome → Result
unless n m printed outcome = record { presumed = failing n m; knowing = true; printed = printed; outcome = outcome }

abbrev breaks_expected : List Result
breaks_expected =
    record { presumed = failing 0 8; knowing = false; printed = bytes "9: 4"; outcome = refuses 5 0 1 1 }
    ∷ unless 1 7 (bytes "id: 5") (refuses 1 0 0 0)
    ∷ unless 2 6 (bytes "extra: 1 extra: 2") (reads (bytes "extra: 2"))
    ∷ unless 2 6 (bytes "id: -5") (refuses 5 4 1 5)
    ∷ unless 2 6 (bytes "child {id: 2}") (refuses 6 7 1 8)
    ∷ unless 2 6 (bytes "a: 1 b: 2") (reads (bytes "b: 2 a: 1"))
    ∷ unless 3 5 [] (refuses 2 0 0 0)
    ∷ unless 4 4 (bytes "id: 4294967295") (refuses 9 4 1 5)
    ∷ unless 5 3 (bytes "total: -0") (reads (bytes "total: 0"))
    ∷ unless 6 2 (bytes "raw: \"\\400\"") (refuses 11 5 1 6)
    ∷ unless 7 1 (bytes "9: 4") (refuses 5 0 1 1)
    ∷ unless 7 1 (bytes "mode: : 7") (refuses 5 6 1 7)
    ∷ []

-- a text one byte over the limit, and one at it
abbrev limits : List (Option ℕ)
limits = read.read_barred older 0 1048577 ∷ read.read_barred older 0 1048576 ∷ []

abbrev limits_expected : List (Option ℕ)
limits_expected = some text_too_long ∷ none ∷ []

computed : (map result demands ≡ demands_expected) × (map result breaks ≡ breaks_expected) × (limits ≡ limits_expected)
unfolding same each all any find bit bits
    form message_count field_count enum_count value_count name_count messages_at fields_at enums_at values_at names_at image_length
    message enumeration field_at field member_at member identifier name_text field_name member_name name_good total running type_good
    field_good member_good distinct fields_agree members_agree header_good records_good accepted is_message find_field find_member find_number
    same_field embedded message_extends same_member enum_extends extends
    want within has_field name_in find_in lead step steps utf8 node_at table_end number_of widen run_of grow forest tile_f tiles depth in_range run_good
    value_good is_nil unknown_good field_fits is_pair forest_good root_good below valid
    rank_of value_of tree_of same_val has key_of has_key sharing replaced insert canon meaning name_of value_names names knows knows_all has_name all_named classes class
    integers.front integers.digit_value integers.hex_ahead integers.integer_length integers.runs_on integers.worth integers.integer_value
    integers.most_unsigned integers.most_signed integers.signed
    newlines behind gap inside integer_scan scan_from skip scan
    escapes find_escape octal_piece hex_piece escape_piece first_piece decode_f decode barred turns loop
    read.unsigned read.negated read.signed_value read.bool_value read.enum_value read.string_value read.scalar
    read.after_name read.opened read.field read.default read.default_value read.closed read.again read.noted
    read.item read.fields read.under read.read_body read.whole read.read_barred read.read_answer
    print.digits print.decimal print.signed_decimal print.quote_byte print.quote_bytes print.quoted print.number_text print.label
    print.indent print.lead print.trail print.opening print.closing print.render print.print_text
computed = (refl, refl, refl)

-- both cases of the demand
pub examples : map result demands ≡ demands_expected
examples = computed.0

-- each thing that is presumed is needed
pub needed : map result breaks ≡ breaks_expected
needed = computed.1

pub limited : limits ≡ limits_expected
limited = computed.2

-- and so is the limit of the text: one byte more, and any text is refused 3
pub too_long : (text : List ℕ) → length text ≡ 1048577 → (count size : ℕ) → read.read_answer older 0 text count size ≡ denied text_too_long (unplaced 0)
unfolding read.read_answer
too_long text h count size = rw (h, barred-over) refl
  where
    head : List (Option ℕ) → Option ℕ
    head [] = none
    head (x ∷ xs) = x

    barred-over : read.read_barred older 0 1048577 ≡ some text_too_long
    barred-over = ap head limited

-- The schema image (H, "Schema image"): header, records, names, the whole acceptance rule, and lookup.
-- An image is a list of bytes. Every definition here is total: of an image that is not accepted it says something, and nothing asks.
use Rattle.std.specs.Prelude.{ℕ, zero, suc, ◌+◌, ◌*◌, Bool, false, ◌&&◌, ◌||◌, not, List, [], ◌∷◌, ltb, leb, eqb, length, take, drop}
use Rattle.std.proofs.Math.Option.{Option}
use Rattle.definitions.specs.declared.Span.{Span}
use Rattle.definitions.specs.declared.Field.{Field}
use Rattle.definitions.specs.declared.Member.{Member}
use Rattle.definitions.specs.Basics.{when◌then◌otherwise◌, between, same, each, all, find}
use Rattle.definitions.specs.Refusals.{most_number}
use Rattle.definitions.specs.Bits.{bits}

-- ---- header, 64 bits: form 4, messages 8, fields 12, enums 8, enum values 12, name bytes 16, zero 4

unfoldable pub form : List ℕ → ℕ
form s = bits s 0 4

unfoldable pub message_count : List ℕ → ℕ
message_count s = bits s 4 8

unfoldable pub field_count : List ℕ → ℕ
field_count s = bits s 12 12

unfoldable pub enum_count : List ℕ → ℕ
enum_count s = bits s 24 8

unfoldable pub value_count : List ℕ → ℕ
value_count s = bits s 32 12

unfoldable pub name_count : List ℕ → ℕ
name_count s = bits s 44 16

-- ---- where the records and the name bytes begin: messages of 3 bytes, fields of 9, enums of 3, enum values of 7

unfoldable pub messages_at : List ℕ → ℕ
messages_at s = 8

unfoldable pub fields_at : List ℕ → ℕ
fields_at s = messages_at s + 3 * message_count s

unfoldable pub enums_at : List ℕ → ℕ
enums_at s = fields_at s + 9 * field_count s

unfoldable pub values_at : List ℕ → ℕ
values_at s = enums_at s + 3 * enum_count s

unfoldable pub names_at : List ℕ → ℕ
names_at s = values_at s + 7 * value_count s

-- nothing may follow the name bytes
unfoldable pub image_length : List ℕ → ℕ
image_length s = names_at s + name_count s

-- ---- records

-- a message or an enum, 24 bits: first 12, count 12
abbrev pub span_of : List ℕ → Span
span_of r = record { first = bits r 0 12; count = bits r 12 12 }

unfoldable pub message : List ℕ → ℕ → Span
message s i = span_of (drop (messages_at s + 3 * i) s)

unfoldable pub enumeration : List ℕ → ℕ → Span
enumeration s i = span_of (drop (enums_at s + 3 * i) s)

-- a field, 72 bits: name start 16, name length 6, number 29, label 2, key type 4, type 4, reference 8, zero 3
abbrev pub field_of : List ℕ → Field
field_of r =
    record {
      start = bits r 0 16;
      length = bits r 16 6;
      number = bits r 22 29;
      label = bits r 51 2;
      key = bits r 53 4;
      kind = bits r 57 4;
      reference = bits r 61 8;
    }

abbrev pub field_zero : List ℕ → ℕ
field_zero r = bits r 69 3

unfoldable pub field_at : List ℕ → ℕ → List ℕ
field_at s i = drop (fields_at s + 9 * i) s

unfoldable pub field : List ℕ → ℕ → Field
field s i = field_of (field_at s i)

-- an enum value, 56 bits: name start 16, name length 6, number 32, zero 2
abbrev pub member_of : List ℕ → Member
member_of r = record { start = bits r 0 16; length = bits r 16 6; number = bits r 22 32 }

abbrev pub member_zero : List ℕ → ℕ
member_zero r = bits r 54 2

unfoldable pub member_at : List ℕ → ℕ → List ℕ
member_at s i = drop (values_at s + 7 * i) s

unfoldable pub member : List ℕ → ℕ → Member
member s i = member_of (member_at s i)

-- labels: 0 optional, 1 required, 2 repeated, 3 map
abbrev pub is_required : Field → Bool
is_required f = eqb f.label 1

abbrev pub is_repeated : Field → Bool
is_repeated f = eqb f.label 2

abbrev pub is_map : Field → Bool
is_map f = eqb f.label 3

-- ---- names: a letter or `_`, then letters, digits, `_`

abbrev pub letter : ℕ → Bool
letter b = between 97 122 b || between 65 90 b || eqb b 95

abbrev pub digit : ℕ → Bool
digit b = between 48 57 b

abbrev pub word : ℕ → Bool
word b = letter b || digit b

unfoldable pub identifier : List ℕ → Bool
identifier [] = false
identifier (b ∷ bs) = letter b && each word bs

unfoldable pub name_text : List ℕ → ℕ → ℕ → List ℕ
name_text s start count = take count (drop (names_at s + start) s)

unfoldable pub field_name : List ℕ → ℕ → List ℕ
field_name s i = name_text s (field s i).start (field s i).length

unfoldable pub member_name : List ℕ → ℕ → List ℕ
member_name s i = name_text s (member s i).start (member s i).length

-- a name lies inside the name bytes
unfoldable pub name_good : List ℕ → ℕ → ℕ → Bool
name_good s start count = leb (start + count) (name_count s) && identifier (name_text s start count)

-- ---- the acceptance rule

-- the counts of the first n runs, added up
unfoldable pub total : (ℕ → Span) → ℕ → ℕ
total f zero = 0
total f (suc n) = total f n + (f n).count

-- first field and first value are running totals that use up the whole table
unfoldable pub running : (ℕ → Span) → ℕ → ℕ → Bool
running f n size = all n (λ i. eqb (f i).first (total f i)) && eqb (total f n) size

-- key type is 1 to 6 for a map, else 0
abbrev pub key_good : Field → Bool
key_good f = when is_map f then (λ _. between 1 6 f.key) otherwise λ _. eqb f.key 0

-- types 1 to 9; the reference is an enum or message that exists for types 8 and 9, else 0
unfoldable pub type_good : List ℕ → Field → Bool
type_good s f =
    when eqb f.kind 8 then (λ _. ltb f.reference (enum_count s)) otherwise λ _.
    when eqb f.kind 9 then (λ _. ltb f.reference (message_count s)) otherwise λ _.
    between 1 7 f.kind && eqb f.reference 0

unfoldable pub field_good : List ℕ → ℕ → Bool
field_good s i =
    name_good s (field s i).start (field s i).length
    && between 1 most_number (field s i).number
    && key_good (field s i)
    && type_good s (field s i)
    && eqb (field_zero (field_at s i)) 0

unfoldable pub member_good : List ℕ → ℕ → Bool
member_good s i = name_good s (member s i).start (member s i).length && eqb (member_zero (member_at s i)) 0

-- no two of the records of a run agree
unfoldable pub distinct : (ℕ → ℕ → Bool) → Span → Bool
distinct agree r = all r.count (λ j. all j (λ i. not (agree (r.first + i) (r.first + j))))

-- names and numbers are distinct within a message and within an enum
unfoldable pub fields_agree : List ℕ → ℕ → ℕ → Bool
fields_agree s i j = same (field_name s i) (field_name s j) || eqb (field s i).number (field s j).number

unfoldable pub members_agree : List ℕ → ℕ → ℕ → Bool
members_agree s i j = same (member_name s i) (member_name s j) || eqb (member s i).number (member s j).number

-- form 1, zero bits, at least one message, exactly as long as its counts say
unfoldable pub header_good : List ℕ → Bool
header_good s =
    leb 8 (length s)
    && eqb (form s) 1
    && eqb (bits s 60 4) 0
    && leb 1 (message_count s)
    && eqb (length s) (image_length s)

unfoldable pub records_good : List ℕ → Bool
records_good s =
    running (message s) (message_count s) (field_count s)
    && running (enumeration s) (enum_count s) (value_count s)
    && all (enum_count s) (λ i. leb 1 (enumeration s i).count)
    && all (field_count s) (field_good s)
    && all (value_count s) (member_good s)
    && all (message_count s) (λ i. distinct (fields_agree s) (message s i))
    && all (enum_count s) (λ i. distinct (members_agree s) (enumeration s i))

unfoldable pub accepted : List ℕ → Bool
accepted s = when header_good s then (λ _. records_good s) otherwise λ _. false

-- a root is a message of the image
unfoldable pub is_message : List ℕ → ℕ → Bool
is_message s root = ltb root (message_count s)

-- ---- lookup

-- the field of that name in a message
unfoldable pub find_field : List ℕ → ℕ → List ℕ → Option ℕ
find_field s m name = find (λ i. same (field_name s i) name) (message s m).first (message s m).count

-- the value of that name in an enum
unfoldable pub find_member : List ℕ → ℕ → List ℕ → Option ℕ
find_member s e name = find (λ i. same (member_name s i) name) (enumeration s e).first (enumeration s e).count

-- the value of that number in an enum
unfoldable pub find_number : List ℕ → ℕ → ℕ → Option ℕ
find_number s e n = find (λ i. eqb (member s i).number n) (enumeration s e).first (enumeration s e).count

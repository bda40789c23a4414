-- Where fields stand: in a message, or in an entry of a map field; and what each field of it asks for
-- (H, "Node table": an entry has the two fields `key` and `value`, 0 and 1).
use Rattle.std.specs.Prelude.{ℕ, ◌+◌, Bool, ◌&&◌, ◌||◌, List, ltb, leb, eqb}
use Rattle.std.proofs.Math.Option.{Option, none, some}
use Rattle.definitions.specs.declared.Field.{Field}
use Rattle.definitions.specs.declared.Want.{Want}
use Rattle.definitions.specs.Basics.{when◌then◌otherwise◌, bytes, same}
use Rattle.definitions.specs.Image.{is_map, field, field_name, message, find_field}

-- kinds of nodes: 1 to 9 are the types, 10 a map entry, 11 to 13 unknown u32, u64 and bytes
abbrev pub i32 : ℕ
i32 = 1

abbrev pub i64 : ℕ
i64 = 2

abbrev pub u32 : ℕ
u32 = 3

abbrev pub u64 : ℕ
u64 = 4

abbrev pub bool : ℕ
bool = 5

abbrev pub string : ℕ
string = 6

abbrev pub byte_string : ℕ
byte_string = 7

abbrev pub enum : ℕ
enum = 8

abbrev pub body : ℕ
body = 9

abbrev pub map_entry : ℕ
map_entry = 10

abbrev pub unknown_u32 : ℕ
unknown_u32 = 11

abbrev pub unknown_u64 : ℕ
unknown_u64 = 12

abbrev pub unknown_bytes : ℕ
unknown_bytes = 13

-- a message, by its index; an entry, by the index of its map field
pub data Scope : Type 0 where
  in_message : ℕ → Scope
  in_entry : ℕ → Scope

abbrev pub key_name : List ℕ
key_name = bytes "key"

abbrev pub value_name : List ℕ
value_name = bytes "value"

-- a message's field; a map field asks for an entry of its own
abbrev pub want_of : ℕ → Field → Want
want_of i f =
    when is_map f then (λ _. record { kind = map_entry; reference = i; field = i }) otherwise λ _.
    record { kind = f.kind; reference = f.reference; field = i }

-- an entry's key and value
abbrev pub want_in : Field → ℕ → Want
want_in f i =
    when eqb i 0 then (λ _. record { kind = f.key; reference = 0; field = 0 }) otherwise λ _.
    record { kind = f.kind; reference = f.reference; field = 1 }

unfoldable pub want : List ℕ → Scope → ℕ → Want
want s (in_message m) i = want_of i (field s i)
want s (in_entry g) i = want_in (field s g) i

-- what a message or an entry has inside
unfoldable pub within : Want → Scope
within w = when eqb w.kind map_entry then (λ _. in_entry w.reference) otherwise λ _. in_message w.reference

-- messages and entries hold nodes, all other kinds hold none
abbrev pub nests : ℕ → Bool
nests kind = eqb kind body || eqb kind map_entry

-- the field is one of the scope's
unfoldable pub has_field : List ℕ → Scope → ℕ → Bool
has_field s (in_message m) i = leb (message s m).first i && ltb i ((message s m).first + (message s m).count)
has_field s (in_entry g) i = ltb i 2

unfoldable pub name_in : List ℕ → Scope → ℕ → List ℕ
name_in s (in_message m) i = field_name s i
name_in s (in_entry g) i = when eqb i 0 then (λ _. key_name) otherwise λ _. value_name

-- the field of that name
unfoldable pub find_in : List ℕ → Scope → List ℕ → Option ℕ
find_in s (in_message m) name = find_field s m name
find_in s (in_entry g) name =
    when same key_name name then (λ _. some 0) otherwise λ _.
    when same value_name name then (λ _. some 1) otherwise λ _. none

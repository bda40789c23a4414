-- Demand 3: what is printed under a newer schema, read under an older one.
--
-- A newer schema extends an older one. A valid table, of 32-bit words and a pool of bytes, whose live values have neither an unknown
-- field nor an unnamed enum number, is printed in either style, at most 1,048,576 bytes. Then
--   * if the older schema knows every live name, it reads the text, and what it reads has the same live values under the same names,
--     in the same order;
--   * if not, it refuses the text: 6 or 7, as the first live name of the text that it lacks is a field's or an enum value's, at that
--     name's place: its offset, line and column in the text.
use Rattle.std.specs.Prelude.{ℕ, suc, ◌+◌, ◌%◌, ◌≤◌, ◌≡◌, Bool, true, false, ◌&&◌, List, [], ◌∷◌, ◌++◌, ltb, leb, eqb, length}
use Rattle.std.proofs.Math.Option.{Option, none, some}
use Rattle.definitions.specs.declared.Want.{Want}
use Rattle.definitions.specs.Basics.{when◌then◌otherwise◌, each, part}
use Rattle.definitions.specs.Refusals.{given, denied, unknown_field, unknown_value, most_text}
use Rattle.definitions.specs.Image.{accepted, is_message, find_number}
use Rattle.definitions.specs.Extending.{extends}
use Rattle.definitions.specs.Scope.{Scope, in_message, want, within, name_in, enum}
use Rattle.definitions.specs.Nodes.{word32}
use Rattle.definitions.specs.Validity.{valid}
use Rattle.definitions.specs.Live.{Val, number, run, inside, Tree, nil, node, first_unknown, meaning, MeanSame}
use Rattle.definitions.specs.Names.{Name, field_named, value_named, name_of, value_names, names, knows, is_some}
use Rattle.definitions.specs.Places.{place_of}
use Rattle.definitions.specs.Reading.{node_room, read_answer, read_nodes, read_pool}
use Rattle.definitions.specs.Print.{Style, label, lead, trail, opening, value_text, render, print_text}
use Rattle.trees.specs.Laying.{size, laid_bytes}

-- ---- the same live values under the same names

-- live values by name: the field's name (an entry's `key` and `value` too), kind and value, the enum and its value's name if it is
-- one, what lies inside, next sibling. No field's index stands here, so that two schemas may agree.
pub data Told : Type 0 where
  nothing : Told
  told : (name : List ℕ) (kind : ℕ) (v : Val) (member : List Name) (inner rest : Told) → Told

unfoldable pub by_name : List ℕ → Scope → Tree → Told
by_name s c nil = nothing
by_name s c (node r k v kids rest) =
    told (name_in s c r) k v (value_names s (want s c r) k v) (by_name s (within (want s c r)) kids) (by_name s c rest)

-- ---- the live names of a text, in order, each with its offset

pub record Spelled : Type 0 where
  pub name : Name
  pub at : ℕ

-- a name's text
abbrev pub spelling : Name → List ℕ
spelling (field_named m name) = name
spelling (value_named e name) = name

abbrev pub spelled_at : ℕ → List Name → List Spelled
spelled_at p [] = []
spelled_at p (x ∷ xs) = record { name = x; at = p } ∷ spelled_at p xs

-- where the values t, printed, begin at the offset `at`: a field's name stands after its indentation or space, an enum value's name
-- after the field's name and `: `, and the fields inside after the opening brace
unfoldable pub spelled : List ℕ → Style → (depth : ℕ) → (first : Bool) → Scope → Tree → (at : ℕ) → List Spelled
spelled s y d first c nil at = []
spelled s y d first c (node r k v kids rest) at =
    spelled_at (at + length (lead y d first)) (name_of s c r)
    ++ (spelled_at (at + length (lead y d first) + length (label s c r) + 2) (value_names s (want s c r) k v)
    ++ (spelled s y (d + 1) true (within (want s c r)) kids (at + length (lead y d first) + length (label s c r) + length (opening y))
    ++ spelled s y d false c rest
    (at + length (lead y d first) + length (label s c r)
    + length (value_text s y d (want s c r) k v (render s y (d + 1) true (within (want s c r)) kids))
    + length (trail y))))

-- the first that a schema lacks
unfoldable pub lacking : List ℕ → List Spelled → Option Spelled
lacking s [] = none
lacking s (x ∷ xs) = when knows s x.name then (λ _. lacking s xs) otherwise λ _. some x

-- a schema has every one of some names
unfoldable pub knows_all : List ℕ → List Name → Bool
knows_all s [] = true
knows_all s (x ∷ xs) = knows s x && knows_all s xs

-- 6 for a field, 7 for an enum value
abbrev pub refusal_of : Name → ℕ
refusal_of (field_named m name) = unknown_field
refusal_of (value_named e name) = unknown_value

-- ---- no unknown field and no unnamed enum number

unfoldable pub has_name : List ℕ → Want → ℕ → Val → Bool
has_name s w kind (number n) = when eqb kind enum then (λ _. is_some (find_number s w.reference (n % word32))) otherwise λ _. true
has_name s w kind (run bs) = true
has_name s w kind inside = true

unfoldable pub all_named : List ℕ → Scope → Tree → Bool
all_named s c nil = true
all_named s c (node r k v kids rest) =
    ltb r first_unknown && has_name s (want s c r) k v && all_named s (within (want s c r)) kids && all_named s c rest

-- ---- the demand

pub record Setting (newer older : List ℕ) (root : ℕ) (w pool : List ℕ) (y : Style) : Type 0 where
  pub newer_good : accepted newer ≡ true
  pub older_good : accepted older ≡ true
  pub extending : extends newer older ≡ true
  pub root_good : is_message older root ≡ true
  pub table_good : valid newer root w pool ≡ true
  pub words_good : each (λ x. ltb x word32) w ≡ true
  pub pool_good : each (λ b. ltb b 256) pool ≡ true
  pub named : all_named newer (in_message root) (meaning newer root w pool) ≡ true
  pub short : leb (length (print_text newer y root w pool)) most_text ≡ true

-- room for the root and each live value, and for their bytes
pub record Room (t : Tree) (nodes bytes : List ℕ) : Type 0 where
  pub nodes_fit : suc (size t) ≤ node_room (length nodes)
  pub bytes_fit : length (laid_bytes t) ≤ length bytes

-- what the rooms lent hold after a text is read
abbrev pub table_read : (s : List ℕ) (root : ℕ) (text nodes bytes : List ℕ) → List ℕ
table_read s root text nodes bytes = read_nodes s root text nodes (length bytes)

abbrev pub pool_read : (s : List ℕ) (root : ℕ) (text nodes bytes : List ℕ) → List ℕ
pool_read s root text nodes bytes = read_pool s root text (length nodes) bytes

-- read, whatever was in the rooms lent: the nodes and bytes of the live values; a valid table; the same live values under the same
-- names; and so the older schema prints, in either style, what the newer one prints
pub record Reads (newer older : List ℕ) (root : ℕ) (w pool text nodes bytes : List ℕ) : Type 0 where
  pub answer :
      read_answer older root text (length nodes) (length bytes)
      ≡ given (record { nodes = suc (size (meaning newer root w pool)); bytes = length (laid_bytes (meaning newer root w pool)) })
  pub good : valid older root (table_read older root text nodes bytes) (pool_read older root text nodes bytes) ≡ true
  pub same :
      by_name older (in_message root) (meaning older root (table_read older root text nodes bytes) (pool_read older root text nodes bytes))
      ≡ by_name newer (in_message root) (meaning newer root w pool)
  pub printed :
      (z : Style)
      → print_text older z root (table_read older root text nodes bytes) (pool_read older root text nodes bytes) ≡ print_text newer z root w pool

-- refused, whatever the room: 6 or 7 at the place of the first live name of the text that the older schema lacks, which does stand there
pub record Refuses (older : List ℕ) (root : ℕ) (text : List ℕ) (spellings : List Spelled) : Type 0 where
  pub first : Spelled
  pub lacks : lacking older spellings ≡ some first
  pub stands : part text first.at (first.at + length (spelling first.name)) ≡ spelling first.name
  pub answer : (count size : ℕ) → read_answer older root text count size ≡ denied (refusal_of first.name) (place_of text first.at)

pub record Demand (newer older : List ℕ) (root : ℕ) (w pool : List ℕ) (y : Style) : Type 0 where
  pub known :
      knows_all older (names newer (in_message root) (meaning newer root w pool)) ≡ true
      → (nodes bytes : List ℕ) → Room (meaning newer root w pool) nodes bytes
      → Reads newer older root w pool (print_text newer y root w pool) nodes bytes
  pub unknown :
      knows_all older (names newer (in_message root) (meaning newer root w pool)) ≡ false
      → Refuses older root (print_text newer y root w pool) (spelled newer y 0 true (in_message root) (meaning newer root w pool) 0)

-- ---- the round trip under one schema: what was printed is read, is valid, means the same, and prints the same again in either style

pub record RoundTrip (s : List ℕ) (root : ℕ) (w pool text nodes bytes : List ℕ) : Type 0 where
  pub answer :
      read_answer s root text (length nodes) (length bytes)
      ≡ given (record { nodes = suc (size (meaning s root w pool)); bytes = length (laid_bytes (meaning s root w pool)) })
  pub good : valid s root (table_read s root text nodes bytes) (pool_read s root text nodes bytes) ≡ true
  pub same : MeanSame s root (table_read s root text nodes bytes) (pool_read s root text nodes bytes) w pool
  pub printed : (z : Style) → print_text s z root (table_read s root text nodes bytes) (pool_read s root text nodes bytes) ≡ print_text s z root w pool

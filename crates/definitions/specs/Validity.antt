-- When a node table is valid (H, "Node table").
use Rattle.std.specs.Prelude.{ℕ, ◌+◌, ◌-◌, ◌*◌, Bool, true, false, ◌&&◌, ◌||◌, List, ltb, leb, eqb, length}
use Rattle.definitions.specs.declared.Node.{Node}
use Rattle.definitions.specs.Basics.{when◌then◌otherwise◌, between}
use Rattle.definitions.specs.Refusals.{most_nodes, most_depth, most_number}
use Rattle.definitions.specs.Scope.{Scope, in_message, in_entry, want, within, has_field, nests, i32, u32, bool, string, enum, body, map_entry, unknown_u32}
use Rattle.definitions.specs.Nodes.{node_at, table_end, half, word32, run_of, is_run, is_unknown, Forest, empty, tree, forest, tiles, depth}
use Rattle.definitions.specs.Utf8.{utf8}

-- numbers lie in their type's range: i32 and enum sign-extended, u32 and kind 11 below 2^32, bool 0 or 1, the others any
unfoldable pub in_range : ℕ → Node → Bool
in_range kind n =
    when eqb kind i32 || eqb kind enum then (λ _. eqb n.high (when ltb n.low half then (λ _. 0) otherwise λ _. word32 - 1)) otherwise λ _.
    when eqb kind u32 || eqb kind unknown_u32 then (λ _. eqb n.high 0) otherwise λ _.
    when eqb kind bool then (λ _. eqb n.high 0 && leb n.low 1) otherwise λ _.
    true

-- strings, bytes and kind 13 lie inside the pool, and strings are UTF-8
unfoldable pub run_good : List ℕ → Node → Bool
run_good pool n =
    leb (n.high + n.low) (length pool)
    && (when eqb n.kind string then (λ _. utf8 (run_of pool n)) otherwise λ _. true)

-- messages and entries have 0, 0
unfoldable pub value_good : List ℕ → Node → Bool
value_good pool n =
    when nests n.kind then (λ _. eqb n.high 0 && eqb n.low 0) otherwise λ _.
    when is_run n.kind then (λ _. run_good pool n) otherwise λ _.
    in_range n.kind n

-- a node that is no message and no entry has none below it
unfoldable pub is_nil : Forest → Bool
is_nil empty = true
is_nil (tree n kids rest) = false

abbrev pub leaf_good : ℕ → Forest → Bool
leaf_good kind kids = nests kind || is_nil kids

-- unknown kinds stand in messages only, under numbers 1 to 536,870,911
unfoldable pub unknown_good : Scope → Node → Bool
unknown_good (in_message m) n = between 1 most_number n.field
unknown_good (in_entry g) n = false

-- fields are their message's, kinds match them
unfoldable pub field_fits : List ℕ → Scope → Node → Bool
field_fits s c n =
    when is_unknown n.kind then (λ _. unknown_good c n) otherwise λ _.
    has_field s c n.field && eqb n.kind (want s c n.field).kind

-- an entry has two children in either order, one with field 0 (the key), one with field 1 (the value)
unfoldable pub is_pair : Forest → Bool
is_pair empty = false
is_pair (tree a ka empty) = false
is_pair (tree a ka (tree b kb empty)) = eqb (a.field + b.field) 1
is_pair (tree a ka (tree b kb (tree d kd rest))) = false

abbrev pub entry_good : ℕ → Forest → Bool
entry_good kind kids = when eqb kind map_entry then (λ _. is_pair kids) otherwise λ _. true

-- all nodes of a span that stand in a scope
unfoldable pub forest_good : List ℕ → List ℕ → Scope → Forest → Bool
forest_good s pool c empty = true
forest_good s pool c (tree n kids rest) =
    field_fits s c n
    && value_good pool n
    && leaf_good n.kind kids
    && entry_good n.kind kids
    && forest_good s pool (within (want s c n.field)) kids
    && forest_good s pool c rest

-- node 0 is the root, and its end is the table's length
unfoldable pub root_good : List ℕ → Bool
root_good w =
    eqb (node_at w 0).kind body
    && eqb (node_at w 0).field 0
    && eqb (node_at w 0).high 0
    && eqb (node_at w 0).low 0
    && between 1 most_nodes (table_end w)
    && leb (5 * table_end w) (length w)

-- what lies below the root
unfoldable pub below : List ℕ → Forest
below w = forest w 1 (table_end w)

unfoldable pub valid : List ℕ → ℕ → List ℕ → List ℕ → Bool
valid s root w pool =
    when root_good w && tiles w 1 (table_end w)
    then (λ _. forest_good s pool (in_message root) (below w) && leb (depth (below w)) most_depth)
    otherwise λ _. false

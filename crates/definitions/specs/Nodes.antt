-- The node table (H, "Node table"): five words a node, and the forest that the ends of the nodes make of a span.
use Rattle.std.specs.Prelude.{ℕ, zero, suc, ◌+◌, ◌-◌, ◌*◌, ◌/◌, ◌%◌, ◌^◌, max, Bool, true, false, ◌&&◌, ◌||◌, List, [], ◌∷◌, ltb, leb, eqb, get_or, drop, take}
use Rattle.definitions.specs.declared.Node.{Node}
use Rattle.definitions.specs.Basics.{when◌then◌otherwise◌}
use Rattle.definitions.specs.Scope.{nests, string, byte_string, unknown_u32, unknown_bytes}

abbrev pub node_of : List ℕ → Node
node_of r = record { kind = get_or r 0 0; field = get_or r 1 0; high = get_or r 2 0; low = get_or r 3 0; end = get_or r 4 0 }

unfoldable pub node_at : List ℕ → ℕ → Node
node_at w i = node_of (drop (5 * i) w)

abbrev pub words : Node → List ℕ
words n = n.kind ∷ n.field ∷ n.high ∷ n.low ∷ n.end ∷ []

-- the table's length
unfoldable pub table_end : List ℕ → ℕ
table_end w = (node_at w 0).end

-- ---- values: numbers are 64 bits in two's complement

abbrev pub half : ℕ
half = 2 ^ 31

abbrev pub word32 : ℕ
word32 = 2 ^ 32

abbrev pub word64 : ℕ
word64 = 2 ^ 64

unfoldable pub number_of : Node → ℕ
number_of n = n.high * word32 + n.low

-- a number as the words high and low
abbrev pub high_of : ℕ → ℕ
high_of v = v / word32

abbrev pub low_of : ℕ → ℕ
low_of v = v % word32

-- 32 bits sign-extended to 64
unfoldable pub widen : ℕ → ℕ
widen v = when ltb v half then (λ _. v) otherwise λ _. v + (word64 - word32)

-- strings and bytes: start and length in the pool
unfoldable pub run_of : List ℕ → Node → List ℕ
run_of pool n = take n.low (drop n.high pool)

abbrev pub is_run : ℕ → Bool
is_run kind = eqb kind string || eqb kind byte_string || eqb kind unknown_bytes

abbrev pub is_unknown : ℕ → Bool
is_unknown kind = leb unknown_u32 kind && leb kind unknown_bytes

-- ---- the forest of a span of nodes: each with what lies under it, then its next sibling

pub data Forest : Type 0 where
  empty : Forest
  tree : (n : Node) (kids rest : Forest) → Forest

-- from node i up to node e, of a table of at most so many nodes
unfoldable pub grow : ℕ → List ℕ → ℕ → ℕ → Forest
grow zero w i e = empty
grow (suc f) w i e =
    when ltb i e then (λ _. tree (node_at w i) (grow f w (i + 1) (node_at w i).end) (grow f w (node_at w i).end e)) otherwise λ _. empty

unfoldable pub forest : List ℕ → ℕ → ℕ → Forest
forest w i e = grow (e - i) w i e

-- a node's end is the index just after its last descendant, and children tile the span
unfoldable pub tile_f : ℕ → List ℕ → ℕ → ℕ → Bool
tile_f zero w i e = eqb i e
tile_f (suc f) w i e =
    when eqb i e then (λ _. true) otherwise λ _.
    when ltb i (node_at w i).end && leb (node_at w i).end e
    then (λ _. tile_f f w (i + 1) (node_at w i).end && tile_f f w (node_at w i).end e)
    otherwise λ _. false

unfoldable pub tiles : List ℕ → ℕ → ℕ → Bool
tiles w i e = tile_f (e - i) w i e

-- depth counts messages and entries
unfoldable pub depth : Forest → ℕ
depth empty = 0
depth (tree n kids rest) = when nests n.kind then (λ _. max (suc (depth kids)) (depth rest)) otherwise λ _. depth rest

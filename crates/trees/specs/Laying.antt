-- A tree of values under an older schema's ranks, and the nodes and pool bytes that it makes, laid end to end.
use Rattle.std.specs.Prelude.{ℕ, suc, ◌+◌, List, [], ◌++◌, length}
use Rattle.std.proofs.Math.Option.{Option, none, some}
use Rattle.definitions.specs.declared.Node.{Node}
use Rattle.definitions.specs.Scope.{Scope, want, within, name_in, find_in, body}
use Rattle.definitions.specs.Nodes.{words, high_of, low_of, Forest, empty, tree}
use Rattle.definitions.specs.Live.{Val, number, run, inside, Tree, nil, node}

-- ---- the same values under the ranks that an older schema gives their names

abbrev pub found : Option ℕ → ℕ
found none = 0
found (some i) = i

-- the rank of a newer field in an older schema, by its name
unfoldable pub rank_under : (newer older : List ℕ) → (c d : Scope) → ℕ → ℕ
rank_under newer older c d r = found (find_in older d (name_in newer c r))

unfoldable pub relabel : (newer older : List ℕ) → (c d : Scope) → Tree → Tree
relabel newer older c d nil = nil
relabel newer older c d (node r k v kids rest) =
    node (rank_under newer older c d r) k v
    (relabel newer older (within (want newer c r)) (within (want older d (rank_under newer older c d r))) kids)
    (relabel newer older c d rest)

-- ---- the nodes and pool bytes of a tree

-- how many values a tree has
unfoldable pub size : Tree → ℕ
size nil = 0
size (node r k v kids rest) = suc (size kids + size rest)

-- how many of them stand side by side
unfoldable pub count : Tree → ℕ
count nil = 0
count (node r k v kids rest) = suc (count rest)

-- the words high and low of a value whose bytes, if it has any, begin at b in the pool
abbrev pub high_in : Val → ℕ → ℕ
high_in (number n) b = high_of n
high_in (run bs) b = b
high_in inside b = 0

abbrev pub low_in : Val → ℕ
low_in (number n) = low_of n
low_in (run bs) = length bs
low_in inside = 0

abbrev pub bytes_in : Val → List ℕ
bytes_in (number n) = []
bytes_in (run bs) = bs
bytes_in inside = []

unfoldable pub laid_bytes : Tree → List ℕ
laid_bytes nil = []
laid_bytes (node r k v kids rest) = bytes_in v ++ (laid_bytes kids ++ laid_bytes rest)

-- from the node i and the pool byte b on
abbrev pub node_laid : (r k : ℕ) (v : Val) (kids : Tree) (i b : ℕ) → Node
node_laid r k v kids i b = record { kind = k; field = r; high = high_in v b; low = low_in v; end = i + 1 + size kids }

unfoldable pub laid_words : Tree → (i b : ℕ) → List ℕ
laid_words nil i b = []
laid_words (node r k v kids rest) i b =
    words (node_laid r k v kids i b)
    ++ (laid_words kids (i + 1) (b + length (bytes_in v))
    ++ laid_words rest (i + 1 + size kids) (b + length (bytes_in v) + length (laid_bytes kids)))

-- the root's node, over the values u, and the whole table
abbrev pub root_over : Tree → Node
root_over u = record { kind = body; field = 0; high = 0; low = 0; end = 1 + size u }

abbrev pub table_over : Tree → List ℕ
table_over u = words (root_over u) ++ laid_words u 1 0

-- ---- the forest of those nodes

unfoldable pub planted : Tree → (i b : ℕ) → Forest
planted nil i b = empty
planted (node r k v kids rest) i b =
    tree (node_laid r k v kids i b)
    (planted kids (i + 1) (b + length (bytes_in v)))
    (planted rest (i + 1 + size kids) (b + length (bytes_in v) + length (laid_bytes kids)))

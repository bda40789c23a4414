-- Live, of a node where it stands in a table: an entry's key, and whether a later sibling takes a node's place.
use Rattle.std.specs.Prelude.{ℕ, ◌+◌, ◌*◌, ◌≤◌, ◌<◌, ◌≡◌, Bool, true, not, List, eqb, length}
use Rattle.definitions.specs.declared.Node.{Node}
use Rattle.definitions.specs.Basics.{when◌then◌otherwise◌}
use Rattle.definitions.specs.Scope.{Scope, want, map_entry}
use Rattle.definitions.specs.Nodes.{node_at, is_run, forest, tiles}
use Rattle.definitions.specs.Validity.{is_pair}
use Rattle.definitions.specs.Live.{Val, first_unknown, rank_of, value_of, tree_of, key_of, sharing, replaced}
use Rattle.nodes.specs.Span.{Sound}
use Rattle.live.specs.declared.Sharing.{Sharing}
use Rattle.live.specs.declared.Sharing.TheVariants as share

-- how values live beside each other, by the number that `sharing` gives
abbrev pub sharing_of : ℕ → Sharing
sharing_of how =
    when eqb how 0 then (λ _. share.Last) otherwise λ _.
    when eqb how 1 then (λ _. share.LastOfKey) otherwise λ _. share.All

-- a string or bytes value lies inside the pool
pub record Kept (pool : List ℕ) (n : Node) : Type 0 where
  pub inside : is_run n.kind ≡ true → n.high + n.low ≤ length pool

-- where an entry's key stands
unfoldable pub key_at : List ℕ → ℕ → ℕ
key_at w i = when eqb (node_at w (i + 1)).field 0 then (λ _. i + 1) otherwise λ _. (node_at w (i + 1)).end

-- an entry's key
unfoldable pub key_in : List ℕ → List ℕ → ℕ → Val
key_in w pool i = key_of (tree_of pool (forest w (i + 1) (node_at w i).end))

-- what a valid table has of an entry: two children, and a key that is one of them
pub record Pair (w : List ℕ) (i : ℕ) : Type 0 where
  pub tiled : tiles w (i + 1) (node_at w i).end ≡ true
  pub pair : is_pair (forest w (i + 1) (node_at w i).end) ≡ true
  pub room : 5 * (node_at w i).end ≤ length w

pub record Entry (w pool : List ℕ) (i : ℕ) : Type 0 where
  pub children : Pair w i
  pub key : value_of pool (node_at w (key_at w i)) ≡ key_in w pool i
  pub kept : Kept pool (node_at w (key_at w i))

-- what a valid table has of the siblings of a map's entry: they are sound in a scope where the rank is a map's
pub record Mapped (pool w : List ℕ) (r i e : ℕ) : Type 0 where
  pub image : List ℕ
  pub scope : Scope
  pub known : r < first_unknown
  pub map : (want image scope r).kind ≡ map_entry
  pub sound : Sound image pool scope w i e

-- no later sibling takes the place of node i of a span up to e
unfoldable pub live_at : (s pool : List ℕ) → Scope → (w : List ℕ) → (i e : ℕ) → Bool
live_at s pool c w i e =
    not (replaced (sharing s c (rank_of (node_at w i))) (rank_of (node_at w i)) (tree_of pool (forest w (i + 1) (node_at w i).end)) (tree_of pool (forest w (node_at w i).end e)))

-- One turn of a loop over siblings: the sibling that it comes to, and where it goes on.
use Prim.Native.Nat.{ℕ, ◌≤◌, ◌<◌}
use mathlib.Core.Path.{◌≡◌, ◌∙◌}
use mathlib.Core.List.{List}
use Rattle.std.specs.Prelude.{Some, None}
use Rattle.definitions.specs.declared.Node.{Node}
use Rattle.definitions.specs.Nodes.{node_at}
use Rattle.nodes.specs.Walk.{Steps}

-- sibling k of the span up to `to`, with node n; the walk goes on at j
pub record Turn (w : List ℕ) (to i k : ℕ) (n : Node) (v : List ℕ) (j e : ℕ) : Type 0 where
  pub before : i < to
  pub index : k ≡ i
  pub node : n ≡ node_at w i
  pub on : j ≡ n.end
  pub nodes : v ≡ w
  pub last : e ≡ to

module _ {w : List ℕ} {to : ℕ} {u : List ℕ} {d : ℕ} (same : u ≡ w) (last : d ≡ to) where
  pub turn : {i k : ℕ} {n : Node} {v : List ℕ} {j e : ℕ} → Steps u i d (Some (k, n)) v j e → Turn w to i k n v j e
  turn s = record {
    before = rw last at s.2.0;
    index = s.2.1;
    node = rw same at s.2.2;
    on = s.2.3;
    nodes = s.0 ∙ same;
    last = s.1 ∙ last;
  }

  pub ended : {i : ℕ} {v : List ℕ} {j e : ℕ} → Steps u i d None v j e → to ≤ i
  ended s = rw last at s.2.0

-- An entry's two children, and which of them is the key.
use Prim.Native.Nat.{ℕ, ◌+◌, ◌<◌}
use mathlib.Core.Path.{◌≡◌}
use mathlib.Core.List.{List}
use borrow.Author.Tests.{eq-eqb, ne_eqb}
use Rattle.definitions.specs.declared.Node.{Node}
use Rattle.definitions.specs.Nodes.{node_at}
use Rattle.live.specs.Live.{Pair, key_at}
use Rattle.validity.proofs.Spans.{pair-some, pair-next}

module _ (w : List ℕ) (i : ℕ) (x : Pair w i) where
  pub entry_first : i + 1 < (node_at w i).end
  entry_first = pair-some w (i + 1) (node_at w i).end x.tiled x.pair

  pub entry-second : (n : Node) → n ≡ node_at w (i + 1) → n.end < (node_at w i).end
  entry-second n e = rw e (pair-next w (i + 1) (node_at w i).end x.tiled x.pair)

module _ (w : List ℕ) (i : ℕ) (n : Node) (e : n ≡ node_at w (i + 1)) where
  pub key-first : n.field ≡ 0 → n ≡ node_at w (key_at w i)
  unfolding key_at
  key-first z =
      let q : (node_at w (i + 1)).field ≡ 0 = rw e at z in
      rw (eq-eqb (node_at w (i + 1)).field 0 q) e

  pub key-second : (n.field ≡ 0 → ⊥) → node_at w n.end ≡ node_at w (key_at w i)
  unfolding key_at
  key-second z =
      let q : (node_at w (i + 1)).field ≡ 0 → ⊥ = rw e at z in
      rw (ne_eqb (node_at w (i + 1)).field 0 q, e)

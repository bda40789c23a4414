-- The tree of a span of nodes, by its first node; and when a later value takes the place of one, value by value.
use Prim.Native.Nat.{ℕ, ◌+◌, ◌≤◌, ◌<◌}
use mathlib.Core.Bool.{Bool, true, false}
use mathlib.Core.Path.{◌≡◌, refl}
use mathlib.Core.List.{List}
use lib.Dec.{eqb}
use Rattle.definitions.specs.Nodes.{node_at, forest, tiles}
use Rattle.live.specs.declared.Sharing.TheVariants as share
use Rattle.live.specs.Live.{sharing_of}
use Rattle.definitions.specs.Live.{Tree, nil, node, rank_of, value_of, tree_of, has, key_of, has_key, replaced}
use Rattle.laws.proofs.Forest.{end_of, forest-none, forest-some}

module _ (pool w : List ℕ) (i e : ℕ) where
  pub tree-none : e ≤ i → tree_of pool (forest w i e) ≡ nil
  unfolding tree_of
  tree-none h = rw (forest-none w i e h)

  pub tree-some : i < e → tiles w i e ≡ true
      → tree_of pool (forest w i e)
      ≡ node (rank_of (node_at w i)) (node_at w i).kind (value_of pool (node_at w i)) (tree_of pool (forest w (i + 1) (end_of w i))) (tree_of pool (forest w (end_of w i) e))
  unfolding tree_of
  tree-some h t = rw (forest-some w i e h t)

-- ---- a later value takes the place of one

module _ (how r : ℕ) (kids rest : Tree) where
  pub replaced-last : how ≡ 0 → replaced how r kids rest ≡ has r rest
  unfolding replaced
  replaced-last h = rw h

  pub replaced-key : how ≡ 1 → replaced how r kids rest ≡ has_key r (key_of kids) rest
  unfolding replaced
  replaced-key h = rw h

  pub replaced-all : sharing_of how ≡ share.All → replaced how r kids rest ≡ false
  unfolding replaced
  replaced-all h = go (eqb how 0) refl (eqb how 1) refl
    where
      go : (a : Bool) → eqb how 0 ≡ a → (b : Bool) → eqb how 1 ≡ b → replaced how r kids rest ≡ false
      go true p b q = cc (rw p at h)
      go false p true q = cc (rw (p, q) at h)
      go false p false q = rw (p, q, replaced)

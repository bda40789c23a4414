-- Where a node's values stand in print: its field, or 4,096 and the number of an unknown field.
use Prim.Native.Nat.{◌+◌}
use mathlib.Core.Path.{◌≡◌}
use mathlib.Core.Bool.{true, false}
use Rattle.definitions.specs.declared.Node.{Node}
use Rattle.definitions.specs.Nodes.{is_unknown}
use Rattle.definitions.specs.Live.{rank_of}

pub rank-known : (n : Node) → is_unknown n.kind ≡ false → rank_of n ≡ n.field
unfolding rank_of
rank-known n h = simp h

pub rank-unknown : (n : Node) → is_unknown n.kind ≡ true → rank_of n ≡ 4096 + n.field
unfolding rank_of
rank-unknown n h = simp h

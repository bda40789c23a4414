-- A node's words, one by one, and a run of the pool.
use Prim.Native.Nat.{ℕ, ◌+◌, ◌-◌, ◌*◌}
use native.Mathlib.Omega.{arith}
use mathlib.Core.Path.{◌≡◌}
use mathlib.Core.List.{List}
use lib.ListN.{get_or, take, drop}
use lib.Seq.{get_or-drop}
use Rattle.definitions.specs.declared.Node.{Node}
use Rattle.definitions.specs.Nodes.{node_at, run_of}

pub node-words : (w : List ℕ) (i : ℕ)
    → ◌≡◌ {A = Node}
    record { kind = get_or w (5 * i) 0; field = get_or w (5 * i + 1) 0; high = get_or w (5 * i + 2) 0; low = get_or w (5 * i + 3) 0; end = get_or w (5 * i + 4) 0 }
    (node_at w i)
unfolding node_at
node-words w i =
    let first : 5 * i + 0 ≡ 5 * i = omega arith in
    rw (get_or-drop (5 * i) w 0 0, get_or-drop (5 * i) w 1 0, get_or-drop (5 * i) w 2 0, get_or-drop (5 * i) w 3 0, get_or-drop (5 * i) w 4 0, first)

pub run-part : (pool : List ℕ) (n : Node) → take (n.high + n.low - n.high) (drop n.high pool) ≡ run_of pool n
unfolding run_of
run-part pool n =
    let long : n.high + n.low - n.high ≡ n.low = omega arith in
    rw long

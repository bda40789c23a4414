use mathlib.Core.Path.{sym}
use native.Mathlib.Omega.{arith}
use lib.ListN.{length-set}
use Rattle.leaves.proofs.Stores.{put_five, put-past}
use Rattle.leaves.proofs.store.put.Goals as goal

pub bounds-nodes-at-then-k-nodes : goal.bounds-nodes-at-then-k-nodes
bounds-nodes-at-then-k-nodes c = simp length-set (omega arith)

pub bounds-nodes-at-then-k-nodes-2 : goal.bounds-nodes-at-then-k-nodes-2
bounds-nodes-at-then-k-nodes-2 c = simp length-set (omega arith)

pub bounds-nodes-at-then-k-nodes-3 : goal.bounds-nodes-at-then-k-nodes-3
bounds-nodes-at-then-k-nodes-3 c = simp length-set (omega arith)

pub bounds-nodes-at-then-k-nodes-4 : goal.bounds-nodes-at-then-k-nodes-4
bounds-nodes-at-then-k-nodes-4 c = simp length-set (omega arith)

pub returns-then-k-nodes : goal.returns-then-k-nodes
returns-then-k-nodes c = put_five _ _ _ c.if-k-nodes.true

pub returns-else-k-nodes : goal.returns-else-k-nodes
returns-else-k-nodes c = sym (put-past _ _ _ c.if-k-nodes.false)

-- `required::is_complete` meets its contract. The invariant: the whole is complete if the live messages and entries from the sibling that the
-- walk has come to on are. What lies under a node is shorter than the span.
use Prim.Native.Nat.{◌-◌}
use mathlib.Core.Path.{◌≡◌}
use Rattle.definitions.specs.Scope.{within}
use Rattle.message.proofs.Requires.{Walk}
use Rattle.message.proofs.required.+is_complete.Given as goal

abbrev pub invariant-loop-i : goal.invariant-loop-i
invariant-loop-i l =
    (goal.iterator-loop-i).can_next l.i-iterator
    × (goal.iterator-loop-i).is_finite l.i-iterator
    × (l.i-iterator.nodes.now ≡ l.nodes)
    × (l.i-iterator.end ≡ l.to)
    × Walk l.schema.image.now l.pool (within l.w) l.nodes l.from l.to l.i-iterator.at

abbrev pub decreases-is_complete : goal.decreases-is_complete
decreases-is_complete l = l.to - l.from

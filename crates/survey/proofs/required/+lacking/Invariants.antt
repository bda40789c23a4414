-- `required::lacking` meets its contract. The invariant: what lacks in the whole is what lacks in the live messages and entries from the sibling
-- that the walk has come to on. What lies under a node is shorter than the span.
use Prim.Native.Nat.{◌-◌}
use mathlib.Core.Path.{◌≡◌}
use Rattle.definitions.specs.Scope.{within}
use Rattle.survey.proofs.Lackings.{Walk}
use Rattle.survey.proofs.required.+lacking.Given as goal

abbrev pub invariant-loop-i : goal.invariant-loop-i
invariant-loop-i l =
    (goal.iterator-loop-i).can_next l.i-iterator
    × (goal.iterator-loop-i).is_finite l.i-iterator
    × (l.i-iterator.nodes.now ≡ l.nodes)
    × (l.i-iterator.end ≡ l.to)
    × Walk l.schema.image.now l.pool (within l.w) l.nodes l.from l.to l.i-iterator.at

abbrev pub decreases-lacking : goal.decreases-lacking
decreases-lacking l = l.to - l.from

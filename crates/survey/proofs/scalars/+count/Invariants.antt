-- `scalars::count` meets its contract. The invariant: what is counted so far, and the live values from the sibling that the walk has come to on,
-- make the whole; and no more is counted than nodes are passed. What lies under a node is shorter than the span.
use Prim.Native.Nat.{◌-◌}
use mathlib.Core.Path.{◌≡◌}
use lib.Dec.{eqb}
use Rattle.definitions.specs.Scope.{within, map_entry}
use Rattle.survey.proofs.Counts.{Tally}
use Rattle.survey.proofs.scalars.+count.Given as goal

abbrev pub invariant-loop-i : goal.invariant-loop-i
invariant-loop-i l =
    (goal.iterator-loop-i).can_next l.i-iterator
    × (goal.iterator-loop-i).is_finite l.i-iterator
    × (l.i-iterator.nodes.now ≡ l.nodes)
    × (l.i-iterator.end ≡ l.to)
    × Tally l.schema.image.now l.pool (within l.w) (eqb l.w.kind map_entry) l.nodes l.from l.to l.i-iterator.at l.sum

abbrev pub decreases-count : goal.decreases-count
decreases-count l = l.to - l.from

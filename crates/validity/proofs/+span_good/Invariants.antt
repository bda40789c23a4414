-- `valid::span_good` meets its contract. The invariant: what is left of the span is good if and only if the whole is. What is left falls,
-- and what lies under a node is shorter than the span.
use Prim.Native.Nat.{◌-◌, ◌≤◌}
use mathlib.Core.Path.{◌≡◌}
use Rattle.definitions.specs.Scope.{within}
use Rattle.nodes.specs.Span.{span_good}
use Rattle.validity.proofs.+span_good.Given as goal

abbrev pub invariant-loop-i : goal.invariant-loop-i
invariant-loop-i l = (l.from ≤ l.i) × (l.i ≤ l.to) × (span_good l.schema.image.now l.pool (within l.w) l.left l.nodes l.from l.to ≡ span_good l.schema.image.now l.pool (within l.w) l.left l.nodes l.i l.to)

abbrev pub decreases-loop-i : goal.decreases-loop-i
decreases-loop-i l = l.to - l.i

abbrev pub decreases-span_good : goal.decreases-span_good
decreases-span_good l = l.to - l.from

-- `leaves::ranges::most_unsigned` meets its contract, by computing at each width.
use borrow.Author.Tests.{eq-eqb, ne_eqb}
use Rattle.definitions.specs.Integers.{most_unsigned}
use Rattle.leaves.proofs.ranges.most_unsigned.Goals as goal

pub returns-then-kind-eq-U32 : goal.returns-then-kind-eq-U32
unfolding most_unsigned
returns-then-kind-eq-U32 c = simp (eq-eqb _ _ c.if-kind-eq-U32.true) c.from.ensures

pub returns-else-kind-eq-U32 : goal.returns-else-kind-eq-U32
unfolding most_unsigned
returns-else-kind-eq-U32 c = simp (ne_eqb _ _ c.if-kind-eq-U32.false)

-- `valid::span_good` meets its contract. The invariant: what is left of the span is good if and only if the whole is. What is left falls,
-- and what lies under a node is shorter than the span.
use native.Mathlib.Omega.{arith}
use mathlib.Core.Path.{refl, sym, ◌∙◌}
use Rattle.nodes.proofs.Scopes.{there-want, nests-known}
use Rattle.validity.proofs.Checks.{node-parts, fits-known}
use Rattle.validity.proofs.Spans.{span-end, span-parts, turn-bad, turn-deep, turn-inner, turn-entry, turn-nests, turn-value}
use Rattle.validity.proofs.+span_good.Goals as goal

pub loop-i-init : goal.loop-i-init
loop-i-init t c = (omega arith, omega (arith, c.requires.1), refl)

pub node-n-requires : goal.node-n-requires
node-n-requires t c = omega (arith, c.requires.2, c.loop-i-test.true)

pub node_good-requires : goal.node_good-requires
node_good-requires t c = (c.requires.0, c.fields_of-own.ensures)

pub returns-then-not-node_good : goal.returns-then-not-node_good
returns-then-not-node_good t c = turn-bad _ _ _ _ _ _ _ c.loop-i-test.true _ c.node-n.ensures (sym c.node_good.ensures ∙ c.if-not-node_good.true) ∙ sym c.loop-i.invariant.2

pub returns-then-left-eq0 : goal.returns-then-left-eq0
returns-then-left-eq0 t c = turn-deep _ _ _ _ _ _ _ c.loop-i-test.true _ c.node-n.ensures (sym c.nests.ensures ∙ c.if-nests.true) c.if-left-eq0.true ∙ sym c.loop-i.invariant.2

pub want-inner-requires : goal.want-inner-requires
want-inner-requires t c = (c.requires.0, (fits-known _ _ _ (node-parts _ _ _ _ _ _ (sym c.node_good.ensures ∙ c.if-not-node_good.false)).fits (nests-known c.node-n.result.kind (sym c.nests.ensures ∙ c.if-nests.true))).0)

pub overflow_add-i : goal.overflow_add-i
overflow_add-i t c = let g = node-parts _ _ _ _ _ _ (sym c.node_good.ensures ∙ c.if-not-node_good.false) in omega (arith, c.loop-i-test.true, c.ranges)

pub span_good-requires : goal.span_good-requires
span_good-requires t c =
    let g = node-parts _ _ _ _ _ _ (sym c.node_good.ensures ∙ c.if-not-node_good.false) in
    let f = fits-known _ _ _ g.fits (nests-known c.node-n.result.kind (sym c.nests.ensures ∙ c.if-nests.true)) in (
      omega (arith, c.decreases, c.loop-i.invariant.0, g.on, g.inside),
      (rw c.want-inner.ensures (there-want _ c.args.schema.now.known.good _ _ c.requires.0 f.0 (rw f.1 at (sym c.nests.ensures ∙ c.if-nests.true))), omega (arith, g.on), omega (arith, c.requires.2, g.inside)),
    )

pub returns-then-not-span_good : goal.returns-then-not-span_good
returns-then-not-span_good t c = turn-inner _ _ _ _ _ _ _ c.loop-i-test.true _ c.node-n.ensures (sym c.nests.ensures ∙ c.if-nests.true) (rw c.want-inner.ensures at (sym c.span_good.ensures ∙ c.if-not-span_good.true)) ∙ sym c.loop-i.invariant.2

pub overflow_add-i-then-nests : goal.overflow_add-i-then-nests
overflow_add-i-then-nests t c = omega (arith, c.loop-i-test.true, c.ranges)

pub entry_good-requires : goal.entry_good-requires
entry_good-requires t c =
    let g = node-parts _ _ _ _ _ _ (sym c.node_good.ensures ∙ c.if-not-node_good.false) in
    ((span-parts _ _ _ _ _ _ _ (sym c.span_good.ensures ∙ c.if-not-span_good.false)).tiled, omega (arith, c.requires.2, g.inside))

pub returns-then-not-entry_good : goal.returns-then-not-entry_good
returns-then-not-entry_good t c = turn-entry _ _ _ _ _ _ _ c.loop-i-test.true _ c.node-n.ensures (sym c.entry_good.ensures ∙ c.if-not-entry_good.true) ∙ sym c.loop-i.invariant.2

pub loop-i-smaller-else-not-entry_good : goal.loop-i-smaller-else-not-entry_good
loop-i-smaller-else-not-entry_good t c = let g = node-parts _ _ _ _ _ _ (sym c.node_good.ensures ∙ c.if-not-node_good.false) in omega (arith, g.on, c.loop-i-test.true)

pub loop-i-preserved-else-not-entry_good : goal.loop-i-preserved-else-not-entry_good
loop-i-preserved-else-not-entry_good t c =
    let g = node-parts _ _ _ _ _ _ (sym c.node_good.ensures ∙ c.if-not-node_good.false) in (
      omega (arith, c.loop-i.invariant.0, g.on),
      g.inside,
      c.loop-i.invariant.2
          ∙ turn-nests _ _ _ _ _ _ _ c.loop-i-test.true _ c.node-n.ensures (sym c.node_good.ensures ∙ c.if-not-node_good.false) (sym c.nests.ensures ∙ c.if-nests.true) (omega (arith, c.if-left-eq0.false)) (rw c.want-inner.ensures at (sym c.span_good.ensures ∙ c.if-not-span_good.false)) (sym c.entry_good.ensures ∙ c.if-not-entry_good.false),
    )

pub loop-i-smaller : goal.loop-i-smaller
loop-i-smaller t c = let g = node-parts _ _ _ _ _ _ (sym c.node_good.ensures ∙ c.if-not-node_good.false) in omega (arith, g.on, c.loop-i-test.true)

pub loop-i-preserved : goal.loop-i-preserved
loop-i-preserved t c =
    let g = node-parts _ _ _ _ _ _ (sym c.node_good.ensures ∙ c.if-not-node_good.false) in
    (omega (arith, c.loop-i.invariant.0, g.on), g.inside, c.loop-i.invariant.2 ∙ turn-value _ _ _ _ _ _ _ c.loop-i-test.true _ c.node-n.ensures (sym c.node_good.ensures ∙ c.if-not-node_good.false) (sym c.nests.ensures ∙ c.if-nests.false))

pub returns : goal.returns
returns t c = span-end _ _ _ _ _ _ _ c.loop-i.invariant.1 c.loop-i-test.false ∙ sym c.loop-i.invariant.2

-- `scalars::count` meets its contract. The invariant: what is counted so far, and the live values from the sibling that the walk has come to on,
-- make the whole; and no more is counted than nodes are passed. What lies under a node is shorter than the span.
use native.Mathlib.Omega.{arith}
use mathlib.Core.Path.{sym, ◌∙◌}
use Rattle.nodes.proofs.Turns.{turn, ended}
use Rattle.survey.proofs.Counts.{weight-le, tally-start, tally-end, tally-on, tally-kids, tally-room, tally-gone, tally-scalar, tally-field, tally-there, tally-inner}
use Rattle.survey.proofs.scalars.+count.Goals as goal

pub loop-i-init : goal.loop-i-init
loop-i-init t c =
    let o = c.of-i-items.ensures in
    rw c.into_iter-i-iterator.ensures.into_iter_gives (tt, tt, o.0, o.2, rw o.1 (tally-start _ _ _ _ _ _ _ c.requires.1))

pub is_live-requires : goal.is_live-requires
is_live-requires t c =
    let x = turn c.loop-i.invariant.2 c.loop-i.invariant.3 c.in-Some.ensures.steps in
    (c.requires.0, rw x.index c.loop-i.invariant.4.sound, rw x.index x.before)

pub want-inner-requires : goal.want-inner-requires
want-inner-requires t c =
    let x = turn c.loop-i.invariant.2 c.loop-i.invariant.3 c.in-Some.ensures.steps in
    (c.requires.0, (tally-field _ _ _ _ _ _ _ _ _ c.loop-i.invariant.4 x.before _ x.node (sym c.nests.ensures ∙ c.if-nests.true)).0)

pub count-sum-requires : goal.count-sum-requires
count-sum-requires t c =
    let x = turn c.loop-i.invariant.2 c.loop-i.invariant.3 c.in-Some.ensures.steps in
    let a = tally-on _ _ _ _ _ _ _ _ _ c.loop-i.invariant.4 x.before _ x.node in
    let b = tally-room _ _ _ _ _ _ _ _ _ c.loop-i.invariant.4 x.before _ x.node in (
      omega (arith, c.decreases, c.loop-i.invariant.4.small, x.index),
      (
        rw c.want-inner.ensures (tally-there _ _ _ _ _ _ _ _ _ c.loop-i.invariant.4 x.before _ x.node (sym c.nests.ensures ∙ c.if-nests.true) c.args.schema.now.known.good c.requires.0),
        rw (c.want-inner.ensures, x.index) (tally-kids _ _ _ _ _ _ _ _ _ c.loop-i.invariant.4 x.before _ x.node),
      ),
    )

pub overflow_add-sum-else-nests : goal.overflow_add-sum-else-nests
overflow_add-sum-else-nests t c =
    let x = turn c.loop-i.invariant.2 c.loop-i.invariant.3 c.in-Some.ensures.steps in
    omega (arith, weight-le _ _ _ c.weight-sum.ensures, c.loop-i.invariant.4.small, x.before, c.ranges)

pub loop-i-preserved-then-nests : goal.loop-i-preserved-then-nests
loop-i-preserved-then-nests t c =
    let x = turn c.loop-i.invariant.2 c.loop-i.invariant.3 c.in-Some.ensures.steps in (
      tt,
      tt,
      x.nodes,
      x.last,
      rw x.on
          (tally-inner _ _ _ _ _ _ _ _ _ c.loop-i.invariant.4 x.before _ x.node (sym c.nests.ensures ∙ c.if-nests.true) (rw x.index at (sym c.is_live.ensures ∙ c.if-is_live.true)) _ (rw x.index at c.count-sum.ensures.bound)
          (rw (c.want-inner.ensures, x.index) at c.count-sum.ensures.amount)),
    )

pub loop-i-preserved-else-nests : goal.loop-i-preserved-else-nests
loop-i-preserved-else-nests t c =
    let x = turn c.loop-i.invariant.2 c.loop-i.invariant.3 c.in-Some.ensures.steps in (
      tt,
      tt,
      x.nodes,
      x.last,
      rw x.on
          (tally-scalar _ _ _ _ _ _ _ _ _ c.loop-i.invariant.4 x.before _ x.node (rw x.index at (sym c.is_live.ensures ∙ c.if-is_live.true)) (sym c.nests.ensures ∙ c.if-nests.false) _ c.weight-sum.ensures),
    )

pub loop-i-preserved : goal.loop-i-preserved
loop-i-preserved t c =
    let x = turn c.loop-i.invariant.2 c.loop-i.invariant.3 c.in-Some.ensures.steps in
    (tt, tt, x.nodes, x.last, rw x.on (tally-gone _ _ _ _ _ _ _ _ _ c.loop-i.invariant.4 x.before _ x.node (rw x.index at (sym c.is_live.ensures ∙ c.if-is_live.false))))

pub returns-clause-amount : goal.returns-clause-amount
returns-clause-amount t c = tally-end _ _ _ _ _ _ _ _ _ c.loop-i.invariant.4 (ended c.loop-i.invariant.2 c.loop-i.invariant.3 c.in-None.ensures.steps)

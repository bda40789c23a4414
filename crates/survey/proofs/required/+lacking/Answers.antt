-- `required::lacking` meets its contract. The invariant: what lacks in the whole is what lacks in the live messages and entries from the sibling
-- that the walk has come to on. What lies under a node is shorter than the span.
use native.Mathlib.Omega.{arith}
use mathlib.Core.Path.{sym, ◌∙◌}
use Rattle.nodes.proofs.Turns.{turn, ended}
use Rattle.survey.proofs.Lackings.{walk-own, walk_start, walk_end, walk-on, walk-kids, walk-room, walk-value, walk-gone, walk_field, walk-there, walk-live, walk-found}
use Rattle.survey.proofs.required.+lacking.Goals as goal
use Rattle.survey.proofs.required.+lacking.Goals.{else-nests-via-then-nests+else-is_live, else-nests-via-else-nests}

pub returns-then-is_some : goal.returns-then-is_some
returns-then-is_some t c = walk-own _ _ _ _ _ _ _ (c.lacking_in-own.ensures _) (sym c.is_some.ensures ∙ c.if-is_some.true)

pub loop-i-init : goal.loop-i-init
loop-i-init t c =
    let o = c.of-i-items.ensures in
    rw c.into_iter-i-iterator.ensures.into_iter_gives
    (tt, tt, o.0, o.2, rw o.1 (walk_start _ _ _ _ _ _ _ (c.lacking_in-own.ensures _) c.requires.1 (sym c.is_some.ensures ∙ c.if-is_some.false)))

pub want-inner-requires : goal.want-inner-requires
want-inner-requires t c =
    let x = turn c.loop-i.invariant.2 c.loop-i.invariant.3 c.in-Some.ensures.steps in
    (c.requires.0, (walk_field _ _ _ _ _ _ _ c.loop-i.invariant.4 x.before _ x.node (sym c.nests.ensures ∙ c.if-nests.true)).0)

pub lacking-below-requires : goal.lacking-below-requires
lacking-below-requires t c =
    let x = turn c.loop-i.invariant.2 c.loop-i.invariant.3 c.in-Some.ensures.steps in
    let a = walk-on _ _ _ _ _ _ _ c.loop-i.invariant.4 x.before _ x.node in
    let b = walk-room _ _ _ _ _ _ _ c.loop-i.invariant.4 x.before _ x.node in (
      omega (arith, c.decreases, c.loop-i.invariant.4.on, x.index),
      (
        rw c.want-inner.ensures (walk-there _ _ _ _ _ _ _ c.loop-i.invariant.4 x.before _ x.node (sym c.nests.ensures ∙ c.if-nests.true) c.args.schema.now.known.good c.requires.0),
        rw (c.want-inner.ensures, x.index) (walk-kids _ _ _ _ _ _ _ c.loop-i.invariant.4 x.before _ x.node),
      ),
    )

pub returns-then-is_some-2 : goal.returns-then-is_some-2
returns-then-is_some-2 t c =
    let x = turn c.loop-i.invariant.2 c.loop-i.invariant.3 c.in-Some.ensures.steps in
    walk-found _ _ _ _ _ _ _ c.loop-i.invariant.4 x.before _ x.node (sym c.nests.ensures ∙ c.if-nests.true) (rw x.index at (sym c.is_live.ensures ∙ c.if-is_live.true)) _
    (rw (c.want-inner.ensures, x.index) at c.lacking-below.ensures) (sym c.is_some-then-is_live.ensures ∙ c.if-is_some-2.true)

pub loop-i-preserved-then-is_live : goal.loop-i-preserved-then-is_live
loop-i-preserved-then-is_live t c =
    let x = turn c.loop-i.invariant.2 c.loop-i.invariant.3 c.in-Some.ensures.steps in (
      tt,
      tt,
      x.nodes,
      x.last,
      rw x.on
          (walk-live _ _ _ _ _ _ _ c.loop-i.invariant.4 x.before _ x.node (sym c.nests.ensures ∙ c.if-nests.true) (rw x.index at (sym c.is_live.ensures ∙ c.if-is_live.true)) _
          (rw (c.want-inner.ensures, x.index) at c.lacking-below.ensures) (sym c.is_some-then-is_live.ensures ∙ c.if-is_some-2.false)),
    )

pub loop-i-preserved : goal.loop-i-preserved
loop-i-preserved t c =
    let x = turn c.loop-i.invariant.2 c.loop-i.invariant.3 c.in-Some.ensures.steps in (
      tt,
      tt,
      x.nodes,
      x.last,
      rw x.on
          (elim c.else-nests.branch [
            | else-nests-via-then-nests+else-is_live w ↦ walk-gone _ _ _ _ _ _ _ c.loop-i.invariant.4 x.before _ x.node (sym c.nests.ensures ∙ w.if-nests.true) (rw x.index at (sym w.is_live.ensures ∙ w.if-is_live.false))
            | else-nests-via-else-nests w ↦ walk-value _ _ _ _ _ _ _ c.loop-i.invariant.4 x.before _ x.node (sym c.nests.ensures ∙ w.if-nests.false)
          ]),
    )

pub returns : goal.returns
returns t c = walk_end _ _ _ _ _ _ _ c.loop-i.invariant.4 (ended c.loop-i.invariant.2 c.loop-i.invariant.3 c.in-None.ensures.steps)

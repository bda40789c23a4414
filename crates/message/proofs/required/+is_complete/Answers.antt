-- `required::is_complete` meets its contract. The invariant: the whole is complete if the live messages and entries from the sibling that the
-- walk has come to on are. What lies under a node is shorter than the span.
use native.Mathlib.Omega.{arith}
use mathlib.Core.Path.{sym, ◌∙◌}
use Rattle.nodes.proofs.Turns.{turn, ended}
use Rattle.message.proofs.Requires.{walk-not, walk_start, walk_end, walk-on, walk-kids, walk-room, walk-value, walk-gone, walk_field, walk-there, walk-live, walk-missing}
use Rattle.message.proofs.required.+is_complete.Goals as goal
use Rattle.message.proofs.required.+is_complete.Goals.{else-nests-via-then-nests+else-is_live, else-nests-via-else-nests}

pub returns-then-not-filled : goal.returns-then-not-filled
returns-then-not-filled t c = walk-not _ _ _ _ _ _ c.requires.1 (sym (c.filled.ensures _) ∙ c.if-not-filled.true)

pub loop-i-init : goal.loop-i-init
loop-i-init t c =
    let o = c.of-i-items.ensures in
    rw c.into_iter-i-iterator.ensures.into_iter_gives
    (tt, tt, o.0, o.2, rw o.1 (walk_start _ _ _ _ _ _ c.requires.1 (sym (c.filled.ensures _) ∙ c.if-not-filled.false)))

pub want-inner-requires : goal.want-inner-requires
want-inner-requires t c =
    let x = turn c.loop-i.invariant.2 c.loop-i.invariant.3 c.in-Some.ensures.steps in
    (c.requires.0, (walk_field _ _ _ _ _ _ _ c.loop-i.invariant.4 x.before _ x.node (sym c.nests.ensures ∙ c.if-nests.true)).0)

pub is_complete-requires : goal.is_complete-requires
is_complete-requires t c =
    let x = turn c.loop-i.invariant.2 c.loop-i.invariant.3 c.in-Some.ensures.steps in
    let a = walk-on _ _ _ _ _ _ _ c.loop-i.invariant.4 x.before _ x.node in
    let b = walk-room _ _ _ _ _ _ _ c.loop-i.invariant.4 x.before _ x.node in (
      omega (arith, c.decreases, c.loop-i.invariant.4.on, x.index),
      (
        rw c.want-inner.ensures (walk-there _ _ _ _ _ _ _ c.loop-i.invariant.4 x.before _ x.node (sym c.nests.ensures ∙ c.if-nests.true) c.args.schema.now.known.good c.requires.0),
        rw (c.want-inner.ensures, x.index) (walk-kids _ _ _ _ _ _ _ c.loop-i.invariant.4 x.before _ x.node),
      ),
    )

pub returns-then-not-is_complete : goal.returns-then-not-is_complete
returns-then-not-is_complete t c =
    let x = turn c.loop-i.invariant.2 c.loop-i.invariant.3 c.in-Some.ensures.steps in
    walk-missing _ _ _ _ _ _ _ c.loop-i.invariant.4 x.before _ x.node (sym c.nests.ensures ∙ c.if-nests.true) (rw x.index at (sym c.is_live.ensures ∙ c.if-is_live.true))
    (rw (c.want-inner.ensures, x.index) at (sym c.is_complete.ensures ∙ c.if-not-is_complete.true))

pub loop-i-preserved-then-is_live : goal.loop-i-preserved-then-is_live
loop-i-preserved-then-is_live t c =
    let x = turn c.loop-i.invariant.2 c.loop-i.invariant.3 c.in-Some.ensures.steps in (
      tt,
      tt,
      x.nodes,
      x.last,
      rw x.on
          (walk-live _ _ _ _ _ _ _ c.loop-i.invariant.4 x.before _ x.node (sym c.nests.ensures ∙ c.if-nests.true) (rw x.index at (sym c.is_live.ensures ∙ c.if-is_live.true))
          (rw (c.want-inner.ensures, x.index) at (sym c.is_complete.ensures ∙ c.if-not-is_complete.false))),
    )

pub loop-i-preserved : goal.loop-i-preserved
loop-i-preserved t c =
    let x = turn c.loop-i.invariant.2 c.loop-i.invariant.3 c.in-Some.ensures.steps in (
      tt,
      tt,
      x.nodes,
      x.last,
      rw x.on
          (elim c.else-nests.branch [
            | else-nests-via-then-nests+else-is_live w ↦ walk-gone _ _ _ _ _ _ _ c.loop-i.invariant.4 x.before _ x.node (rw x.index at (sym w.is_live.ensures ∙ w.if-is_live.false))
            | else-nests-via-else-nests w ↦ walk-value _ _ _ _ _ _ _ c.loop-i.invariant.4 x.before _ x.node (sym c.nests.ensures ∙ w.if-nests.false)
          ]),
    )

pub returns : goal.returns
returns t c = walk_end _ _ _ _ _ _ _ c.loop-i.invariant.4 (ended c.loop-i.invariant.2 c.loop-i.invariant.3 c.in-None.ensures.steps)

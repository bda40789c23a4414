-- `live::has_key` meets its contract. The invariant: an entry with the key stands from the sibling that the walk has come to on, if one stands there at all.
use mathlib.Core.Path.{sym, ◌∙◌}
use Rattle.nodes.proofs.Turns.{turn, ended}
use Rattle.live.proofs.Seeks.{seek-end, seek-other, seek-entry, seek_found, seek-unlike}
use Rattle.live.proofs.has_key.Goals as goal
use Rattle.live.proofs.has_key.Goals.{else-rank-via-then-rank+else-same_key, else-rank-via-else-rank}

pub same_key-requires : goal.same_key-requires
same_key-requires c =
    let t = turn c.loop-j.invariant.2 c.loop-j.invariant.3 c.in-Some.ensures.steps in
    (c.requires.0, rw t.index (seek-entry _ _ _ _ _ _ _ c.loop-j.invariant.4 t.before _ t.node (sym c.rank.ensures ∙ c.if-rank.true)))

pub returns-then-same_key : goal.returns-then-same_key
returns-then-same_key c =
    let t = turn c.loop-j.invariant.2 c.loop-j.invariant.3 c.in-Some.ensures.steps in
    seek_found _ _ _ _ _ _ _ c.loop-j.invariant.4 t.before _ t.node (sym c.rank.ensures ∙ c.if-rank.true) (rw t.index at (sym c.same_key.ensures ∙ c.if-same_key.true))

pub loop-j-preserved : goal.loop-j-preserved
loop-j-preserved c =
    let t = turn c.loop-j.invariant.2 c.loop-j.invariant.3 c.in-Some.ensures.steps in (
      tt,
      tt,
      t.nodes,
      t.last,
      rw t.on
          (elim c.else-rank.branch [
            | else-rank-via-then-rank+else-same_key w ↦ seek-unlike _ _ _ _ _ _ _ c.loop-j.invariant.4 t.before _ t.node (sym c.rank.ensures ∙ w.if-rank.true) (rw t.index at (sym w.same_key.ensures ∙ w.if-same_key.false))
            | else-rank-via-else-rank w ↦ seek-other _ _ _ _ _ _ _ c.loop-j.invariant.4 t.before _ t.node (λ q. w.if-rank.false (c.rank.ensures ∙ q))
          ]),
    )

pub returns : goal.returns
returns c = seek-end _ _ _ _ _ _ _ c.loop-j.invariant.4 (ended c.loop-j.invariant.2 c.loop-j.invariant.3 c.in-None.ensures.steps)

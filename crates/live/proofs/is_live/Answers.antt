-- `live::is_live` meets its contract: how values of the node's rank share says what is asked of its later siblings.
use mathlib.Core.Path.{sym, ◌∙◌}
use Rattle.live.proofs.Lives.{live-fits, live-after, live_all, live_last, live-entry, live-mapped, live_key}
use Rattle.live.proofs.is_live.Goals as goal

pub sharing_at-requires : goal.sharing_at-requires
sharing_at-requires c = (c.requires.0, live-fits _ _ _ _ _ _ c.requires.1 c.requires.2 _ c.node-n.ensures)

pub has-requires : goal.has-requires
has-requires c = let x = live-after _ _ _ _ _ _ c.requires.1 c.requires.2 _ c.node-n.ensures in (x.tiled, x.room)

pub has_key-requires : goal.has_key-requires
has_key-requires c = (
  live-entry _ _ _ _ _ _ c.requires.1 c.requires.2 _ c.node-n.ensures (sym c.sharing_at.ensures ∙ c.in-LastOfKey.is),
  rw c.rank-in-LastOfKey.ensures (live-mapped _ _ _ _ _ _ c.requires.1 c.requires.2 _ c.node-n.ensures (sym c.sharing_at.ensures ∙ c.in-LastOfKey.is)),
)

pub returns-in-Last : goal.returns-in-Last
returns-in-Last c = live_last _ _ _ _ _ _ c.requires.1 c.requires.2 _ c.node-n.ensures (sym c.sharing_at.ensures ∙ c.in-Last.is) _ (rw c.rank.ensures at (c.has.ensures c.args.pool.now))

pub returns-in-LastOfKey : goal.returns-in-LastOfKey
returns-in-LastOfKey c = live_key _ _ _ _ _ _ c.requires.1 c.requires.2 _ c.node-n.ensures (sym c.sharing_at.ensures ∙ c.in-LastOfKey.is) _ (rw c.rank-in-LastOfKey.ensures at c.has_key.ensures)

pub returns-in-All : goal.returns-in-All
returns-in-All c = live_all _ _ _ _ _ _ c.requires.1 c.requires.2 _ c.node-n.ensures (sym c.sharing_at.ensures ∙ c.in-All.is)

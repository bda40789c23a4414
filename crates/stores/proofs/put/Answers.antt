-- `stores::put` meets its contract: past the end nothing is stored.
use mathlib.Core.Path.{sym}
use lib.Seq.{set_out}
use Rattle.stores.proofs.put.Goals as goal

pub returns-else-place-room : goal.returns-else-place-room
returns-else-place-room c = sym (set_out _ _ _ c.if-place-room.false)

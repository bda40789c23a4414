-- `stores::put_run` meets its contract: nothing, a part or all of it is stored.
use mathlib.Core.Path.{sym}
use Rattle.laws.proofs.Stores.{sets-out}
use Rattle.stores.proofs.put_run.Goals as goal

pub returns-then-room-at : goal.returns-then-room-at
returns-then-room-at c = sym (sets-out c.args.part.now _ _ c.if-room-at.true)

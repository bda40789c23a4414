-- `stores::put_clipped` meets its contract. The invariant: the bytes passed are stored.
use Rattle.stores.proofs.Stores.{stored-start, stored-length, stored_on, stored-all}
use Rattle.stores.proofs.put_clipped.Goals as goal

pub loop-i-init : goal.loop-i-init
loop-i-init c = stored-start _ _ _

pub loop-i-preserved : goal.loop-i-preserved
loop-i-preserved c = stored_on _ _ _ _ _ c.loop-i.invariant _ c.loop-i-test.true c.put.ensures

pub shape_of-room : goal.shape_of-room
shape_of-room c = stored-length _ _ _ _ _ c.loop-i.invariant

pub returns : goal.returns
returns c = stored-all _ _ _ _ _ c.loop-i.invariant c.loop-i-test.false

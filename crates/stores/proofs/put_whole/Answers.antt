-- `stores::put_whole` meets its contract. The invariant: the bytes passed are stored.
use mathlib.Core.Path.{refl}
use native.Mathlib.Omega.{arith}
use Rattle.stores.proofs.Stores.{stored-start, stored-length, stored_on, stored-all}
use Rattle.stores.proofs.put_whole.Goals as goal

pub loop-i-init : goal.loop-i-init
loop-i-init c = stored-start _ _ _

pub overflow_add-room : goal.overflow_add-room
overflow_add-room c = omega (arith, c.requires, c.loop-i-test.true)

pub bounds-room-at : goal.bounds-room-at
bounds-room-at c = omega (arith, c.requires, c.loop-i-test.true, stored-length _ _ _ _ _ c.loop-i.invariant)

pub loop-i-preserved : goal.loop-i-preserved
loop-i-preserved c = stored_on _ _ _ _ _ c.loop-i.invariant _ c.loop-i-test.true refl

pub shape_of-room : goal.shape_of-room
shape_of-room c = stored-length _ _ _ _ _ c.loop-i.invariant

pub returns : goal.returns
returns c = stored-all _ _ _ _ _ c.loop-i.invariant c.loop-i-test.false

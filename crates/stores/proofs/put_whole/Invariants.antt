-- `stores::put_whole` meets its contract. The invariant: the bytes passed are stored.
use Rattle.stores.proofs.Stores.{Stored}
use Rattle.stores.proofs.put_whole.Given as goal

abbrev pub invariant-loop-i : goal.invariant-loop-i
invariant-loop-i l = Stored l.part l.initial.room l.at l.room l.i

-- `ventro::calls::arguments` is safe and ends: the arguments so far lie in the room. Assumes nothing.
use Rattle.std.proofs.Common.{◌≤◌, length}
use Rattle.ventro.proofs.calls.arguments.Given as goal

abbrev pub invariant-loop-i : goal.invariant-loop-i
invariant-loop-i l = l.at ≤ length l.room

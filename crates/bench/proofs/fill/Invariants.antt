-- `bench::fill`: what is read so far lies within the room.
use Rattle.std.proofs.Common.{◌≤◌, length}
use Rattle.bench.proofs.fill.Given as goal

abbrev pub invariant-loop : goal.invariant-loop
invariant-loop l = l.n ≤ length l.room

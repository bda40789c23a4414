-- `report::files::fill` is safe and ends: what was read lies in the room. Assumes nothing.
use Rattle.std.proofs.Common.{◌≤◌, length}
use Rattle.report.proofs.files.fill.Given as goal

abbrev pub invariant-loop : goal.invariant-loop
invariant-loop g l = l.n ≤ length l.room

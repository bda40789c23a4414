-- `leaves::ranges::widened` meets its contract.
use Rattle.std.proofs.Common.{arith}
use Rattle.std.proofs.lemmas.Int.{ints}
use Rattle.std.proofs.lemmas.Bool.Decides.{nat_tests}
use Rattle.definitions.specs.Nodes.{widen}
use Rattle.leaves.proofs.ranges.widened.Goals as goal

pub returns : goal.returns
unfolding widen
returns c = grind (arith, ints, nat_tests)

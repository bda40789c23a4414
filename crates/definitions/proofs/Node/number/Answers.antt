-- `definitions::Node::number` meets its contract: the words do not overlap.
use Rattle.std.proofs.Common.{arith}
use Rattle.std.proofs.lemmas.Grind.{common_steps}
use Rattle.definitions.specs.Nodes.{number_of}
use Rattle.definitions.proofs.Node.number.Goals as goal

pub returns : goal.returns
unfolding number_of
returns c = grind (arith, common_steps)

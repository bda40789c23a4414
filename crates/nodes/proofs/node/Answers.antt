-- `nodes::node` meets its contract: five reads in a row.
use Rattle.nodes.proofs.Words.{node-words}
use Rattle.nodes.proofs.node.Goals as goal

pub returns : goal.returns
returns c = node-words _ _

-- `nodes::table_end` meets its contract.
use mathlib.Core.Path.{ap}
use Rattle.definitions.specs.declared.Node.{Node}
use Rattle.definitions.specs.Nodes.{table_end}
use Rattle.nodes.proofs.table_end.Goals as goal

pub returns : goal.returns
unfolding table_end
returns c = ap (λ (n : Node). n.end) c.node.ensures

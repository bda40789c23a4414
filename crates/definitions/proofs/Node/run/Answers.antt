-- `definitions::Node::run` meets its contract.
use Rattle.std.proofs.Common.{◌≡◌, ◌+◌, ◌-◌, arith}
use Rattle.definitions.specs.Nodes.{run_of}
use Rattle.definitions.proofs.Node.run.Goals as goal

pub returns : goal.returns
unfolding run_of
returns c =
    let long : c.args.self.high + c.args.self.low - c.args.self.high ≡ c.args.self.low = omega arith in
    rw long

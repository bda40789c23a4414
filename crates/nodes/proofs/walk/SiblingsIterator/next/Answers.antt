-- `next` over the siblings of a span meets its contract: the siblings after one tile the rest of the span, which is shorter.
use Rattle.std.proofs.Common.{rules, ◌<◌}
use Rattle.laws.proofs.Forest.{tiles-parts}
use Rattle.nodes.proofs.walk.SiblingsIterator.next.Goals as goal

pub invariant_of-self : goal.invariant_of-self
invariant_of-self c = record { tiled = rw c.node-n.ensures (tiles-parts _ _ _ c.if-self-at.false c.args.self.now.tiled).rest; room = c.args.self.now.room }

pub returns-clause-goes : goal.returns-clause-goes
returns-clause-goes c =
    let on : c.args.self.now.at < c.node-n.result.end = rw c.node-n.ensures (tiles-parts _ _ _ c.if-self-at.false c.args.self.now.tiled).on in
    search rules

-- `parse::read_text` meets its contract: the pass over empty parts counts, and the pass over the table and the pool stores.
use native.Mathlib.Omega.{arith}
use Rattle.std.proofs.lemmas.Result.{err_from_is_err_and}
use Rattle.parse.proofs.Wholes.{empty-part, ends-no, ends-nodes, ends-bytes, ends-made, counted-node}
use Rattle.parse.proofs.read_text.Goals as goal

pub returns-in_err-counted : goal.returns-in_err-counted
returns-in_err-counted c =
    let p = err_from_is_err_and c.from_residual.result c.from_residual.ensures.1 in
    let w = ends-no c.args.schema.now.image.now c.args.root c.args.text.now c.args.nodes.now c.args.pool.now _ _ _ _ _ c.read_root.ensures _ _ (empty-part c.read_root.new.nodes c.args.nodes.now c.read_root.auto.nodes) (empty-part c.read_root.new.pool c.args.pool.now c.read_root.auto.pool) _ c.in_err-counted.was in
    rw (p.1, p.2) (record { answer = w.0; table = w.1.0; bytes = w.1.1 })

pub returns-then-node_room-made : goal.returns-then-node_room-made
returns-then-node_room-made c =
    let w = ends-nodes c.args.schema.now.image.now c.args.root c.args.text.now c.args.nodes.now c.args.pool.now _ _ _ _ _ c.read_root.ensures _ _ (empty-part c.read_root.new.nodes c.args.nodes.now c.read_root.auto.nodes) (empty-part c.read_root.new.pool c.args.pool.now c.read_root.auto.pool) _ c.in_ok-counted.was _ c.node_room.ensures c.if-node_room-made.true in
    record { answer = rw c.unplaced.ensures w.0; table = w.1.0; bytes = w.1.1 }

pub returns-then-pool-made : goal.returns-then-pool-made
returns-then-pool-made c =
    let w = ends-bytes c.args.schema.now.image.now c.args.root c.args.text.now c.args.nodes.now c.args.pool.now _ _ _ _ _ c.read_root.ensures _ _ (empty-part c.read_root.new.nodes c.args.nodes.now c.read_root.auto.nodes) (empty-part c.read_root.new.pool c.args.pool.now c.read_root.auto.pool) _ c.in_ok-counted.was _ c.node_room.ensures c.if-node_room-made.false c.if-pool-made.true in
    record { answer = rw c.unplaced-then-pool-made.ensures w.0; table = w.1.0; bytes = w.1.1 }

pub put_body-requires : goal.put_body-requires
put_body-requires c =
    let n = counted-node c.args.schema.now.image.now c.args.root c.args.text.now c.args.nodes.now c.args.pool.now _ _ _ _ _ c.read_root.ensures _ _ (empty-part c.read_root.new.nodes c.args.nodes.now c.read_root.auto.nodes) (empty-part c.read_root.new.pool c.args.pool.now c.read_root.auto.pool) _ c.in_ok-counted.was c.requires.1 in
    rw c.root_want.ensures (omega arith, omega (arith, n))

pub returns : goal.returns
returns c =
    let w = ends-made c.args.schema.now.image.now c.args.root c.args.text.now c.args.nodes.now c.args.pool.now _ _ _ _ _ c.read_root.ensures _ _ (empty-part c.read_root.new.nodes c.args.nodes.now c.read_root.auto.nodes) (empty-part c.read_root.new.pool c.args.pool.now c.read_root.auto.pool) _ c.in_ok-counted.was _ c.node_room.ensures c.if-node_room-made.false c.if-pool-made.false _ _ _ c.read_root-2.ensures c.read_root-2.auto.nodes _ (rw c.root_want.ensures at c.put_body.ensures) in
    record { answer = w.0; table = w.1.0; bytes = w.1.1 }

-- `leaves::store::put_number` meets its contract: a node's words are put where there is room.
use lib.Bits.{and_mask}
use Rattle.leaves.proofs.Returns.{number-answers}
use Rattle.leaves.proofs.store.put_number.Goals as goal

pub returns : goal.returns
returns c = λ s g.
    number-answers _ _ c.args.w c.args.q _ _
    (rw (c.from.ensures, c.from-2.ensures, and_mask c.args.v 32) at c.put.ensures) s g

-- `bodies::read_root` meets its contract: the root is a message of the schema, read from the start of the text.
use mathlib.Core.Path.{refl}
use Rattle.bodies.proofs.Origin.{origin-fair, root-fits}
use Rattle.bodies.proofs.read_root.Goals as goal

pub read_message-requires : goal.read_message-requires
read_message-requires c = rw c.root_want-w.ensures (origin-fair _, root-fits _ _ c.requires, refl)

pub returns : goal.returns
returns c = rw c.root_want-w.ensures at c.read_message.ensures

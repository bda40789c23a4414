-- `records::tables::Tables::message` meets its contract: the record lies inside the image.
use native.Mathlib.Omega.{arith}
use Rattle.definitions.specs.Image.{message, messages_at}
use Rattle.records.proofs.Room.{placed_message}
use Rattle.records.proofs.tables.Tables.message.Goals as goal

pub overflow_mul-index : goal.overflow_mul-index
overflow_mul-index c = omega (arith, placed_message c.args.self.now.placed c.args.index c.requires)

pub overflow_add-index : goal.overflow_add-index
overflow_add-index c = omega (arith, placed_message c.args.self.now.placed c.args.index c.requires)

pub span_at-requires : goal.span_at-requires
span_at-requires c = placed_message c.args.self.now.placed c.args.index c.requires

pub returns : goal.returns
unfolding message messages_at
returns c = c.span_at.ensures

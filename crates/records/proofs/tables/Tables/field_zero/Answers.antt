-- `records::tables::Tables::field_zero` meets its contract: the record lies inside the image.
use Rattle.std.proofs.Common.{◌∙◌, ap, ℕ, ◌+◌, ◌*◌, drop, arith}
use Rattle.definitions.specs.Image.{field_zero, field_at}
use Rattle.records.proofs.Room.{field_room, fields-start}
use Rattle.records.proofs.tables.Tables.field_zero.Goals as goal

pub overflow_mul-index : goal.overflow_mul-index
overflow_mul-index c = omega (arith, field_room c.args.self.now.image.now c.args.self.now.layout c.args.self.now.placed c.args.index c.requires)

pub overflow_add-self : goal.overflow_add-self
overflow_add-self c = omega (arith, field_room c.args.self.now.image.now c.args.self.now.layout c.args.self.now.placed c.args.index c.requires)

pub field_zero-requires : goal.field_zero-requires
field_zero-requires c = field_room c.args.self.now.image.now c.args.self.now.layout c.args.self.now.placed c.args.index c.requires

pub returns : goal.returns
unfolding field_at
returns c = c.field_zero.ensures ∙ ap (λ (a : ℕ). field_zero (drop (a + 9 * c.args.index) c.args.self.now.image.now)) (fields-start c.args.self.now.image.now c.args.self.now.layout c.args.self.now.placed)

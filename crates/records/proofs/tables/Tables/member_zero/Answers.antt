-- `records::tables::Tables::member_zero` meets its contract: the record lies inside the image.
use Rattle.std.proofs.Common.{◌∙◌, ap, ℕ, ◌+◌, ◌*◌, drop, arith}
use Rattle.definitions.specs.Image.{member_zero, member_at}
use Rattle.records.proofs.Room.{value_room, values-start}
use Rattle.records.proofs.tables.Tables.member_zero.Goals as goal

pub overflow_mul-index : goal.overflow_mul-index
overflow_mul-index c = omega (arith, value_room c.args.self.now.image.now c.args.self.now.layout c.args.self.now.placed c.args.index c.requires)

pub overflow_add-self : goal.overflow_add-self
overflow_add-self c = omega (arith, value_room c.args.self.now.image.now c.args.self.now.layout c.args.self.now.placed c.args.index c.requires)

pub member_zero-requires : goal.member_zero-requires
member_zero-requires c = value_room c.args.self.now.image.now c.args.self.now.layout c.args.self.now.placed c.args.index c.requires

pub returns : goal.returns
unfolding member_at
returns c = c.member_zero.ensures ∙ ap (λ (a : ℕ). member_zero (drop (a + 7 * c.args.index) c.args.self.now.image.now)) (values-start c.args.self.now.image.now c.args.self.now.layout c.args.self.now.placed)

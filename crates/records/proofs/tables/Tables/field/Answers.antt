-- `records::tables::Tables::field` meets its contract: the record lies inside the image.
use mathlib.Core.Path.{◌∙◌, ap}
use Prim.Native.Nat.{ℕ, ◌+◌, ◌*◌}
use native.Mathlib.Omega.{arith}
use lib.ListN.{drop}
use Rattle.definitions.specs.Image.{field, field_at, field_of}
use Rattle.records.proofs.Room.{field_room, fields-start}
use Rattle.records.proofs.tables.Tables.field.Goals as goal

pub overflow_mul-index : goal.overflow_mul-index
overflow_mul-index c = omega (arith, field_room c.args.self.now.image.now c.args.self.now.layout c.args.self.now.placed c.args.index c.requires)

pub overflow_add-self : goal.overflow_add-self
overflow_add-self c = omega (arith, field_room c.args.self.now.image.now c.args.self.now.layout c.args.self.now.placed c.args.index c.requires)

pub field_at-requires : goal.field_at-requires
field_at-requires c = field_room c.args.self.now.image.now c.args.self.now.layout c.args.self.now.placed c.args.index c.requires

pub returns : goal.returns
unfolding field field_at
returns c = c.field_at.ensures ∙ ap (λ (a : ℕ). field_of (drop (a + 9 * c.args.index) c.args.self.now.image.now)) (fields-start c.args.self.now.image.now c.args.self.now.layout c.args.self.now.placed)

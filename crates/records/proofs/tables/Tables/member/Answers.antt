-- `records::tables::Tables::member` meets its contract: the record lies inside the image.
use mathlib.Core.Path.{◌∙◌, ap}
use Prim.Native.Nat.{ℕ, ◌+◌, ◌*◌}
use native.Mathlib.Omega.{arith}
use lib.ListN.{drop}
use Rattle.definitions.specs.Image.{member, member_at, member_of}
use Rattle.records.proofs.Room.{value_room, values-start}
use Rattle.records.proofs.tables.Tables.member.Goals as goal

pub overflow_mul-index : goal.overflow_mul-index
overflow_mul-index c = omega (arith, value_room c.args.self.now.image.now c.args.self.now.layout c.args.self.now.placed c.args.index c.requires)

pub overflow_add-self : goal.overflow_add-self
overflow_add-self c = omega (arith, value_room c.args.self.now.image.now c.args.self.now.layout c.args.self.now.placed c.args.index c.requires)

pub member_at-requires : goal.member_at-requires
member_at-requires c = value_room c.args.self.now.image.now c.args.self.now.layout c.args.self.now.placed c.args.index c.requires

pub returns : goal.returns
unfolding member member_at
returns c = c.member_at.ensures ∙ ap (λ (a : ℕ). member_of (drop (a + 7 * c.args.index) c.args.self.now.image.now)) (values-start c.args.self.now.image.now c.args.self.now.layout c.args.self.now.placed)

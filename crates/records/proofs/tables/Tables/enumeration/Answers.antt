-- `records::tables::Tables::enumeration` meets its contract: the record lies inside the image.
use mathlib.Core.Path.{◌∙◌, ap}
use Prim.Native.Nat.{ℕ, ◌+◌, ◌*◌}
use native.Mathlib.Omega.{arith}
use lib.ListN.{drop}
use Rattle.definitions.specs.Image.{enumeration, span_of}
use Rattle.records.proofs.Room.{enum-room, enums-start}
use Rattle.records.proofs.tables.Tables.enumeration.Goals as goal

pub overflow_mul-index : goal.overflow_mul-index
overflow_mul-index c = omega (arith, enum-room c.args.self.now.image.now c.args.self.now.layout c.args.self.now.placed c.args.index c.requires)

pub overflow_add-self : goal.overflow_add-self
overflow_add-self c = omega (arith, enum-room c.args.self.now.image.now c.args.self.now.layout c.args.self.now.placed c.args.index c.requires)

pub span_at-requires : goal.span_at-requires
span_at-requires c = enum-room c.args.self.now.image.now c.args.self.now.layout c.args.self.now.placed c.args.index c.requires

pub returns : goal.returns
unfolding enumeration
returns c = c.span_at.ensures ∙ ap (λ (a : ℕ). span_of (drop (a + 3 * c.args.index) c.args.self.now.image.now)) (enums-start c.args.self.now.image.now c.args.self.now.layout c.args.self.now.placed)

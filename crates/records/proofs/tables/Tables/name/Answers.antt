-- `records::tables::Tables::name` meets its contract: the name lies inside the image.
use mathlib.Core.Path.{◌≡◌, refl}
use Prim.Native.Nat.{ℕ, ◌+◌, ◌-◌}
use mathlib.Core.List.{List}
use native.Mathlib.Omega.{arith}
use lib.ListN.{drop, take}
use Rattle.definitions.specs.Image.{names_at, name_text}
use Rattle.records.proofs.Room.{name-room, names-start}
use Rattle.records.proofs.tables.Tables.name.Goals as goal

text : (s : List ℕ) (at start count names : ℕ) → names ≡ at → take (names + start + count - (names + start)) (drop (names + start) s) ≡ take count (drop (at + start) s)
text s at start count names e =
    let l : names + start + count - (names + start) ≡ count = omega arith in
    rw (l, e) refl

pub overflow_add-at : goal.overflow_add-at
overflow_add-at c = omega (arith, name-room c.args.self.now.image.now c.args.self.now.layout c.args.self.now.placed c.args.start c.args.count c.requires)

pub overflow_add-end : goal.overflow_add-end
overflow_add-end c = omega (arith, name-room c.args.self.now.image.now c.args.self.now.layout c.args.self.now.placed c.args.start c.args.count c.requires)

pub slice_bounds-result-end : goal.slice_bounds-result-end
slice_bounds-result-end c = name-room c.args.self.now.image.now c.args.self.now.layout c.args.self.now.placed c.args.start c.args.count c.requires

pub returns : goal.returns
unfolding name_text
returns c = text c.args.self.now.image.now (names_at c.args.self.now.image.now) c.args.start c.args.count c.args.self.now.layout.names (names-start c.args.self.now.image.now c.args.self.now.layout c.args.self.now.placed)

-- `schema::enum_runs_good` meets its contract: enums begin where the layout says.
use Rattle.std.proofs.Common.{◌∙◌, refl, arith}
use Rattle.definitions.specs.Image.{enumeration}
use Rattle.records.proofs.Room.{enum_count-lt, enums-room, enums-start}
use Rattle.schema.proofs.enum_runs_good.Goals as goal

pub runs_good-requires : goal.runs_good-requires
runs_good-requires c =
    let s = c.args.tables.now.image.now in
    (omega (arith, c.enum_count.ensures, enum_count-lt s), omega (arith, c.enum_count.ensures, enums-room s c.args.tables.now.layout c.args.tables.now.placed))

pub returns : goal.returns
unfolding enumeration
returns c = c.runs_good.ensures ∙ rw (enums-start c.args.tables.now.image.now c.args.tables.now.layout c.args.tables.now.placed, c.enum_count.ensures, c.value_count.ensures) refl

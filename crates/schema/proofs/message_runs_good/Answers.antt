-- `schema::message_runs_good` meets its contract: messages begin behind the header.
use Rattle.std.proofs.Common.{◌∙◌, refl, arith}
use Rattle.definitions.specs.Image.{message, messages_at}
use Rattle.records.proofs.Room.{message_count-lt, messages-room}
use Rattle.schema.proofs.message_runs_good.Goals as goal

pub runs_good-requires : goal.runs_good-requires
runs_good-requires c =
    let s = c.args.tables.now.image.now in
    (omega (arith, c.message_count.ensures, message_count-lt s), omega (arith, c.message_count.ensures, messages-room s c.args.tables.now.placed.whole))

pub returns : goal.returns
unfolding message messages_at
returns c = c.runs_good.ensures ∙ rw (c.message_count.ensures, c.field_count.ensures) refl

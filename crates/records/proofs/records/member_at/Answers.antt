-- `records::records::member_at` meets its contract, field by field.
use mathlib.Core.Path.{refl}
use Rattle.bits.proofs.BitLaws.{bits-first}
use Rattle.records.proofs.records.member_at.Goals as goal

pub returns : goal.returns
returns c =
    let s = c.args.image.now in
    let at = c.args.at in
    cc (
      bits-first s at 0 16 40 56 refl c.load-word.ensures c.cut.ensures,
      bits-first s at 16 6 34 56 refl c.load-word.ensures c.cut-2.ensures,
      bits-first s at 22 32 2 56 refl c.load-word.ensures c.cut-3.ensures,
    )
